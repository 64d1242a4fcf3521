-- Numbers without a sign: what a reader of such a number may take for granted, and when it reads one.
use Rattle.std.proofs.Common.{◌≡◌, ℕ, ◌+◌, ◌<◌, true, false, List, [], ◌∷◌, ◌++◌, length, drop, Ok, Err, sym, refl, ap, ◌∙◌, subst, add-zero, arith}
use Rattle.std.proofs.lemmas.List.{drop-drop, drop_at, append_assoc, length-append}
use Rattle.std.proofs.lemmas.Bool.{false≢true}
use Rattle.text.specs.declared.faults.Fault.{Fault}
use Rattle.text.specs.declared.lexing.Number.{Number}
use Rattle.text.specs.Bytes.{White, Decimal}
use Rattle.text.specs.Lexing.{Out, numbered}
pub use Rattle.text.specs.Numerals.{Plain}
use Rattle.text.specs.Numerals.{decimal, Numeral, Ends, Reads, numeral, nothing, stray, glued, long}
use Rattle.text.proofs.Numerals.{reads_is, is_spelt}

pub drop_two : (xs ys zs t : List ℕ) (at p : ℕ) → drop at t ≡ xs ++ (ys ++ zs) → p ≡ at + length xs + length ys → drop p t ≡ zs
drop_two xs ys zs t at p e q =
    ap (λ n. drop n t) (q ∙ shift) ∙ sym (drop-drop (length xs + length ys) at t) ∙ ap (drop (length xs + length ys)) (e ∙ sym (append_assoc xs ys zs)) ∙ drop_at (xs ++ ys) zs (length xs + length ys) (length-append xs ys)
  where
    shift : at + length xs + length ys ≡ at + (length xs + length ys)
    shift = omega arith

pub plain_reads : (t : List ℕ) (at v : ℕ) (rest : List ℕ) → (h : Plain (drop at t) v rest)
    → (numbered false t at ≡ record { result = Ok (record { magnitude = v; negative = false; start = at + length h.ws }); at = at + length h.ws + length h.ds }) × (drop (at + length h.ws + length h.ds) t ≡ rest)
plain_reads t at v rest h = (
  sym (reads_is false (length t) at (drop at t) _ (numeral h.ws false h.ds rest h.split h.white (λ e. absurd (false≢true e)) h.digits h.ends refl))
      ∙ (λ i. record { result = Ok (record { magnitude = h.value i; negative = false; start = at + length h.ws }); at = add-zero (at + length h.ws) i + length h.ds }),
  drop_two h.ws h.ds rest t at _ h.split refl,
)

pub never : {o : Out Number} {n : Number} {f : Fault} {p q : ℕ} → o ≡ record { result = Ok n; at = p } → o ≡ record { result = Err f; at = q } → ⊥
never a b = let z : ◌≡◌ {A = ℕ} 0 1 = cc (ap (λ x. x.result) a, ap (λ x. x.result) b) in omega arith

-- a number that is read is spelt so, and starts behind its white space
pub plain_found : (t : List ℕ) (at : ℕ) (n : Number) (p : ℕ) → numbered false t at ≡ record { result = Ok n; at = p } → (h : Plain (drop at t) n.magnitude (drop p t)) × (n.start ≡ at + length h.ws)
plain_found t at n p e = go (numbered false t at) e (is_spelt false (length t) at (drop at t))
  where
    go : (o : Out Number) → o ≡ record { result = Ok n; at = p } → Reads false (length t) at (drop at t) o → (h : Plain (drop at t) n.magnitude (drop p t)) × (n.start ≡ at + length h.ws)
    go o a (numeral ws true ds rest split w may d ends is) = absurd (false≢true (may refl))
    go o a (numeral ws false ds rest split w may d ends is) =
        let place : p ≡ at + length ws + length ds = ap (λ x. x.at) (sym a ∙ is) ∙ ap (λ x. x + length ds) (add-zero (at + length ws)) in
        let same : n ≡ record { magnitude = decimal ds; negative = false; start = at + length ws } = cc (ap (λ x. x.result) (sym a ∙ is)) in
        let behind = drop_two ws ds rest t at p split place in (
          record {
            ws = ws;
            ds = ds;
            split = split ∙ ap (λ l. ws ++ (ds ++ l)) (sym behind);
            white = w;
            digits = d;
            value = ap (λ x. x.magnitude) (sym same);
            ends = subst Ends (sym behind) ends;
          },
          ap (λ x. x.start) same,
        )
    go o a (nothing ws m split w may is) = absurd (never a is)
    go o a (stray ws m rest split w may unfit is) = absurd (never a is)
    go o a (glued ws m ds rest split w may d stops is) = absurd (never a is)
    go o a (long ws m ds d rest split w may all six h is) = absurd (never a is)

pub plain_read : (t : List ℕ) (at : ℕ) (n : Number) (p : ℕ) → numbered false t at ≡ record { result = Ok n; at = p } → Plain (drop at t) n.magnitude (drop p t)
plain_read t at n p e = (plain_found t at n p e).0

-- where a number begins behind another's end, white space stands between
pub gap : (ws ds rest : List ℕ) (bs : List ℕ) → bs ≡ ws ++ (ds ++ rest) → Numeral ds → Ends bs → 0 < length ws
gap [] [] rest bs e n ends = absurd (omega (arith, n.1))
gap [] (d ∷ ds) rest bs e n ends = absurd (apart d n.0.0 (subst Ends e ends))
  where
    apart : (b : ℕ) → Decimal b → White b → ⊥
    apart b h w = omega arith
gap (w ∷ ws) ds rest bs e n ends = omega arith
