-- Numbers that may have a sign: read so where they are spelt so, and spelt so where they are read.
use Rattle.std.proofs.Common.{◌≡◌, ℕ, ◌+◌, true, cond, List, ◌++◌, length, drop, ℤ, pos, neg_ℤ, Ok, sym, refl, ap, ◌∙◌, subst, arith}
use Rattle.std.proofs.lemmas.List.{append_assoc, length-append}
use Rattle.text.specs.declared.lexing.Number.{Number}
use Rattle.text.specs.Lexing.{Out, numbered}
use Rattle.text.specs.Numerals.{minus, decimal, Ends, Signed, Reads, numeral, nothing, stray, glued, long}
use Rattle.text.proofs.Numerals.{reads_is, is_spelt}
use Rattle.text.proofs.Plain.{drop_two, never}

-- the place behind white space, a sign and digits
drop_three : (xs ys zs rest t : List ℕ) (at : ℕ) → drop at t ≡ xs ++ (ys ++ (zs ++ rest)) → drop (at + length xs + length ys + length zs) t ≡ rest
drop_three xs ys zs rest t at e =
    let shift : at + length xs + length ys + length zs ≡ at + length (xs ++ ys) + length zs = omega (arith, length-append xs ys) in
    drop_two (xs ++ ys) zs rest t at _ (e ∙ sym (append_assoc xs ys (zs ++ rest))) shift

module _ (t : List ℕ) (at : ℕ) where
  module _ {z : ℤ} {rest : List ℕ} (h : Signed (drop at t) z rest) where
    -- the number that is spelt so, and the place behind it
    abbrev pub spelt_number : Number
    spelt_number = record { magnitude = decimal h.ds; negative = h.negative; start = at + length h.ws }

    abbrev pub behind_it : ℕ
    behind_it = at + length h.ws + length (minus h.negative) + length h.ds

    pub signed_reads : (numbered true t at ≡ record { result = Ok spelt_number; at = behind_it }) × (drop behind_it t ≡ rest)
    signed_reads = (
      sym (reads_is true (length t) at (drop at t) _ (numeral h.ws h.negative h.ds rest h.split h.white (λ _. refl) h.digits h.ends refl)),
      drop_three h.ws (minus h.negative) h.ds rest t at h.split,
    )

  -- a number that is read is spelt so, and starts behind its white space
  pub signed_found : (n : Number) (p : ℕ) → numbered true t at ≡ record { result = Ok n; at = p }
      → (h : Signed (drop at t) (cond n.negative (neg_ℤ (pos n.magnitude)) (pos n.magnitude)) (drop p t)) × (n.start ≡ at + length h.ws)
  signed_found n p e = go (numbered true t at) e (is_spelt true (length t) at (drop at t))
    where
      go : (o : Out Number) → o ≡ record { result = Ok n; at = p } → Reads true (length t) at (drop at t) o
          → (h : Signed (drop at t) (cond n.negative (neg_ℤ (pos n.magnitude)) (pos n.magnitude)) (drop p t)) × (n.start ≡ at + length h.ws)
      go o a (numeral ws m ds rest split w may d ends is) =
          let place : p ≡ at + length ws + length (minus m) + length ds = ap (λ x. x.at) (sym a ∙ is) in
          let same : n ≡ record { magnitude = decimal ds; negative = m; start = at + length ws } = cc (ap (λ x. x.result) (sym a ∙ is)) in
          let behind : drop p t ≡ rest = ap (λ k. drop k t) place ∙ drop_three ws (minus m) ds rest t at split in (
            record {
              ws = ws;
              negative = m;
              ds = ds;
              split = split ∙ ap (λ l. ws ++ (minus m ++ (ds ++ l))) (sym behind);
              white = w;
              digits = d;
              value = ap (λ (x : Number). cond x.negative (neg_ℤ (pos x.magnitude)) (pos x.magnitude)) (sym same);
              ends = subst Ends (sym behind) ends;
            },
            ap (λ x. x.start) same,
          )
      go o a (nothing ws m split w may is) = absurd (never a is)
      go o a (stray ws m rest split w may unfit is) = absurd (never a is)
      go o a (glued ws m ds rest split w may d stops is) = absurd (never a is)
      go o a (long ws m ds d rest split w may all six h is) = absurd (never a is)
