-- Each way in which the next number can be spelt has its outcome, and every text is spelt in one of them.
use Rattle.std.proofs.Common.{◌≡◌, ℕ, suc, ◌+◌, ◌-◌, ◌*◌, ◌^◌, ◌<◌, ◌≤◌, Bool, true, false, ◌⊎◌, List, [], ◌∷◌, ◌++◌, length, get_or, take, drop, IfOk, Ok, Err, Result, sym, refl, ap, ◌∙◌, subst, inl, inr, add-zero, arith, take-append-drop}
use native.Mathlib.Nat.{pow-le-pow_right}
use Rattle.std.specs.List.{AllByRecursion}
use Rattle.std.proofs.lemmas.List.{length-take-le, drop_more, append_assoc, append-nil}
use Rattle.std.proofs.ByRecursion.{All-take, All-get_or}
use Rattle.std.proofs.lemmas.Bool.{cond-true, cond-false, cases_lt, cases_Bool, cases_eq, both_ways, false≢true}
use Rattle.text.specs.declared.bytes.Class.{Class}
use Rattle.text.specs.declared.bytes.Class.TheVariants.{Blank, Minus, Digit, Other}
use Rattle.text.specs.declared.faults.Fault.{Fault}
use Rattle.text.specs.declared.faults.Ground.TheVariants.{Stray, Long, Early}
use Rattle.text.specs.declared.lexing.Number.{Number}
use Rattle.text.specs.declared.lexing.State.{State}
use Rattle.text.specs.declared.lexing.State.TheVariants.{Between, Sign, Digits}
use Rattle.text.specs.Bytes.{White, Decimal, class}
use Rattle.text.specs.Faults.{fault}
use Rattle.text.specs.Turns.{on, bad, turn, begun}
use Rattle.text.specs.Lexing.{Out, scanned, numbered}
use Rattle.text.specs.Numerals.{minus, May, decimal, decimal_from, Numeral, Ends, Stops, Unfit, Reads, numeral, nothing, stray, glued, long, Settled}
use Rattle.text.proofs.Classes.{class_white, class_decimal, class_odd, decimal_from_class, minus_from_class, cases_white, cases_decimal}
use Rattle.text.proofs.Scans.{follows}
use Rattle.text.proofs.Turns.{grown, turn_digit, turn_long}
use Rattle.text.proofs.Spans.{span, Not}

-- the place behind a number's digits, and the number
abbrev behind : ℕ → List ℕ → Bool → List ℕ → ℕ
behind at ws m ds = at + length ws + length (minus m) + length ds

abbrev whole : ℕ → List ℕ → Bool → List ℕ → Number
whole at ws m ds = record { magnitude = decimal ds; negative = m; start = at + length ws }

no_sign : (s : Bool) → (s ≡ true → ⊥) → s ≡ false
no_sign true h = absurd (h refl)
no_sign false h = refl

module _ (s : Bool) (len : ℕ) where
  -- one byte of a known class
  byte : (at : ℕ) (st : State) (b : ℕ) (bs : List ℕ) (c : Class) → class b ≡ c → scanned s len at st (b ∷ bs) ≡ follows s len at bs (turn s at st c)
  byte at st b bs c e = ap (λ x. follows s len at bs (turn s at st x)) e

  from : (st : State) (bs : List ℕ) (a b : ℕ) → a ≡ b → scanned s len a st bs ≡ scanned s len b st bs
  from st bs a b e = ap (λ x. scanned s len x st bs) e

  run_white : (at : ℕ) (ws bs : List ℕ) → AllByRecursion White ws → scanned s len at Between (ws ++ bs) ≡ scanned s len (at + length ws) Between bs
  run_white at [] bs h = from Between bs at (at + 0) (omega arith)
  run_white at (w ∷ ws) bs h =
      byte at Between w (ws ++ bs) Blank (class_white w h.0) ∙ run_white (at + 1) ws bs h.1 ∙ from Between bs (at + 1 + length ws) (at + suc (length ws)) (omega arith)

  run_digits : (at v : ℕ) (m : Bool) (p k : ℕ) (ds bs : List ℕ) → AllByRecursion Decimal ds → k + length ds ≤ 6
      → scanned s len at (Digits (record { magnitude = v; negative = m; start = p }) k) (ds ++ bs) ≡ scanned s len (at + length ds) (Digits (record { magnitude = decimal_from v ds; negative = m; start = p }) (k + length ds)) bs
  run_digits at v m p k [] bs h few = λ i. scanned s len (sym (add-zero at) i) (Digits (record { magnitude = v; negative = m; start = p }) (sym (add-zero k) i)) bs
  run_digits at v m p k (d ∷ ds) bs h few =
      byte at (Digits (record { magnitude = v; negative = m; start = p }) k) d (ds ++ bs) (Digit (d - 48)) (class_decimal d h.0)
      ∙ ap (follows s len at (ds ++ bs)) (turn_digit s at (record { magnitude = v; negative = m; start = p }) k (d - 48) (omega arith))
      ∙ run_digits (at + 1) (v * 10 + (d - 48)) m p (k + 1) ds bs h.1 (omega arith)
      ∙ (λ i. scanned s len (one at (length ds) i) (Digits (record { magnitude = decimal_from (v * 10 + (d - 48)) ds; negative = m; start = p }) (one k (length ds) i)) bs)
    where
      one : (a b : ℕ) → a + 1 + b ≡ a + suc b
      one a b = omega arith

  run_minus : (at : ℕ) (bs : List ℕ) → s ≡ true → scanned s len at Between (45 ∷ bs) ≡ scanned s len (at + 1) (Sign at) bs
  run_minus at bs e = ap (follows s len at bs) (cond-true s (on (Sign at)) (bad (fault Stray at)) e)

  -- a sign and the first digit
  run_first : (at : ℕ) (m : Bool) (d : ℕ) (bs : List ℕ) → May s m → Decimal d → scanned s len at Between (minus m ++ (d ∷ bs)) ≡ scanned s len (at + length (minus m) + 1) (begun (d - 48) m at) bs
  run_first at true d bs may h = run_minus at (d ∷ bs) (may refl) ∙ byte (at + 1) (Sign at) d bs (Digit (d - 48)) (class_decimal d h)
  run_first at false d bs may h = byte at Between d bs (Digit (d - 48)) (class_decimal d h) ∙ from _ bs (at + 1) (at + 0 + 1) (omega arith)

  -- white space, a sign and up to six digits
  run_number : (at : ℕ) (ws : List ℕ) (m : Bool) (ds bs : List ℕ) → AllByRecursion White ws → May s m → Numeral ds
      → scanned s len at Between (ws ++ (minus m ++ (ds ++ bs))) ≡ scanned s len (at + length ws + length (minus m) + length ds) (Digits (record { magnitude = decimal ds; negative = m; start = at + length ws }) (length ds)) bs
  run_number at ws m [] bs w may h = absurd (omega (arith, h.1))
  run_number at ws m (d ∷ ds) bs w may h =
      run_white at ws _ w
      ∙ run_first (at + length ws) m d (ds ++ bs) may h.0.0
      ∙ run_digits _ (d - 48) m (at + length ws) 1 ds bs h.0.1 (omega (arith, h.2))
      ∙ (λ i. scanned s len (place i) (Digits (record { magnitude = decimal_from (value i) ds; negative = m; start = at + length ws }) (count i)) bs)
    where
      place : at + length ws + length (minus m) + 1 + length ds ≡ at + length ws + length (minus m) + suc (length ds)
      place = omega arith

      value : d - 48 ≡ 0 * 10 + (d - 48)
      value = omega arith

      count : 1 + length ds ≡ suc (length ds)
      count = omega arith

  stop_end : (at : ℕ) (n : Number) (k : ℕ) (rest : List ℕ) → Ends rest → scanned s len at (Digits n k) rest ≡ record { result = Ok n; at = at }
  stop_end at n k [] h = refl
  stop_end at n k (b ∷ bs) h = byte at (Digits n k) b bs Blank (class_white b h)

  stop_glued : (at : ℕ) (n : Number) (k : ℕ) (rest : List ℕ) → Stops rest → scanned s len at (Digits n k) rest ≡ record { result = Err (fault Stray at); at = at }
  stop_glued at n k [] h = absurd h
  stop_glued at n k (b ∷ bs) h = go (class_odd b h.0 h.1)
    where
      go : (class b ≡ Minus) ⊎ (class b ≡ Other) → scanned s len at (Digits n k) (b ∷ bs) ≡ record { result = Err (fault Stray at); at = at }
      go (inl e) = byte at (Digits n k) b bs Minus e
      go (inr e) = byte at (Digits n k) b bs Other e

  stop_long : (at : ℕ) (n : Number) (k d : ℕ) (rest : List ℕ) → k ≡ 6 → Decimal d → scanned s len at (Digits n k) (d ∷ rest) ≡ record { result = Err (fault Long n.start); at = at }
  stop_long at n k d rest six h =
      byte at (Digits n k) d rest (Digit (d - 48)) (class_decimal d h) ∙ ap (follows s len at rest) (turn_long s at n k (d - 48) (omega arith))

  -- a sign, and then the text's end or a byte with which no number goes on
  stop_sign : (at : ℕ) (m : Bool) → May s m → scanned s len at Between (minus m) ≡ record { result = Err (fault Early len); at = at + length (minus m) }
  stop_sign at true may = run_minus at [] (may refl)
  stop_sign at false may = λ i. record { result = Err (fault Early len); at = sym (add-zero at) i }

  at_zero : (at : ℕ) → ◌≡◌ {A = Out Number} (record { result = Err (fault Stray at); at = at }) (record { result = Err (fault Stray (at + 0)); at = at + 0 })
  at_zero at = λ i. record { result = Err (fault Stray (sym (add-zero at) i)); at = sym (add-zero at) i }

  stop_unfit : (at : ℕ) (m : Bool) (rest : List ℕ) → May s m → Unfit s m rest → scanned s len at Between (minus m ++ rest) ≡ record { result = Err (fault Stray (at + length (minus m))); at = at + length (minus m) }
  stop_unfit at true [] may h = absurd h
  stop_unfit at false [] may h = absurd h
  stop_unfit at true (b ∷ bs) may h = run_minus at (b ∷ bs) (may refl) ∙ go (class b) refl
    where
      go : (c : Class) → class b ≡ c → scanned s len (at + 1) (Sign at) (b ∷ bs) ≡ record { result = Err (fault Stray (at + 1)); at = at + 1 }
      go Blank e = byte (at + 1) (Sign at) b bs Blank e
      go Minus e = byte (at + 1) (Sign at) b bs Minus e
      go (Digit d) e = absurd (h (decimal_from_class b d e))
      go Other e = byte (at + 1) (Sign at) b bs Other e
  stop_unfit at false (b ∷ bs) may h = go (class_odd b h.0 h.1) ∙ at_zero at
    where
      go : (class b ≡ Minus) ⊎ (class b ≡ Other) → scanned s len at Between (b ∷ bs) ≡ record { result = Err (fault Stray at); at = at }
      go (inl e) = byte at Between b bs Minus e ∙ ap (follows s len at bs) (cond-false s (on (Sign at)) (bad (fault Stray at)) (no_sign s (λ t. h.2 t (minus_from_class b e))))
      go (inr e) = byte at Between b bs Other e

  -- the outcome that each spelling calls for is the one that is read
  pub reads_is : (at : ℕ) (bs : List ℕ) (o : Out Number) → Reads s len at bs o → o ≡ scanned s len at Between bs
  reads_is at bs o (numeral ws m ds rest split w may n ends is) =
      is ∙ sym (stop_end (behind at ws m ds) (whole at ws m ds) (length ds) rest ends) ∙ sym (run_number at ws m ds rest w may n) ∙ sym (ap (scanned s len at Between) split)
  reads_is at bs o (nothing ws m split w may is) =
      is ∙ sym (stop_sign (at + length ws) m may) ∙ sym (run_white at ws (minus m) w) ∙ sym (ap (scanned s len at Between) split)
  reads_is at bs o (stray ws m rest split w may unfit is) =
      is ∙ sym (stop_unfit (at + length ws) m rest may unfit) ∙ sym (run_white at ws (minus m ++ rest) w) ∙ sym (ap (scanned s len at Between) split)
  reads_is at bs o (glued ws m ds rest split w may n stops is) =
      is ∙ sym (stop_glued (behind at ws m ds) (whole at ws m ds) (length ds) rest stops) ∙ sym (run_number at ws m ds rest w may n) ∙ sym (ap (scanned s len at Between) split)
  reads_is at bs o (long ws m ds d rest split w may all six h is) =
      is ∙ sym (stop_long (behind at ws m ds) (whole at ws m ds) (length ds) d rest six h) ∙ sym (run_number at ws m ds (d ∷ rest) w may (all, omega arith, omega arith)) ∙ sym (ap (scanned s len at Between) split)

  -- every text is spelt in one of the ways
  Spelt : ℕ → List ℕ → Type 0
  Spelt at bs = (o : Out Number) × Reads s len at bs o

  module _ (at : ℕ) (bs ws : List ℕ) (m : Bool) (w : AllByRecursion White ws) (may : May s m) where
    spelt_few : (ds rest : List ℕ) → bs ≡ ws ++ (minus m ++ (ds ++ rest)) → Numeral ds → Not Decimal rest → Spelt at bs
    unfolding Spelt
    spelt_few ds [] split n stops = (_, numeral ws m ds [] split w may n tt refl)
    spelt_few ds (b ∷ rest) split n stops = go (cases_white b)
      where
        go : White b ⊎ (White b → ⊥) → Spelt at bs
        go (inl h) = (_, numeral ws m ds (b ∷ rest) split w may n h refl)
        go (inr h) = (_, glued ws m ds (b ∷ rest) split w may n (stops, h) refl)

    spelt_many : (ds rest : List ℕ) → bs ≡ ws ++ (minus m ++ (ds ++ rest)) → AllByRecursion Decimal ds → 6 < length ds → Spelt at bs
    unfolding Spelt
    spelt_many ds rest split all many =
        let six : length (take 6 ds) ≡ 6 = length-take-le 6 ds (omega arith) in
        let parts : ds ++ rest ≡ take 6 ds ++ (get_or ds 6 0 ∷ (drop 7 ds ++ rest)) = ap (λ l. l ++ rest) (sym (take-append-drop 6 ds) ∙ ap (λ l. take 6 ds ++ l) (drop_more ds 6 0 many)) ∙ append_assoc (take 6 ds) (get_or ds 6 0 ∷ drop 7 ds) rest in
        (_, long ws m (take 6 ds) (get_or ds 6 0) (drop 7 ds ++ rest) (split ∙ ap (λ l. ws ++ (minus m ++ l)) parts) w may (All-take Decimal 6 ds all) six (All-get_or Decimal ds 6 0 many all) refl)

    spelt_digits : (ds rest : List ℕ) → bs ≡ ws ++ (minus m ++ (ds ++ rest)) → AllByRecursion Decimal ds → Not Decimal rest → 0 < length ds → Spelt at bs
    spelt_digits ds rest split all stops some = go (cases_lt 6 (length ds))
      where
        go : (6 < length ds) ⊎ (length ds ≤ 6) → Spelt at bs
        go (inl many) = spelt_many ds rest split all many
        go (inr few) = spelt_few ds rest split (all, some, few) stops

    -- what stands behind the white space and the sign
    spelt_tail : (ds rest : List ℕ) → bs ≡ ws ++ (minus m ++ (ds ++ rest)) → AllByRecursion Decimal ds → Not Decimal rest → ((b : ℕ) (more : List ℕ) → ds ++ rest ≡ b ∷ more → (Decimal b → ⊥) → Unfit s m (b ∷ more)) → Spelt at bs
    unfolding Spelt
    spelt_tail [] [] split all stops unfit = (_, nothing ws m (split ∙ ap (λ l. ws ++ l) (append-nil (minus m))) w may refl)
    spelt_tail [] (b ∷ rest) split all stops unfit = (_, stray ws m (b ∷ rest) split w may (unfit b rest refl stops) refl)
    spelt_tail (d ∷ ds) rest split all stops unfit = spelt_digits (d ∷ ds) rest split all stops (omega arith)

  module _ (at : ℕ) (bs ws : List ℕ) (w : AllByRecursion White ws) where
    spelt_plain : (b : ℕ) (rest : List ℕ) → bs ≡ ws ++ (b ∷ rest) → (White b → ⊥) → (s ≡ true → b ≡ 45 → ⊥) → Spelt at bs
    spelt_plain b rest split h sign =
        let t = span Decimal cases_decimal (b ∷ rest) in
        spelt_tail at bs ws false w (λ e. absurd (false≢true e)) t.front t.rest (split ∙ ap (λ l. ws ++ l) t.split) t.all t.stops
        (λ c more e d. (d, subst (λ x. White x → ⊥) (heads (t.split ∙ e)) h, subst (λ x. s ≡ true → x ≡ 45 → ⊥) (heads (t.split ∙ e)) sign))
      where
        heads : {c : ℕ} {more : List ℕ} → b ∷ rest ≡ c ∷ more → b ≡ c
        heads e = cc

    spelt_signed : (rest : List ℕ) → bs ≡ ws ++ (45 ∷ rest) → s ≡ true → Spelt at bs
    spelt_signed rest split sign =
        let t = span Decimal cases_decimal rest in
        spelt_tail at bs ws true w (λ _. sign) t.front t.rest (split ∙ ap (λ l. ws ++ (45 ∷ l)) t.split) t.all t.stops (λ c more e d. d)

    spelt_first : (rest : List ℕ) → bs ≡ ws ++ rest → Not White rest → Spelt at bs
    unfolding Spelt
    spelt_first [] split stops = (_, nothing ws false split w (λ e. absurd (false≢true e)) refl)
    spelt_first (b ∷ rest) split stops = go (cases_Bool s) (cases_eq b 45)
      where
        go : (s ≡ true) ⊎ (s ≡ false) → (b ≡ 45) ⊎ (b ≡ 45 → ⊥) → Spelt at bs
        go (inl yes') (inl e) = spelt_signed rest (split ∙ ap (λ x. ws ++ (x ∷ rest)) e) yes'
        go (inl yes') (inr e) = spelt_plain b rest split stops (λ _. e)
        go (inr no') (inl e) = spelt_plain b rest split stops (λ t. absurd (both_ways s no' t))
        go (inr no') (inr e) = spelt_plain b rest split stops (λ _. e)

  -- what is read is spelt so
  pub is_spelt : (at : ℕ) (bs : List ℕ) → Reads s len at bs (scanned s len at Between bs)
  unfolding Spelt
  is_spelt at bs =
      let t = span White cases_white bs in
      let found = spelt_first at bs t.front t.all t.rest t.split t.stops in
      subst (Reads s len at bs) (reads_is at bs found.0 found.1) found.1

pub settles : (s : Bool) (t : List ℕ) (at : ℕ) (r : Result Number Fault) (p : ℕ) → r ≡ (numbered s t at).result → p ≡ (numbered s t at).at → Settled s t at r p
settles s t at r p e h =
    let same : ◌≡◌ {A = Out Number} (numbered s t at) (record { result = r; at = p }) = λ i. record { result = sym e i; at = sym h i } in
    record {
      spelt = subst (Reads s (length t) at (drop at t)) same (is_spelt s (length t) at (drop at t));
      only = λ o k. reads_is s (length t) at (drop at t) o k ∙ same;
    }

-- a number of at most six digits is below a million
below : (v k : ℕ) (ds : List ℕ) → AllByRecursion Decimal ds → v < 10 ^ k → decimal_from v ds < 10 ^ (k + length ds)
below v k [] h lt = rw (add-zero k) lt
below v k (d ∷ ds) h lt =
    let e : k + 1 + length ds ≡ k + suc (length ds) = omega arith in
    subst (λ x. decimal_from (v * 10 + (d - 48)) ds < 10 ^ x) e (below (v * 10 + (d - 48)) (k + 1) ds h.1 (grown v k (d - 48) lt (omega (arith, h.0))))

pub small : (ds : List ℕ) → Numeral ds → decimal ds < 10 ^ 6
small ds h =
    let p : 10 ^ (0 + length ds) ≤ 10 ^ 6 = pow-le-pow_right {n = 10} (omega arith) {j = 6} (omega (arith, h.2)) in
    omega (arith, below 0 0 ds h.0 (omega arith), p)

pub bounded : (s : Bool) (len at : ℕ) (bs : List ℕ) (o : Out Number) → Reads s len at bs o → IfOk o.result (λ n. n.magnitude < 10 ^ 6)
bounded s len at bs o (numeral ws m ds rest split w may n ends is) = subst (λ (x : Out Number). IfOk x.result (λ n. n.magnitude < 10 ^ 6)) (sym is) (small ds n)
bounded s len at bs o (nothing ws m split w may is) = subst (λ (x : Out Number). IfOk x.result (λ n. n.magnitude < 10 ^ 6)) (sym is) tt
bounded s len at bs o (stray ws m rest split w may unfit is) = subst (λ (x : Out Number). IfOk x.result (λ n. n.magnitude < 10 ^ 6)) (sym is) tt
bounded s len at bs o (glued ws m ds rest split w may n stops is) = subst (λ (x : Out Number). IfOk x.result (λ n. n.magnitude < 10 ^ 6)) (sym is) tt
bounded s len at bs o (long ws m ds d rest split w may all six h is) = subst (λ (x : Out Number). IfOk x.result (λ n. n.magnitude < 10 ^ 6)) (sym is) tt
