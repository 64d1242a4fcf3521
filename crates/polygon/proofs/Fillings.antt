-- One more element read into a space, by what its reading answers.
use Rattle.std.proofs.Common.{◌≡◌, ℕ, zero, suc, ◌+◌, ◌-◌, ◌<◌, ◌≤◌, List, ◌++◌, length, set, Ok, Err, Result, sym, refl, ap, ◌∙◌, arith, length-set}
use Rattle.std.proofs.lemmas.List.{set-append_left, set-append_right}
use Rattle.text.specs.declared.faults.Fault.{Fault}
use Rattle.text.specs.Lexing.{Out}
use Rattle.polygon.specs.Outs.{Filling, put, filled}

module _ {A : Type 0} (one : ℕ → Out A) where
  pub fill_none : (k at : ℕ) (sp : List A) → filled one 0 k at sp ≡ record { result = Ok tt; at = at; space = sp }
  unfolding filled
  fill_none k at sp = refl

  pub fill_more : (n k at : ℕ) (sp : List A) → filled one (suc n) k at sp ≡ put (one at).result (one at).at sp (λ v. filled one n (k + 1) (one at).at (set sp k v))
  unfolding filled
  fill_more n k at sp = refl

  pub fill_ok : (n k at : ℕ) (sp : List A) (v : A) → (one at).result ≡ Ok v → filled one (suc n) k at sp ≡ filled one n (k + 1) (one at).at (set sp k v)
  fill_ok n k at sp v e = fill_more n k at sp ∙ ap (λ r. put r (one at).at sp (λ v. filled one n (k + 1) (one at).at (set sp k v))) e

  pub fill_err : (n k at : ℕ) (sp : List A) (f : Fault) → (one at).result ≡ Err f → filled one (suc n) k at sp ≡ record { result = Err f; at = (one at).at; space = sp }
  fill_err n k at sp f e = fill_more n k at sp ∙ ap (λ r. put r (one at).at sp (λ v. filled one n (k + 1) (one at).at (set sp k v))) e

  -- the same in a loop that counts i up to a total, and writes at the place k
  module _ (total i k at : ℕ) (sp : List A) (o : Filling A) (is : filled one (total - i) k at sp ≡ o) where
    at_suc : i < total → filled one (suc (total - (i + 1))) k at sp ≡ o
    at_suc h = let e : suc (total - (i + 1)) ≡ total - i = omega arith in ap (λ n. filled one n k at sp) e ∙ is

    pub loop_ok : i < total → (v : A) → (one at).result ≡ Ok v → (k' : ℕ) → k + 1 ≡ k' → filled one (total - (i + 1)) k' (one at).at (set sp k v) ≡ o
    loop_ok h v e k' p = ap (λ j. filled one (total - (i + 1)) j (one at).at (set sp k v)) (sym p) ∙ sym (fill_ok (total - (i + 1)) k at sp v e) ∙ at_suc h

    pub loop_err : i < total → (f : Fault) → (one at).result ≡ Err f → (Err f ≡ o.result) × ((one at).at ≡ o.at) × (sp ≡ o.space)
    loop_err h f e = let p = sym (fill_err (total - (i + 1)) k at sp f e) ∙ at_suc h in (ap (λ x. x.result) p, ap (λ x. x.at) p, ap (λ x. x.space) p)

    pub loop_end : total ≤ i → (Ok tt ≡ o.result) × (at ≡ o.at) × (sp ≡ o.space)
    loop_end h =
        let e : 0 ≡ total - i = omega arith in
        let p = sym (fill_none k at sp) ∙ ap (λ n. filled one n k at sp) e ∙ is in
        (ap (λ x. x.result) p, ap (λ x. x.at) p, ap (λ x. x.space) p)

-- a part of a space filled by itself
module _ {A : Type 0} (one : ℕ → Out A) (front behind : List A) where
  abbrev pub inside : Filling A → Filling A
  inside o = record { result = o.result; at = o.at; space = front ++ (o.space ++ behind) }

  pub filled_inside : (n k at : ℕ) (sp : List A) → k + n ≤ length sp → filled one n (length front + k) at (front ++ (sp ++ behind)) ≡ inside (filled one n k at sp)
  filled_inside zero k at sp h = fill_none one (length front + k) at (front ++ (sp ++ behind)) ∙ sym (ap inside (fill_none one k at sp))
  filled_inside (suc n) k at sp h =
      fill_more one n (length front + k) at (front ++ (sp ++ behind)) ∙ go (one at).result (λ v l. filled_inside n (k + 1) (one at).at (set sp k v) l) ∙ sym (ap inside (fill_more one n k at sp))
    where
      go : (r : Result A Fault) → ((v : A) → k + 1 + n ≤ length (set sp k v) → filled one n (length front + (k + 1)) (one at).at (front ++ (set sp k v ++ behind)) ≡ inside (filled one n (k + 1) (one at).at (set sp k v)))
          → put r (one at).at (front ++ (sp ++ behind)) (λ v. filled one n (length front + k + 1) (one at).at (set (front ++ (sp ++ behind)) (length front + k) v)) ≡ inside (put r (one at).at sp (λ v. filled one n (k + 1) (one at).at (set sp k v)))
      go (Err e) more = refl
      go (Ok v) more =
          let e : length front + k + 1 ≡ length front + (k + 1) = omega arith in
          let back : length front + k - length front ≡ k = omega arith in
          let written = set-append_right front (sp ++ behind) (length front) (length front + k) v refl (omega arith) ∙ ap (λ j. front ++ set (sp ++ behind) j v) back ∙ ap (λ l. front ++ l) (set-append_left sp behind k v (omega (arith, h))) in
          (λ i. filled one n (e i) (one at).at (written i)) ∙ more v (omega (arith, h, length-set sp k v))
