-- A loop over a path that stops at its first answer. F is what the whole loop gives for a path.
use Rattle.std.proofs.Common.{◌≡◌, ℕ, ◌+◌, ◌<◌, ◌≤◌, List, [], ◌∷◌, length, get_or, drop, Some, None, Option, sym, ap, ◌∙◌, add-one, drop-cons}
use Rattle.std.proofs.lemmas.List.{drop_all}
use Rattle.std.specs.Option.{option_or}

-- the first answer of the elements, one after the other
pub record Scans {X Y : Type 0} (F : List X → Option Y) : Type 0 where
  pub none : F [] ≡ None
  pub more : (x : X) (xs : List X) → F (x ∷ xs) ≡ option_or (F (x ∷ [])) (F xs)

module _ {X Y : Type 0} {F : List X → Option Y} (scans : Scans F) (xs : List X) (i : ℕ) (so_far : F (drop i xs) ≡ F xs) where
  turn : (d : X) → i < length xs → F (drop i xs) ≡ option_or (F (get_or xs i d ∷ [])) (F (drop (i + 1) xs))
  turn d h = ap F (drop-cons xs i d h ∙ ap (λ k. get_or xs i d ∷ drop k xs) (sym (add-one i))) ∙ scans.more (get_or xs i d) (drop (i + 1) xs)

  -- an answer at place i is the loop's
  pub scan_found : (d : X) (y : Y) → i < length xs → Some y ≡ F (get_or xs i d ∷ []) → Some y ≡ F xs
  scan_found d y h e = sym (ap (λ o. option_or o (F (drop (i + 1) xs))) (sym e)) ∙ sym (turn d h) ∙ so_far

  -- without one it goes on
  pub scan_more : (d : X) → i < length xs → None ≡ F (get_or xs i d ∷ []) → F (drop (i + 1) xs) ≡ F xs
  scan_more d h e = ap (λ o. option_or o (F (drop (i + 1) xs))) e ∙ sym (turn d h) ∙ so_far

  -- to its end
  pub scan_none : length xs ≤ i → None ≡ F xs
  scan_none h = sym (ap F (drop_all i xs h) ∙ scans.none) ∙ so_far
