-- The next mark: one byte of the way, and what was found in words.
use Rattle.std.proofs.Common.{◌≡◌, ℕ, ◌+◌, ◌<◌, true, false, cond, ◌⊎◌, List, [], ◌∷◌, length, get_or, drop, Some, None, Option, sym, refl, ap, ◌∙◌, subst, inl, inr, arith}
use Rattle.std.specs.List.{AllByRecursion, slice_get}
use Rattle.std.proofs.lemmas.Option.{get_or_from_slice_get, slice_get_within}
use Rattle.std.proofs.lemmas.List.{at_drop_more, at_drop_all, drop-drop}
use Rattle.std.proofs.lemmas.Bool.{cond-true, cond-false}
use Rattle.text.specs.Bytes.{White, white}
use Rattle.text.specs.Marks.{Mark, marks, marked, Found}
use Rattle.text.proofs.Spans.{none_past}
use Rattle.text.proofs.Classes.{white_true, white_false, cases_white}

module _ (t : List ℕ) (at : ℕ) where
  pub mark_end : slice_get t at ≡ None → marked t at ≡ record { found = None; at = at }
  mark_end none = at_drop_all (marks at) t at (none_past t at none)

  step : at < length t → marked t at ≡ cond (white (get_or t at 0)) (marked t (at + 1)) (record { found = Some (get_or t at 0, at); at = at + 1 })
  step h = at_drop_more (marks at) t at 0 h

  pub mark_white : (b : ℕ) → slice_get t at ≡ Some b → white b ≡ true → marked t at ≡ marked t (at + 1)
  mark_white b byte w = step (slice_get_within t at b byte) ∙ cond-true _ _ _ (ap white (get_or_from_slice_get t at b 0 byte) ∙ w)

  pub mark_found : (b : ℕ) → slice_get t at ≡ Some b → white b ≡ false → marked t at ≡ record { found = Some (b, at); at = at + 1 }
  mark_found b byte w =
      let e = get_or_from_slice_get t at b 0 byte in
      step (slice_get_within t at b byte) ∙ cond-false _ _ _ (ap white e ∙ w) ∙ ap (λ x. record { found = Some (x, at); at = at + 1 }) e

tail_at : (t : List ℕ) (at b : ℕ) (bs : List ℕ) → drop at t ≡ b ∷ bs → drop (at + 1) t ≡ bs
tail_at t at b bs e = sym (drop-drop 1 at t) ∙ ap (drop 1) e

-- white space before what was found
found_more : (t : List ℕ) (at b : ℕ) (r : Option (ℕ × ℕ)) (p : ℕ) → drop at t ≡ b ∷ drop (at + 1) t → White b → Found t (at + 1) r p → Found t at r p
found_more t at b None p e w h =
    (subst (AllByRecursion White) (sym e) (w, h.0), omega (arith, ap length e, h.1))
found_more t at b (Some k) p e w h =
    (b ∷ h.0, e ∙ ap (λ l. b ∷ l) h.1, (w, h.2), h.3, omega (arith, h.4), h.5)

module _ (t : List ℕ) (at b : ℕ) (bs : List ℕ) (e : drop at t ≡ b ∷ bs) where
  next : drop at t ≡ b ∷ drop (at + 1) t
  next = e ∙ ap (λ l. b ∷ l) (sym (tail_at t at b bs e))

  found_step : Found t (at + 1) (marks (at + 1) bs).found (marks (at + 1) bs).at → White b ⊎ (White b → ⊥) → Found t at (marks at (b ∷ bs)).found (marks at (b ∷ bs)).at
  found_step h (inl w) =
      let same = cond-true (white b) (marks (at + 1) bs) (record { found = Some (b, at); at = at + 1 }) (white_true b w) in
      subst (λ (m : Mark). Found t at m.found m.at) (sym same) (found_more t at b _ _ next w h)
  found_step h (inr w) =
      let same = cond-false (white b) (marks (at + 1) bs) (record { found = Some (b, at); at = at + 1 }) (white_false b w) in
      subst (λ (m : Mark). Found t at m.found m.at) (sym same) ([], next, tt, w, omega arith, refl)

found_in : (t : List ℕ) (at : ℕ) (bs : List ℕ) → drop at t ≡ bs → Found t at (marks at bs).found (marks at bs).at
found_in t at [] e = (subst (AllByRecursion White) (sym e) tt, omega (arith, ap length e))
found_in t at (b ∷ bs) e = found_step t at b bs e (found_in t (at + 1) bs (tail_at t at b bs e)) (cases_white b)

pub finds : (t : List ℕ) (at : ℕ) (r : Option (ℕ × ℕ)) (p : ℕ) → r ≡ (marked t at).found → p ≡ (marked t at).at → Found t at r p
finds t at r p e h = subst (λ (m : Mark). Found t at m.found m.at) (λ i. record { found = sym e i; at = sym h i }) (found_in t at (drop at t) refl)
