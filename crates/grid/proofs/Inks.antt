-- The next mark is the first ink.
use Rattle.std.proofs.Common.{◌≡◌, ℕ, List, [], ◌∷◌, ◌++◌, drop, Some, None, Option, sym, refl, ap, ◌∙◌}
use Rattle.std.specs.List.{AllByRecursion}
use Rattle.std.proofs.lemmas.List.{append-nil}
use Rattle.std.proofs.lemmas.Bool.{cond-true, cond-false}
use Rattle.text.specs.Bytes.{White, white}
use Rattle.text.specs.Marks.{marked, Found}
use Rattle.text.proofs.Classes.{white_true, white_false}
use Rattle.text.proofs.Marks.{finds}
use Rattle.grid.specs.Pictures.{ink}

pub ink_white : (ws bs : List ℕ) → AllByRecursion White ws → ink (ws ++ bs) ≡ ink bs
ink_white [] bs h = refl
ink_white (w ∷ ws) bs h = cond-true (white w) (ink (ws ++ bs)) (w ∷ ink (ws ++ bs)) (white_true w h.0) ∙ ink_white ws bs h.1

pub ink_black : (b : ℕ) (bs : List ℕ) → (White b → ⊥) → ink (b ∷ bs) ≡ b ∷ ink bs
ink_black b bs h = cond-false (white b) (ink bs) (b ∷ ink bs) (white_false b h)

-- r is the first ink from the place at on, and p the place behind it
abbrev pub Inked : List ℕ → ℕ → Option (ℕ × ℕ) → ℕ → Type 0
Inked t at None p = ink (drop at t) ≡ []
Inked t at (Some m) p = ink (drop at t) ≡ m.0 ∷ ink (drop p t)

inked_by : (t : List ℕ) (at : ℕ) (r : Option (ℕ × ℕ)) (p : ℕ) → Found t at r p → Inked t at r p
inked_by t at None p h = ap ink (sym (append-nil (drop at t))) ∙ ink_white (drop at t) [] h.0
inked_by t at (Some m) p h = ap ink h.1 ∙ ink_white h.0 (m.0 ∷ drop p t) h.2 ∙ ink_black m.0 (drop p t) h.3

pub inked : (t : List ℕ) (at : ℕ) → Inked t at (marked t at).found (marked t at).at
inked t at = inked_by t at _ _ (finds t at _ _ refl refl)
