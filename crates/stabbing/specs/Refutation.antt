-- Posts through which no line separates a path.
--   Refuted P p    no line through the point P separates p
use Rattle.std.specs.Prelude.{◌≡◌, List, pos}
use Rattle.plane.specs.declared.quad.Quad.{Quad}
use Rattle.plane.specs.Separation.{Coefficients, Point, Proper, Separates, value}

abbrev pub Refuted : Point → List Quad → Type 0
Refuted P p = (l : Coefficients) → Proper l → value l P ≡ pos 0 → Separates l p → ⊥
