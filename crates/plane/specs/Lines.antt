-- The lines through two posts of a path.
--   posts p        the posts of the path p, left and right, crossing by crossing
--   through P Q    the line from P to Q; points to its left have values above 0
--   TwoPosts      if any line at all separates a path that is not empty, then so does the line through some two
--                  different posts of it
use Rattle.std.specs.Prelude.{List, [], ◌∷◌, ◌-ℤ◌, ◌*ℤ◌, ◌≢◌}
use Rattle.std.specs.List.{ContainsAt as Has, AllByRecursion}
use Rattle.plane.specs.declared.quad.Quad.{Quad}
use Rattle.plane.specs.Separation.{Point, Coefficients, left, right, Apart, Separates, Stabbed}

abbrev pub posts : List Quad → List Point
posts [] = []
posts (q ∷ p) = left q ∷ right q ∷ posts p

abbrev pub through : Point → Point → Coefficients
through P Q = (P.1 -ℤ Q.1, Q.0 -ℤ P.0, P.0 *ℤ Q.1 -ℤ Q.0 *ℤ P.1)

abbrev pub TwoPosts : Type 0
TwoPosts =
    (p : List Quad) → (p ≢ []) → AllByRecursion Apart p → Stabbed p →
    (P : Point) × (Q : Point) × Has (posts p) P × Has (posts p) Q × (P ≢ Q) × Separates (through P Q) p
