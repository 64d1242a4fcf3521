-- Points and lines of the plane, and when a line separates a path.
--   Point          a point (x, y)
--   Coefficients   three numbers (a, b, c), read as the line a·x + b·y + c = 0
--   Proper l       a and b are not both 0, so that l is a line; its numbers may have any size
--   value l p      a·x + b·y + c at the point p
--   left, right    the two posts of a crossing
--   Apart q        the posts of q are two different points
--   Parts l q      l has the left post of q at 0 or above, and its right post at 0 or below
--   Separates l p  l parts every crossing of the path p
--   Stabbed p      some line, of whatever size, separates p: p has a stabbing line
use Rattle.std.specs.Prelude.{◌≡◌, List, ℤ, pos, ◌+ℤ◌, ◌*ℤ◌, ◌≤ℤ◌, ◌≢◌}
use Rattle.std.specs.List.{AllByRecursion}
use Rattle.plane.specs.declared.quad.Quad.{Quad}

abbrev pub Point : Type 0
Point = ℤ × ℤ

abbrev pub Coefficients : Type 0
Coefficients = ℤ × ℤ × ℤ

abbrev pub Proper : Coefficients → Type 0
Proper l = l.0 ≡ pos 0 → l.1 ≢ pos 0

abbrev pub value : Coefficients → Point → ℤ
value l p = l.0 *ℤ p.0 +ℤ l.1 *ℤ p.1 +ℤ l.2

abbrev pub left : Quad → Point
left q = (q.lx, q.ly)

abbrev pub right : Quad → Point
right q = (q.rx, q.ry)

abbrev pub Apart : Quad → Type 0
Apart q = left q ≡ right q → ⊥

abbrev pub Parts : Coefficients → Quad → Type 0
Parts l q = (pos 0 ≤ℤ value l (left q)) × (value l (right q) ≤ℤ pos 0)

abbrev pub Separates : Coefficients → List Quad → Type 0
Separates l p = AllByRecursion (Parts l) p

abbrev pub Stabbed : List Quad → Type 0
Stabbed p = (l : Coefficients) × Proper l × Separates l p
