-- Vectors, how they turn, and how a line rises along them.
--   Vector       a vector (x, y)
--   arrow P Q    the vector from the point P to the point Q
--   vector a     the numbers of the arrow a
--   turn v w     the cross product: above 0 if w points to the left of v, below 0 if to its right
--   along v w    the dot product: above 0 if w points rather along v, below 0 if rather against it
--   Against v w  w points straight against v
--   rise l v     by how much the value of the line l grows along v
--   Climbs l v   the value of l does not fall along v
use Rattle.std.specs.Prelude.{◌≡◌, ℤ, pos, ◌+ℤ◌, ◌-ℤ◌, ◌*ℤ◌, ◌≤ℤ◌, ◌<ℤ◌}
use Rattle.plane.specs.Separation.{Coefficients, Point}
use Rattle.stabbing.specs.declared.arrow.Arrow.{Arrow}

abbrev pub Vector : Type 0
Vector = ℤ × ℤ

abbrev pub arrow : Point → Point → Vector
arrow P Q = (Q.0 -ℤ P.0, Q.1 -ℤ P.1)

abbrev pub vector : Arrow → Vector
vector a = (a.x, a.y)

abbrev pub turn : Vector → Vector → ℤ
turn v w = v.0 *ℤ w.1 -ℤ v.1 *ℤ w.0

abbrev pub along : Vector → Vector → ℤ
along v w = v.0 *ℤ w.0 +ℤ v.1 *ℤ w.1

abbrev pub Against : Vector → Vector → Type 0
Against v w = (turn v w ≡ pos 0) × (along v w <ℤ pos 0)

abbrev pub rise : Coefficients → Vector → ℤ
rise l v = l.0 *ℤ v.0 +ℤ l.1 *ℤ v.1

abbrev pub Climbs : Coefficients → Vector → Type 0
Climbs l v = pos 0 ≤ℤ rise l v
