-- The limits of posts, crossings, paths and lines.
--   PostAt p     a post may stand at the point p: both numbers lie within ±10,000
--   InLimits l   a line with these numbers may be stored or answered: a and b within ±20,000, c within ±200,000,000
--   Crosses q    the four numbers are a crossing: two posts, at different points
--   Path p       the list is a path: at most 511 crossings
use Rattle.std.specs.Prelude.{◌≤◌, List, length, unsigned_abs}
use Rattle.std.specs.List.{AllByRecursion}
use Rattle.plane.specs.declared.quad.Quad.{Quad}
use Rattle.plane.specs.Separation.{Point, Coefficients, left, right, Apart}

abbrev pub PostAt : Point → Type 0
PostAt p = (unsigned_abs p.0 ≤ 10000) × (unsigned_abs p.1 ≤ 10000)

abbrev pub InLimits : Coefficients → Type 0
InLimits l = (unsigned_abs l.0 ≤ 20000) × (unsigned_abs l.1 ≤ 20000) × (unsigned_abs l.2 ≤ 200000000)

abbrev pub Crosses : Quad → Type 0
Crosses q = PostAt (left q) × PostAt (right q) × Apart q

abbrev pub Path : List Quad → Type 0
Path p = (length p ≤ 511) × AllByRecursion Crosses p
