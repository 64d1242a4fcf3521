-- The corners of a plan.
--   point c             the point at which the corner c stands
--   points cs           the points of the corners cs
--   signed n            the value of the number n, with its sign
--   bounded most n      the same, if it lies within ±most; else a fault at the number's start
--   coordinate t most at  the next such number of the text t from the place at
--   corner t at         the next corner: x and y within ±10,000, and then 0
use Rattle.std.specs.Prelude.{ℕ, true, cond, List, map, ℤ, pos, neg_ℤ, Ok, Err, Result, nat_lt}
use Rattle.text.specs.declared.faults.Fault.{Fault}
use Rattle.text.specs.declared.faults.Ground.TheVariants.{Coordinate}
use Rattle.text.specs.declared.lexing.Number.{Number}
use Rattle.text.specs.Faults.{fault}
use Rattle.text.specs.Lexing.{Out, numbered}
use Rattle.plane.specs.declared.corner.Corner.{Corner}
use Rattle.plane.specs.Separation.{Point}
use Rattle.plane.specs.Shapes.{place}
use Rattle.text.specs.Outs.{next}

abbrev pub point : Corner → Point
point c = place c.at

abbrev pub points : List Corner → List Point
points cs = map point cs

abbrev pub signed : Number → ℤ
signed n = cond n.negative (neg_ℤ (pos n.magnitude)) (pos n.magnitude)

abbrev pub bounded : ℕ → Number → Result ℤ Fault
bounded most n = cond (nat_lt most n.magnitude) (Err (fault Coordinate n.start)) (Ok (signed n))

abbrev pub bounded_at : ℕ → Number → ℕ → Out ℤ
bounded_at most n p = record { result = bounded most n; at = p }

abbrev pub coordinate : List ℕ → ℕ → ℕ → Out ℤ
coordinate t most at = next (numbered true t at) (bounded_at most)

abbrev pub at_corner : ℤ → ℤ → ℤ → ℕ → Out Point
at_corner x y z p = record { result = Ok (x, y); at = p }

abbrev pub with_y : List ℕ → ℤ → ℤ → ℕ → Out Point
with_y t x y p = next (coordinate t 0 p) (at_corner x y)

abbrev pub with_x : List ℕ → ℤ → ℕ → Out Point
with_x t x p = next (coordinate t 10000 p) (with_y t x)

abbrev pub corner : List ℕ → ℕ → Out Point
corner t at = next (coordinate t 10000 at) (with_x t)
