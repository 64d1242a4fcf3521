-- Posts that are asked one after the other.
--   first_answer f Ps   the first answer that f gives along the points Ps
--   joined p P Q        the line from P to Q, where these are two points and the line separates p
--   from_point p P      the first line from P to a post of p that separates p
--   Passed p q          q is a doorway of p whose left post is refuted
use Rattle.std.specs.Prelude.{List, [], ◌∷◌, None, Option}
use Rattle.std.specs.List.{ContainsAt as Has}
use Rattle.std.specs.Option.{option_or}
use Rattle.plane.specs.declared.quad.Quad.{Quad}
use Rattle.plane.specs.First.{first}
use Rattle.plane.specs.Lines.{posts}
use Rattle.plane.specs.Separation.{Coefficients, Point, left}
use Rattle.plane.specs.Tests.{separates}
use Rattle.stabbing.specs.Exact.{fan}
use Rattle.stabbing.specs.Refutation.{Refuted}

abbrev pub first_answer : (Point → Option Coefficients) → List Point → Option Coefficients
first_answer f [] = None
first_answer f (P ∷ Ps) = option_or (f P) (first_answer f Ps)

abbrev pub joined : List Quad → Point → Point → Option Coefficients
joined p P Q = first (λ l. separates l p) (fan P (Q ∷ []))

abbrev pub from_point : List Quad → Point → Option Coefficients
from_point p P = first (λ l. separates l p) (fan P (posts p))

abbrev pub Passed : List Quad → Quad → Type 0
Passed p q = Has p q × Refuted (left q) p
