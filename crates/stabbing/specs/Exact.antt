-- The line that Exact answers.
--   fan P Qs       the lines from P to each of the points Qs that differs from P, in the order of Qs
--   tries Ps Qs    the fans of the points Ps, one after the other
--   first_line p   the first line through two posts of p, by rising first and then rising second post, that separates p
--   line_through p the same; the empty path has (0, 1, 0)
--   exact_line p   Exact's answer: nothing for a list that is no path, else line_through
--   SomeUnstabbed some path has no separating line, so that to ask for one says something
use Rattle.std.specs.Prelude.{cond, List, [], ◌∷◌, ◌++◌, pos, Some, None, Option}
use Rattle.plane.specs.declared.quad.Quad.{Quad}
use Rattle.plane.specs.First.{first}
use Rattle.plane.specs.Lines.{posts, through}
use Rattle.plane.specs.Limits.{Path}
use Rattle.plane.specs.Separation.{Point, Coefficients, Stabbed}
use Rattle.plane.specs.Tests.{is_path, same_point, separates}

abbrev pub fan : Point → List Point → List Coefficients
fan P [] = []
fan P (Q ∷ Qs) = cond (same_point P Q) (fan P Qs) (through P Q ∷ fan P Qs)

abbrev pub tries : List Point → List Point → List Coefficients
tries [] Qs = []
tries (P ∷ Ps) Qs = fan P Qs ++ tries Ps Qs

unfoldable pub first_line : List Quad → Option Coefficients
first_line p = first (λ l. separates l p) (tries (posts p) (posts p))

abbrev pub line_through : List Quad → Option Coefficients
line_through [] = Some (pos 0, pos 1, pos 0)
line_through (q ∷ p) = first_line (q ∷ p)

unfoldable pub exact_line : List Quad → Option Coefficients
exact_line p = cond (is_path p) (line_through p) None

abbrev pub SomeUnstabbed : Type 0
SomeUnstabbed = (p : List Quad) × Path p × (Stabbed p → ⊥)
