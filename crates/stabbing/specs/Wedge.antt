-- What Wedge lets through.
--   neighbours p    each three neighbouring crossings of p, in order
--   threes p        the same; p itself where it has fewer than three
--   all_stabbed ps  whether Exact has a line for each of the lists
--   wedge_lets p    whether p is a path, and each of its threes has a separating line
use Rattle.std.specs.Prelude.{Bool, true, cond, ◌&&◌, List, [], ◌∷◌, length, is_some, nat_lt}
use Rattle.plane.specs.declared.quad.Quad.{Quad}
use Rattle.plane.specs.Tests.{is_path}
use Rattle.stabbing.specs.Exact.{exact_line}

abbrev pub neighbours : List Quad → List (List Quad)
neighbours [] = []
neighbours (a ∷ []) = []
neighbours (a ∷ b ∷ []) = []
neighbours (a ∷ b ∷ c ∷ p) = (a ∷ b ∷ c ∷ []) ∷ neighbours (b ∷ c ∷ p)

abbrev pub threes : List Quad → List (List Quad)
threes p = cond (nat_lt (length p) 3) (p ∷ []) (neighbours p)

abbrev pub all_stabbed : List (List Quad) → Bool
all_stabbed [] = true
all_stabbed (p ∷ ps) = is_some (exact_line p) && all_stabbed ps

unfoldable pub wedge_lets : List Quad → Bool
wedge_lets p = is_path p && all_stabbed (threes p)
