-- The conditions of this crate as tests that compute.
--   parts l q           whether l parts the crossing q
--   separates l p       whether l parts every crossing of p
--   strictly_left l p   whether the value of l at the point p is above 0
--   same_number m n     whether m and n are the same number
--   same_point P Q      whether P and Q are the same point
--   is_post p           whether a post may stand at the point p
--   crosses q           whether the four numbers are a crossing
--   all_cross p         whether each element of p is one
--   is_path p           whether the list is a path
use Rattle.std.specs.Prelude.{Bool, false, not, ◌&&◌, List, length, ℤ, pos, negsuc, ◌==◌, int_le, int_lt, nat_le, unsigned_abs}
use Rattle.std.specs.List.{list_all}
use Rattle.plane.specs.declared.quad.Quad.{Quad}
use Rattle.plane.specs.Separation.{Point, Coefficients, value, left, right}

abbrev pub parts : Coefficients → Quad → Bool
parts l q = int_le (pos 0) (value l (left q)) && int_le (value l (right q)) (pos 0)

abbrev pub separates : Coefficients → List Quad → Bool
separates l p = list_all (parts l) p

abbrev pub strictly_left : Coefficients → Point → Bool
strictly_left l p = int_lt (pos 0) (value l p)

abbrev pub same_number : ℤ → ℤ → Bool
same_number (pos m) (pos n) = m == n
same_number (pos m) (negsuc n) = false
same_number (negsuc m) (pos n) = false
same_number (negsuc m) (negsuc n) = m == n

abbrev pub same_point : Point → Point → Bool
same_point P Q = same_number P.0 Q.0 && same_number P.1 Q.1

abbrev pub is_post : Point → Bool
is_post p = nat_le (unsigned_abs p.0) 10000 && nat_le (unsigned_abs p.1) 10000

abbrev pub crosses : Quad → Bool
crosses q = (is_post (left q) && is_post (right q)) && not (same_point (left q) (right q))

abbrev pub all_cross : List Quad → Bool
all_cross p = list_all crosses p

abbrev pub is_path : List Quad → Bool
is_path p = nat_le (length p) 511 && all_cross p
