-- Doorways as six plain numbers.
--   posts_of p      the left and the right post of p, as four numbers
--   plain d         the doorway d as six numbers
--   Joins n p       p is a doorway between two different rooms below n, and its posts are a crossing
--   Fits n c ps     n rooms and the first c of ps make a map: 1 to 256 rooms, at most 2,048 doorways, of which none is missing in ps,
--                   and each joins two of the rooms
--   within n ds     whether each of the doorways ds joins two rooms below n
--   Becomes n c ps rooms ds
--                   the map with these rooms and doorways is made of n rooms and the first c of ps, where those make one;
--                   else it has one room and no doorway
use Rattle.std.specs.Prelude.{◌≡◌, ℕ, ◌<◌, ◌≤◌, Bool, true, ◌&&◌, ◌⊎◌, List, [], ◌∷◌, map, length, take, ◌≢◌, nat_lt}
use Rattle.std.specs.List.{AllByRecursion}
use Rattle.plane.specs.Limits.{Crosses}
use Rattle.plane.specs.declared.quad.Quad.{Quad}
use Rattle.maps.specs.declared.doorway.Doorway.{Doorway}
use Rattle.maps.specs.declared.passage.Passage.{Passage}

abbrev pub posts_of : Passage → Quad
posts_of p = record { lx = p.left_x; ly = p.left_y; rx = p.right_x; ry = p.right_y }

abbrev pub plain : Doorway → Passage
plain d =
    record {
      near = d.near;
      far = d.far;
      left_x = d.crossing.left.x;
      left_y = d.crossing.left.y;
      right_x = d.crossing.right.x;
      right_y = d.crossing.right.y;
    }

abbrev pub Joins : ℕ → Passage → Type 0
Joins n p = (p.near < n) × (p.far < n) × (p.near ≢ p.far) × Crosses (posts_of p)

abbrev pub Fits : ℕ → ℕ → List Passage → Type 0
Fits n c ps = (1 ≤ n) × (n ≤ 256) × (c ≤ 2048) × (c ≤ length ps) × AllByRecursion (Joins n) (take c ps)

abbrev pub within : ℕ → List Doorway → Bool
within n [] = true
within n (d ∷ ds) = (nat_lt d.near n && nat_lt d.far n) && within n ds

abbrev pub Becomes : ℕ → ℕ → List Passage → ℕ → List Doorway → Type 0
Becomes n c ps rooms ds =
    (Fits n c ps × (rooms ≡ n) × (map plain ds ≡ take c ps))
    ⊎ ((Fits n c ps → ⊥) × (rooms ≡ 1) × (ds ≡ []))
