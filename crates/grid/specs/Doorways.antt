-- The doorways of a grid plan: its open wall pixels, in reading order.
--   column s k, row s k   where pixel k stands, counted in reading order from 0
--   eastward w i j        the doorway from room (i, j) to the room (i + 1, j) at its right, where a row has w rooms
--   northward w i j       the doorway from room (i, j) to the room (i, j + 1) above it
--   passage_at s k        the doorway of the wall pixel k: pixel (2i + 2, 2j + 1) leads eastward, pixel (2i + 1, 2j + 2) northward
--   free u                whether the rule u lets a pixel be open or wall, as it does between two rooms
--   opening s ps k        whether pixel k stands between two rooms, and is open
--   openings s ps n       the doorways of the openings among the first n pixels, in reading order
--   grid_doorways s ps    those of the whole plan
--   right_pixel s p       whether the pixel p, a number in reading order with a colour, is 0 or 1, and of a right colour
--   Drawn s ps            the space ps holds a plan of size s
--   Pictured s ps n ds    the map of n rooms and the doorways ds is the plan's, or that of one room where there is no plan
use Rattle.std.specs.Prelude.{◌≡◌, ℕ, zero, suc, ◌+◌, ◌-◌, ◌*◌, ◌/◌, ◌%◌, ◌<◌, ◌≤◌, Bool, true, false, cond, ◌&&◌, ◌⊎◌, List, [], ◌∷◌, ◌++◌, map, length, pos, ◌==◌, nat_lt, slice_index}
use Rattle.maps.specs.declared.doorway.Doorway.{Doorway}
use Rattle.maps.specs.declared.passage.Passage.{Passage}
use Rattle.maps.specs.Passages.{plain}
use Rattle.grid.specs.declared.colours.Rule.{Rule}
use Rattle.grid.specs.declared.colours.Rule.TheVariants.{Room, Wall, Free}
use Rattle.grid.specs.declared.sizes.Size.{Size}
use Rattle.grid.specs.Pictures.{Colour}
use Rattle.grid.specs.Pixels.{odd, rule_of, allowed}
use Rattle.grid.specs.Sizes.{Roomy, across, area}

abbrev pub column : Size → ℕ → ℕ
column s k = k % across s.w

abbrev pub row : Size → ℕ → ℕ
row s k = k / across s.w

abbrev pub eastward : ℕ → ℕ → ℕ → Passage
eastward w i j =
    record {
      near = j * w + i;
      far = j * w + i + 1;
      left_x = pos (4 * i + 4);
      left_y = pos (4 * j + 3);
      right_x = pos (4 * i + 4);
      right_y = pos (4 * j + 1);
    }

abbrev pub northward : ℕ → ℕ → ℕ → Passage
northward w i j =
    record {
      near = j * w + i;
      far = (j + 1) * w + i;
      left_x = pos (4 * i + 1);
      left_y = pos (4 * j + 4);
      right_x = pos (4 * i + 3);
      right_y = pos (4 * j + 4);
    }

abbrev pub passage_at : Size → ℕ → Passage
passage_at s k =
    cond (odd (row s k)) (eastward s.w ((column s k - 2) / 2) ((row s k - 1) / 2)) (northward s.w ((column s k - 1) / 2) ((row s k - 2) / 2))

abbrev pub free : Rule → Bool
free Room = false
free Wall = false
free Free = true

abbrev pub opening : Size → List ℕ → ℕ → Bool
opening s ps k = free (rule_of s (column s k) (row s k)) && slice_index ps k == 0

unfoldable pub openings : Size → List ℕ → ℕ → List Passage
openings s ps zero = []
openings s ps (suc n) = openings s ps n ++ cond (opening s ps n) (passage_at s n ∷ []) []

abbrev pub grid_doorways : Size → List ℕ → List Passage
grid_doorways s ps = openings s ps (area s)

abbrev pub right_pixel : Size → ℕ × ℕ → Bool
right_pixel s p = nat_lt p.1 2 && allowed (rule_of s (column s p.0) (row s p.0)) p.1

-- the space ps holds the pixels of a plan of size s: each is 0 or 1, and of a right colour
abbrev pub Drawn : Size → List ℕ → Type 0
Drawn s ps =
    Roomy s × (area s ≤ length ps) × ((k : ℕ) → k < area s → (slice_index ps k < 2) × Colour s (column s k) (row s k) (slice_index ps k))

-- a map with these rooms and doorways is that of the plan in ps, where there is one; else it has one room and no doorway
abbrev pub Pictured : Size → List ℕ → ℕ → List Doorway → Type 0
Pictured s ps rooms ds =
    (Drawn s ps × (rooms ≡ s.w * s.h) × (map plain ds ≡ grid_doorways s ps))
    ⊎ ((Drawn s ps → ⊥) × (rooms ≡ 1) × (ds ≡ []))
