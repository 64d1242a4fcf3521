-- Two small plans, as texts.
--   ring            four rooms around a post: 0 and 1 below, 2 and 3 above. Doorway 0 joins rooms 0 and 1, doorway 1 rooms 0 and 2,
--                   doorway 2 rooms 1 and 3, doorway 3 rooms 2 and 3
--   corridor        ten rooms in two rows of five: from room 0 eastward to 1, up to 6, and on to 7, 8 and 9, by the doorways 0 to 4;
--                   rooms 2 to 5 have no doorway
--   by w h          the size of w by h rooms
--   Accepted t w h  any space that is long enough for a plan takes the text t as one of w by h rooms
--   MapOf t n ds   a map of n rooms and the doorways ds is what is made of the text t: it was read into some space, and the
--                   map was made of what the space then held
use Rattle.std.specs.Prelude.{◌≡◌, ℕ, ◌≤◌, List, length, Ok, codes}
use Rattle.maps.specs.declared.doorway.Doorway.{Doorway}
use Rattle.grid.specs.declared.sizes.Size.{Size}
use Rattle.grid.specs.Doorways.{Drawn, Pictured}
use Rattle.grid.specs.Plans.{answered}

abbrev pub ring : List ℕ
ring = codes "P1 5 5 11111 10001 10101 10001 11111"

abbrev pub corridor : List ℕ
corridor = codes "P1 11 5 11111111111 10001010101 11101111111 10100000001 11111111111"

abbrev pub by : ℕ → ℕ → Size
by w h = record { w = w; h = h }

abbrev pub Accepted : List ℕ → ℕ → ℕ → Type 0
Accepted t w h = (sp : List ℕ) → 1539 ≤ length sp → ((answered t sp).result ≡ Ok (by w h)) × Drawn (by w h) (answered t sp).space

abbrev pub MapOf : List ℕ → ℕ → List Doorway → Type 0
MapOf t n ds =
    (s : Size) × (sp : List ℕ) × (1539 ≤ length sp) × ((answered t sp).result ≡ Ok s) × Pictured s (answered t sp).space n ds
