-- When a face is convex and counterclockwise, in words.
--   corner_of ps face k   the point of the corner at place k of a face
--   Convex ps face        the face has 3 to 16 corners, and for each of its edges the corners at all other places lie strictly left of the edge
use Rattle.std.specs.Prelude.{ℕ, ◌<◌, ◌≤◌, List, length, pos, ◌<ℤ◌, ◌≢◌, slice_index}
use Rattle.plane.specs.Lines.{through}
use Rattle.plane.specs.Separation.{Point, value}
use Rattle.polygon.specs.Convexity.{spot}
use Rattle.polygon.specs.Edges.{after}

abbrev pub corner_of : List Point → List ℕ → ℕ → Point
corner_of ps face k = spot ps (slice_index face k)

abbrev pub Convex : List Point → List ℕ → Type 0
Convex ps face =
    (3 ≤ length face) × (length face ≤ 16)
    × ((i j : ℕ) → i < length face → j < length face → (j ≢ i) → (j ≢ after face i)
    → pos 0 <ℤ value (through (corner_of ps face i) (corner_of ps face (after face i))) (corner_of ps face j))
