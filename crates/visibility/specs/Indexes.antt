-- The doorways of each room.
--   Aside d a         the doorway d has no side in the room a
--   Passed ds a k j   none of the doorways ds from k on and before j has a side in the room a
--   next_of x k       what comes next after doorway k
--   entered_in x k d  the index x, with doorway k, which is d, in front of the others of its rooms
--   Indexed ds x      whoever goes by the index x passes over no doorway of a room: its first, and after each doorway the next of its
--                     near and of its far room
use Rattle.std.specs.Prelude.{◌≡◌, ℕ, ◌+◌, ◌<◌, ◌≤◌, List, length, Some, ◌≢◌, slice_index, slice_index_or, slice_set}
use Rattle.std.specs.List.{slice_get}
use Rattle.maps.specs.declared.doorway.Doorway.{Doorway}
use Rattle.visibility.specs.declared.index.Index.{Index}
use Rattle.visibility.specs.declared.index.Next.{Next}

abbrev pub Aside : Doorway → ℕ → Type 0
Aside d a = (d.near ≢ a) × (d.far ≢ a)

abbrev pub Passed : List Doorway → ℕ → ℕ → ℕ → Type 0
Passed ds a k j = (k ≤ j) × (j ≤ length ds) × ((i : ℕ) (d : Doorway) → k ≤ i → i < j → slice_get ds i ≡ Some d → Aside d a)

abbrev pub next_of : Index → ℕ → Next
next_of x k = slice_index_or x.next k (record { near = 0; far = 0 })

abbrev pub entered_in : Index → ℕ → Doorway → Index
entered_in x k d =
    record {
      first = slice_set (slice_set x.first d.near k) d.far k;
      next = slice_set x.next k (record { near = slice_index x.first d.near; far = slice_index x.first d.far });
    }

pub record Indexed (ds : List Doorway) (x : Index) : Type 0 where
  pub first : (a : ℕ) → a < 256 → Passed ds a 0 (slice_index x.first a)
  pub near : (k : ℕ) (d : Doorway) → slice_get ds k ≡ Some d → Passed ds d.near (k + 1) (next_of x k).near
  pub far : (k : ℕ) (d : Doorway) → slice_get ds k ≡ Some d → Passed ds d.far (k + 1) (next_of x k).far
