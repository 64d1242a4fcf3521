-- What the reader's answer says of the text, in the words of the OFF format.
--   Spaces            what the caller's spaces hold: doorways, points of corners, corner numbers
--   spaces ds ps ns   the spaces that hold these
--   Long s            the spaces are long enough for every plan
--   blank s           the same places, but all zeros
--   Held m n s0 s     the spaces s, as long as s0, hold the plan m: its doorways, its corners, and its corner numbers, face behind
--                     face, with zeros behind them. n counts its rooms, which are its faces, and its doorways, of which there are at
--                     most half as many as edges; and these rooms and doorways make a map
--   Misshapen t k     t spells a plan within the limits, and face k is its first that is not convex
--   Doubled t k       t spells a plan within the limits whose faces are convex, and face k is its first with an edge that was used so
--                     before
--   Understood t s0 r s
--                     what the answer r to the text t says, where the spaces held s0 before and hold s after it.
--                     Short: spaces that are not long enough are refused, and stay as they were.
--                     Sound: an accepted text spells a legal plan within the limits, and the spaces hold it.
--                     Complete: each text of at most 60,000 bytes that spells a legal plan within the limits is accepted, and the
--                     spaces hold it.
--                     Bent, twice: it is refused with 19 or 20 exactly where its plan is misshapen or doubled, at that face.
--                     Blamed: a refusal is that the text has more than 60,000 bytes; or it has not, and the fault is its first one.
--                     Cleared: the spaces then hold zeros.
use Rattle.std.specs.Prelude.{◌≡◌, ℕ, ◌+◌, ◌-◌, ◌<◌, ◌≤◌, ◌⊎◌, ◌↔◌, List, ◌++◌, length, replicate, pos, Ok, Err, Result}
use Rattle.text.specs.declared.faults.Fault.{Fault}
use Rattle.text.specs.declared.faults.Ground.TheVariants.{Space, Limits, Shape, Edge}
use Rattle.text.specs.Faults.{fault}
use Rattle.plane.specs.Separation.{Point}
use Rattle.maps.specs.Passages.{Fits}
use Rattle.maps.specs.declared.passage.Passage.{Passage}
use Rattle.polygon.specs.declared.counts.Counts.{Counts}
use Rattle.polygon.specs.Meshes.{Mesh, joined, edges_of, Within, Shaped, Legal, Bent, Twice}
use Rattle.polygon.specs.Plans.{nothing}
use Rattle.polygon.specs.Refusals.{Faulty}
use Rattle.polygon.specs.Sharing.{Doors}
use Rattle.polygon.specs.Spelling.{Spells}

pub record Spaces : Type 0 where
  pub doorways : List Passage
  pub corners : List Point
  pub numbers : List ℕ

abbrev pub spaces : List Passage → List Point → List ℕ → Spaces
spaces ds ps ns = record { doorways = ds; corners = ps; numbers = ns }

abbrev pub Long : Spaces → Type 0
Long s = (2048 ≤ length s.doorways) × (1024 ≤ length s.corners) × (4096 ≤ length s.numbers)

abbrev pub blank : Spaces → Spaces
blank s =
    spaces (replicate (length s.doorways) nothing) (replicate (length s.corners) (pos 0, pos 0)) (replicate (length s.numbers) 0)

pub record Held (m : Mesh) (n : Counts) (s0 s : Spaces) : Type 0 where
  pub found : List Passage
  pub doors : Doors m.corners (edges_of m) (length (edges_of m)) found
  pub half : length found + length found ≤ length (edges_of m)
  pub rooms : n.rooms ≡ length m.faces
  pub count : n.doorways ≡ length found
  pub doorways : s.doorways ≡ found ++ replicate (length s0.doorways - length found) nothing
  pub corners : s.corners ≡ m.corners ++ replicate (length s0.corners - length m.corners) (pos 0, pos 0)
  pub numbers : s.numbers ≡ joined m.faces ++ replicate (length s0.numbers - length (joined m.faces)) 0
  pub fits : Fits n.rooms n.doorways s.doorways

abbrev pub Misshapen : List ℕ → ℕ → Type 0
Misshapen t k = (m : Mesh) × Spells t m × Within m × Bent m k

abbrev pub Doubled : List ℕ → ℕ → Type 0
Doubled t k = (m : Mesh) × Spells t m × Within m × Shaped m × Twice m k

pub record Understood (t : List ℕ) (s0 : Spaces) (r : Result Counts Fault) (s : Spaces) : Type 0 where
  pub short : (Long s0 → ⊥) → (r ≡ Err (fault Space 0)) × (s ≡ s0)
  pub sound : (n : Counts) → r ≡ Ok n → Long s0 × (length t ≤ 60000) × ((m : Mesh) × Spells t m × Within m × Legal m × Held m n s0 s)
  pub complete : (m : Mesh) → Spells t m → Within m → Legal m → length t ≤ 60000 → Long s0 → (n : Counts) × (r ≡ Ok n) × Held m n s0 s
  pub bent : (k : ℕ) → length t ≤ 60000 → Long s0 → r ≡ Err (fault Shape k) ↔ Misshapen t k
  pub twice : (k : ℕ) → length t ≤ 60000 → Long s0 → r ≡ Err (fault Edge k) ↔ Doubled t k
  pub blamed : (f : Fault) → r ≡ Err f → Long s0 → ((60000 < length t) × (f ≡ fault Limits 60000)) ⊎ ((length t ≤ 60000) × Faulty t f)
  pub cleared : (f : Fault) → r ≡ Err f → Long s0 → s ≡ blank s0
