-- A plan as the format has it.
--   Mesh             the points of the corners, and the faces, each by the numbers of its corners, which count from 0
--   joined fs        the corner numbers of the faces fs, face behind face
--   edges_from k fs  the edges of the faces fs, of which the first is face k, in the order of faces and of the places in a face
--   edges_of m       the edges of all faces
--   Face n f         the face f keeps the limits: 3 to 16 corners, whose numbers are below n
--   Within m         the plan keeps the limits: 3 to 1,024 corners within ±10,000, and 1 to 256 faces
--   Shaped m         each face is convex and counterclockwise
--   Legal m          each face is convex and counterclockwise, and no edge is used twice in one direction
--   Bent m f         face f is the first that is not convex and counterclockwise
--   Twice m f        face f has the first edge that runs as an edge before it
use Rattle.std.specs.Prelude.{◌≡◌, ℕ, ◌+◌, ◌<◌, ◌≤◌, List, [], ◌∷◌, ◌++◌, length, take, slice_index_or}
use Rattle.std.specs.List.{AllByRecursion}
use Rattle.plane.specs.Limits.{PostAt}
use Rattle.plane.specs.Separation.{Point}
use Rattle.polygon.specs.declared.edge.Edge.{Edge}
use Rattle.polygon.specs.Counterclockwise.{Convex}
use Rattle.polygon.specs.Edges.{edges_to, edge_at}
use Rattle.polygon.specs.Sharing.{Distinct, Repeats}

pub record Mesh : Type 0 where
  pub corners : List Point
  pub faces : List (List ℕ)

abbrev pub joined : List (List ℕ) → List ℕ
joined [] = []
joined (f ∷ fs) = f ++ joined fs

abbrev pub edges_from : ℕ → List (List ℕ) → List Edge
edges_from k [] = []
edges_from k (f ∷ fs) = edges_to f k (length f) ++ edges_from (k + 1) fs

abbrev pub edges_of : Mesh → List Edge
edges_of m = edges_from 0 m.faces

abbrev pub Face : ℕ → List ℕ → Type 0
Face n f = (3 ≤ length f) × (length f ≤ 16) × AllByRecursion (λ c. c < n) f

pub record Within (m : Mesh) : Type 0 where
  pub corners : (3 ≤ length m.corners) × (length m.corners ≤ 1024)
  pub posts : AllByRecursion PostAt m.corners
  pub faces : (1 ≤ length m.faces) × (length m.faces ≤ 256)
  pub numbers : AllByRecursion (Face (length m.corners)) m.faces

abbrev pub Shaped : Mesh → Type 0
Shaped m = AllByRecursion (Convex m.corners) m.faces

abbrev pub Legal : Mesh → Type 0
Legal m = Shaped m × Distinct (edges_of m)

abbrev pub Bent : Mesh → ℕ → Type 0
Bent m f =
    (f < length m.faces) × AllByRecursion (Convex m.corners) (take f m.faces)
    × (Convex m.corners (slice_index_or m.faces f []) → ⊥)

abbrev pub Twice : Mesh → ℕ → Type 0
Twice m f =
    (k : ℕ) × (k < length (edges_of m)) × ((edge_at (edges_of m) k).face ≡ f)
    × Repeats (edges_of m) k × ((j : ℕ) → j < k → Repeats (edges_of m) j → ⊥)
