-- What an accepted text gives.
--   Faces ps ss ns   each of the faces with corner counts ss and corner numbers ns, one behind the other, is convex and counterclockwise
--   Accepted t ds0 ps0 ns0 n ds ps ns
--                    the text t, read into the spaces ds0, ps0 and ns0, has a layout with the corners ps and the corner numbers ns: its faces are
--                    convex, none of its edges is used twice in one direction, and its doorways stand in front of what ds0 has; n counts its
--                    faces and its doorways, of which there are at most half as many as edges
use Rattle.std.specs.Prelude.{◌≡◌, ℕ, ◌+◌, ◌≤◌, List, [], ◌∷◌, ◌++◌, length, take, drop, replicate, Ok}
use Rattle.plane.specs.Separation.{Point}
use Rattle.polygon.specs.declared.counts.Counts.{Counts}
use Rattle.polygon.specs.declared.edge.Edge.{Edge}
use Rattle.polygon.specs.declared.layout.Plan.{Plan}
use Rattle.maps.specs.declared.passage.Passage.{Passage}
use Rattle.polygon.specs.Layouts.{laid}
use Rattle.polygon.specs.Counterclockwise.{Convex}
use Rattle.polygon.specs.Edges.{all_edges}
use Rattle.polygon.specs.Sharing.{Distinct, Doors}

abbrev pub Faces : List Point → List ℕ → List ℕ → Type 0
Faces ps [] ns = Unit {0}
Faces ps (s ∷ ss) ns = Convex ps (take s ns) × Faces ps ss (drop s ns)

pub record Accepted (t : List ℕ) (ds0 : List Passage) (ps0 : List Point) (ns0 : List ℕ) (n : Counts) (ds : List Passage) (ps : List Point) (ns : List ℕ) : Type 0 where
  pub plan : Plan
  pub sizes : List ℕ
  pub numbers : List ℕ
  pub edges : List Edge
  pub found : List Passage
  pub layout : (laid t ps0 (replicate 256 0) ns0).result ≡ Ok plan
  pub corners : ps ≡ (laid t ps0 (replicate 256 0) ns0).corners
  pub all_numbers : ns ≡ (laid t ps0 (replicate 256 0) ns0).numbers
  pub sizes_are : sizes ≡ take plan.faces (laid t ps0 (replicate 256 0) ns0).sizes
  pub numbers_are : numbers ≡ take plan.edges ns
  pub edges_are : edges ≡ all_edges 0 sizes numbers
  pub rooms : n.rooms ≡ plan.faces
  pub faces : Faces ps sizes numbers
  pub once : Distinct edges
  pub doors : Doors ps edges (length edges) found
  pub count : n.doorways ≡ length found
  pub half : n.doorways + n.doorways ≤ length edges
  pub after : ds ≡ found ++ drop (length found) ds0
