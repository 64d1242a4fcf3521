-- What the edges of a plan share, in words.
--   Runs es u v k    edge k of es runs from u to v
--   Distinct es      no edge is used twice in one direction
--   Repeats es k     edge k runs as an earlier edge does
--   Shares es k q    edge q runs back between the corners of edge k, in a later face
--   Doors ps es n ds ds are the doorways of the edges below n, in the order of these edges: one for each edge that an edge of a later face shares,
--                    from the edge's face to that face, with the edge's first corner as the right post and its second as the left one
use Rattle.std.specs.Prelude.{◌≡◌, ℕ, suc, ◌<◌, List, [], ◌∷◌, ◌++◌, length}
use Rattle.plane.specs.Separation.{Point}
use Rattle.polygon.specs.declared.edge.Edge.{Edge}
use Rattle.maps.specs.declared.passage.Passage.{Passage}
use Rattle.polygon.specs.Edges.{edge_at}
use Rattle.polygon.specs.Doorways.{passage}

abbrev pub Runs : List Edge → ℕ → ℕ → ℕ → Type 0
Runs es u v k = ((edge_at es k).from ≡ u) × ((edge_at es k).to ≡ v)

abbrev pub Distinct : List Edge → Type 0
Distinct es = (i j : ℕ) → i < j → j < length es → Runs es (edge_at es j).from (edge_at es j).to i → ⊥

abbrev pub Repeats : List Edge → ℕ → Type 0
Repeats es k = (i : ℕ) × (i < k) × Runs es (edge_at es k).from (edge_at es k).to i

abbrev pub Shares : List Edge → ℕ → ℕ → Type 0
Shares es k q = (q < length es) × Runs es (edge_at es k).to (edge_at es k).from q × ((edge_at es k).face < (edge_at es q).face)

pub data Doors (ps : List Point) (es : List Edge) : ℕ → List Passage → Type 0 where
  none : Doors ps es 0 []
  skip : (k : ℕ) (ds : List Passage) → Doors ps es k ds → ((q : ℕ) → Shares es k q → ⊥) → Doors ps es (suc k) ds
  door : (k : ℕ) (ds : List Passage) (q : ℕ) → Doors ps es k ds → Shares es k q → Doors ps es (suc k) (ds ++ passage ps (edge_at es k) (edge_at es q).face ∷ [])
