-- The edges of a plan, face by face.
--   after face i     the place behind place i of a face; the first behind the last
--   edge face f i    the edge of face f from place i
--   edges_to face f n   the edges of face f from its places below n
--   all_edges k ss ns   the edges of all faces with corner counts ss and corner numbers ns, of which the first is face k
--   edge_at es k     edge k of es
use Rattle.std.specs.Prelude.{ℕ, zero, suc, ◌+◌, cond, List, [], ◌∷◌, ◌++◌, length, take, drop, nat_lt, slice_index, slice_index_or}
use Rattle.polygon.specs.declared.edge.Edge.{Edge}

abbrev pub after : List ℕ → ℕ → ℕ
after face i = cond (nat_lt (i + 1) (length face)) (i + 1) 0

abbrev pub edge : List ℕ → ℕ → ℕ → Edge
edge face f i = record { from = slice_index face i; to = slice_index face (after face i); face = f }

unfoldable pub edges_to : List ℕ → ℕ → ℕ → List Edge
edges_to face f zero = []
edges_to face f (suc n) = edges_to face f n ++ edge face f n ∷ []

abbrev pub all_edges : ℕ → List ℕ → List ℕ → List Edge
all_edges k [] ns = []
all_edges k (s ∷ ss) ns = edges_to (take s ns) k (length (take s ns)) ++ all_edges (k + 1) ss (drop s ns)

abbrev pub edge_at : List Edge → ℕ → Edge
edge_at es k = slice_index_or es k (record { from = 0; to = 0; face = 0 })
