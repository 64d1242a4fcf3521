-- Edges found by their corners. The edges that leave corners with the same rest by 1,024 are chained, the latest first.
--   last es b k      the latest edge below k whose first corner has the rest b
--   latest es u v k  the latest edge below k from u to v
--   once es n k      of the n edges from edge k on, the first that an earlier edge of es repeats is a fault of its face
--   Linked es k heads nexts
--                    the first k edges of es are chained: heads has the latest edge for each rest, and nexts for each edge the one before it
use Rattle.std.specs.Prelude.{◌≡◌, ℕ, zero, suc, ◌+◌, ◌%◌, ◌<◌, cond, ◌&&◌, List, length, Some, None, Option, Ok, Err, Result, ◌==◌, is_none, slice_index_or}
use Rattle.text.specs.declared.faults.Fault.{Fault}
use Rattle.text.specs.declared.faults.Ground.TheVariants.{Edge as EdgeTwice}
use Rattle.text.specs.Faults.{fault}
use Rattle.polygon.specs.declared.edge.Edge.{Edge}
use Rattle.polygon.specs.Edges.{edge_at}

unfoldable pub last : List Edge → ℕ → ℕ → Option ℕ
last es b zero = None
last es b (suc k) = cond ((edge_at es k).from % 1024 == b) (Some k) (last es b k)

unfoldable pub latest : List Edge → ℕ → ℕ → ℕ → Option ℕ
latest es u v zero = None
latest es u v (suc k) = cond ((edge_at es k).from == u && (edge_at es k).to == v) (Some k) (latest es u v k)

unfoldable pub once : List Edge → ℕ → ℕ → Result (Unit {0}) Fault
once es zero k = Ok tt
once es (suc n) k = cond (is_none (latest es (edge_at es k).from (edge_at es k).to k)) (once es n (k + 1)) (Err (fault EdgeTwice (edge_at es k).face))

pub record Linked (es : List Edge) (k : ℕ) (heads nexts : List (Option ℕ)) : Type 0 where
  pub wide : length heads ≡ 1024
  pub long : length nexts ≡ 4096
  pub first : (b : ℕ) → b < 1024 → slice_index_or heads b None ≡ last es b k
  pub before : (e : ℕ) → e < k → slice_index_or nexts e None ≡ last es ((edge_at es e).from % 1024) e
