-- The doorways of a plan: the edges that two faces share.
--   mate es e        the latest edge of es that runs back between the corners of the edge e
--   shared ps es k   edge k of es as a doorway, if an edge of a later face runs back between the same corners: from the face of edge k to that
--                    face; its first corner is the right post, its second the left one
--   added ds o       the doorways ds with one more behind them, where there is one; there are at most 2,048
--   doorways ps es n the doorways that the edges below n give, in the order of the edges
--   Holds space space0 count ds
--                    the space has the doorways ds, count of them, in front, and behind them what space0 has there
use Rattle.std.specs.Prelude.{◌≡◌, ℕ, zero, suc, ◌≤◌, cond, List, [], ◌∷◌, ◌++◌, length, drop, Some, None, Option, nat_lt}
use Rattle.std.specs.Option.{option_map}
use Rattle.plane.specs.Separation.{Point}
use Rattle.polygon.specs.declared.edge.Edge.{Edge}
use Rattle.maps.specs.declared.passage.Passage.{Passage}
use Rattle.polygon.specs.Convexity.{spot}
use Rattle.polygon.specs.Edges.{edge_at}
use Rattle.polygon.specs.Chains.{latest}

abbrev pub passage : List Point → Edge → ℕ → Passage
passage ps e far =
    record {
      near = e.face;
      far = far;
      left_x = (spot ps e.to).0;
      left_y = (spot ps e.to).1;
      right_x = (spot ps e.from).0;
      right_y = (spot ps e.from).1;
    }

abbrev pub mate : List Edge → Edge → Option Edge
mate es e = option_map (edge_at es) (latest es e.to e.from (length es))

abbrev pub back : List Point → Edge → Option Edge → Option Passage
back ps e None = None
back ps e (Some m) = cond (nat_lt e.face m.face) (Some (passage ps e m.face)) None

abbrev pub shared : List Point → List Edge → ℕ → Option Passage
shared ps es k = back ps (edge_at es k) (mate es (edge_at es k))

abbrev pub added : List Passage → Option Passage → List Passage
added ds None = ds
added ds (Some p) = cond (nat_lt (length ds) 2048) (ds ++ p ∷ []) ds

unfoldable pub doorways : List Point → List Edge → ℕ → List Passage
doorways ps es zero = []
doorways ps es (suc k) = added (doorways ps es k) (shared ps es k)

pub record Holds (space space0 : List Passage) (count : ℕ) (ds : List Passage) : Type 0 where
  pub counts : count ≡ length ds
  pub has : space ≡ ds ++ drop count space0
  pub most : count ≤ 2048
  pub room : 2048 ≤ length space0
