use Rattle.std.proofs.Common.{◌≡◌, true}
use Rattle.polygon.specs.Corners.{points}
use Rattle.polygon.specs.Convexity.{ring, clear, all_below}
use Rattle.polygon.proofs.convexity.is_convex.Given as goal

abbrev pub invariant-loop-i : goal.invariant-loop-i
invariant-loop-i l = all_below (clear l.n (ring (points l.corners) l.face)) l.i ≡ true
