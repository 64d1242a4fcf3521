-- The corners of the places so far stand in both rounds.
use Rattle.polygon.specs.Corners.{points}
use Rattle.polygon.proofs.Rounds.{Laid}
use Rattle.polygon.proofs.convexity.twice_round.Given as goal

abbrev pub invariant-loop-k : goal.invariant-loop-k
invariant-loop-k l = Laid (points l.corners) l.face (points l.ring) l.k
