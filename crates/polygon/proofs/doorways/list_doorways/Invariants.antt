use Rattle.polygon.specs.Corners.{points}
use Rattle.polygon.specs.Doorways.{doorways, Holds}
use Rattle.polygon.proofs.doorways.list_doorways.Given as goal

abbrev pub invariant-loop-edge : goal.invariant-loop-edge
invariant-loop-edge l = Holds l.space l.initial.space l.count (doorways (points l.corners) l.chains.edges.now l.edge-index)
