use Rattle.std.proofs.Common.{◌≡◌, ◌≤◌, length}
use Rattle.grid.specs.Doorways.{openings}
use Rattle.grid.proofs.drawn.Plan.doorways.Given as goal

abbrev pub invariant-loop-k : goal.invariant-loop-k
invariant-loop-k l = (l.found.items ≡ openings l.self.size l.self.pixels.now l.k) × (length l.found.items ≤ l.k)
