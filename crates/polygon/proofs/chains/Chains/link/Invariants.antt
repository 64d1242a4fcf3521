use Rattle.std.proofs.Common.{◌≡◌, ◌-◌, length}
use Rattle.polygon.specs.Chains.{once}
use Rattle.polygon.proofs.chains.Chains.link.Given as goal

abbrev pub invariant-loop-edge : goal.invariant-loop-edge
invariant-loop-edge l =
    (l.self.known ≡ l.edge-index)
    × (l.self.edges.now ≡ l.initial.self.edges.now)
    × (once l.initial.self.edges.now (length l.initial.self.edges.now - l.edge-index) l.edge-index ≡ once l.initial.self.edges.now (length l.initial.self.edges.now) 0)
