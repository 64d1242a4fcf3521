-- The chain from here on has the latest edge that is looked for.
use Rattle.std.proofs.Common.{◌≡◌, ℕ, ◌%◌, ◌≤◌}
use Rattle.polygon.specs.Chains.{last, latest}
use Rattle.polygon.proofs.Linking.{upto}
use Rattle.polygon.proofs.chains.Chains.find.Given as goal

abbrev pub invariant-loop-link : goal.invariant-loop-link
invariant-loop-link l =
    (j : ℕ) × (j ≤ l.self.known) × (l.link ≡ last l.self.edges.now (l.u % 1024) j) × (latest l.self.edges.now l.u l.v j ≡ latest l.self.edges.now l.u l.v l.self.known)

abbrev pub decreases-loop-link : goal.decreases-loop-link
decreases-loop-link l = upto l.link
