use Rattle.std.proofs.Common.{◌≡◌, length}
use Rattle.visibility.specs.Sets.{marks}
use Rattle.visibility.specs.Sights.{sight, touches}
use Rattle.visibility.proofs.Unfilled.{Unfilling}
use Rattle.visibility.proofs.rows.Rows.unfill.Given as goal

abbrev pub invariant-loop-a : goal.invariant-loop-a
invariant-loop-a l =
    Unfilling (marks l.initial.self.filled) (touches (sight l.initial.self.rows) l.x l.y) l.a l.count l.self.filled
    × (l.self.rows ≡ l.initial.self.rows)
    × (length l.self.filled ≡ length l.initial.self.filled)
