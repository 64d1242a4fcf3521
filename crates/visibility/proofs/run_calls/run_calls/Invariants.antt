use Rattle.std.proofs.Common.{◌≡◌}
use Rattle.visibility.specs.States.{world_of, state_of}
use Rattle.visibility.specs.Worlds.{World}
use Rattle.visibility.proofs.Walked.{RanCalls}
use Rattle.visibility.proofs.run_calls.run_calls.Given as goal

abbrev pub invariant-loop-i : goal.invariant-loop-i
invariant-loop-i g l =
    let w : World = world_of g.M.Map g.S.Stabber l.initial.table in
    (l.table.map ≡ l.initial.table.map)
    × (g.S.Stabber.lets l.table.stabber ≡ g.S.Stabber.lets l.initial.table.stabber)
    × RanCalls w l.calls l.initial.answers l.i l.answers (state_of l.table)
