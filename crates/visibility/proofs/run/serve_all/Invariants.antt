use Rattle.std.proofs.Common.{◌≡◌}
use Rattle.visibility.proofs.Walked.{RanOrders}
use Rattle.visibility.proofs.run.serve_all.Given as goal

abbrev pub invariant-loop-order : goal.invariant-loop-order
invariant-loop-order g l =
    (g.D.Desk.world l.desk ≡ g.D.Desk.world l.initial.desk)
    × (g.D.Desk.sharp l.desk ≡ g.D.Desk.sharp l.initial.desk)
    × RanOrders (g.D.Desk.sharp l.initial.desk) (g.D.Desk.world l.initial.desk) l.initial.orders l.order-index l.orders (g.D.Desk.state l.desk)
