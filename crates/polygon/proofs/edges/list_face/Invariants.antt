use Rattle.std.proofs.Common.{◌≡◌, ◌++◌}
use Rattle.polygon.specs.Edges.{edges_to}
use Rattle.polygon.proofs.edges.list_face.Given as goal

abbrev pub invariant-loop-i : goal.invariant-loop-i
invariant-loop-i l = l.edges.items ≡ l.initial.edges.items ++ edges_to l.face l.f l.i
