use Rattle.std.proofs.Common.{◌≡◌, ◌+◌, ◌++◌, length, drop}
use Rattle.polygon.specs.Edges.{all_edges}
use Rattle.polygon.proofs.edges.list_edges.Given as goal

abbrev pub invariant-loop-f : goal.invariant-loop-f
invariant-loop-f l =
    (l.edges.items ++ all_edges l.f (drop l.f l.sizes) l.rest ≡ all_edges 0 l.sizes l.numbers)
    × (length l.edges.items + length l.rest ≡ length l.numbers)
