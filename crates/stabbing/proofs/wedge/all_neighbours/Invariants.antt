use Rattle.std.proofs.Common.{◌≡◌}
use Rattle.std.specs.Slice.Iter.{windows_rest, windows_size}
use Rattle.stabbing.specs.Wedge.{all_stabbed, neighbours}
use Rattle.stabbing.proofs.wedge.all_neighbours.Given as goal

abbrev pub invariant-loop-three : goal.invariant-loop-three
invariant-loop-three l = record {
  three : windows_size l.three-iterator ≡ 3;
  so_far : all_stabbed (neighbours (windows_rest l.three-iterator)) ≡ all_stabbed (neighbours l.path);
}
