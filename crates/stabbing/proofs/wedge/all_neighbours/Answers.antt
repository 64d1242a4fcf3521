use Rattle.std.proofs.Common.{sym, ap, ◌∙◌, arith}
use Rattle.std.specs.Slice.Iter.{windows_rest}
use Rattle.stabbing.specs.Threes.{neighbours_none}
use Rattle.stabbing.specs.Wedge.{all_stabbed}
use Rattle.stabbing.proofs.wedge.all_neighbours.Goals as goal

pub returns : goal.returns
returns c =
    let none = neighbours_none (windows_rest c.loop-three.three-iterator) (omega (arith, c.in-None.ensures.steps, c.loop-three.invariant.three)) in
    sym (ap all_stabbed none) ∙ c.loop-three.invariant.so_far
