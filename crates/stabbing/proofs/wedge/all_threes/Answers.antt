use Rattle.std.proofs.Common.{is_some, sym, ap, ◌∙◌}
use Rattle.plane.specs.Shapes.{coefficients}
use Rattle.stabbing.specs.Answers.{some_mapped}
use Rattle.stabbing.specs.Threes.{stabbed_short, threes_long}
use Rattle.stabbing.specs.Wedge.{all_stabbed}
use Rattle.stabbing.proofs.wedge.all_threes.Goals as goal

pub returns-then-path-lt3 : goal.returns-then-path-lt3
returns-then-path-lt3 c =
    c.is_some.ensures ∙ some_mapped coefficients c.exact_line.result ∙ ap is_some c.exact_line.ensures.value ∙ sym (stabbed_short c.args.path.now c.if-path-lt3.true)

pub returns-else-path-lt3 : goal.returns-else-path-lt3
returns-else-path-lt3 c = c.all_neighbours.ensures ∙ sym (ap all_stabbed (threes_long c.args.path.now c.if-path-lt3.false))
