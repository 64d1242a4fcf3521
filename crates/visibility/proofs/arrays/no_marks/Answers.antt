use Rattle.std.proofs.Common.{ap, ◌∙◌}
use Rattle.visibility.specs.Sets.{marks}
use Rattle.visibility.proofs.Numbers.{marks_none}
use Rattle.visibility.proofs.arrays.no_marks.Goals as goal

pub returns-clause-value : goal.returns-clause-value
returns-clause-value g c = ap marks c.all_of.ensures ∙ marks_none g.row.N
