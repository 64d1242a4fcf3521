use Rattle.visibility.proofs.Bits.{shown_zeros}
use Rattle.visibility.proofs.row.Row.new.Goals as goal

pub returns-clause-value : goal.returns-clause-value
returns-clause-value c = shown_zeros 32
