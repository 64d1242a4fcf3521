use Rattle.visibility.proofs.Bits.{shown_zeros}
use Rattle.visibility.proofs.row.Row.clear.Goals as goal

pub returns : goal.returns
returns c = shown_zeros 32
