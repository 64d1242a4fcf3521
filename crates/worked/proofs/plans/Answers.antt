use Rattle.std.proofs.Common.{rules}
use Rattle.worked.proofs.Worked.{worked_cases}
use Rattle.worked.proofs.plans.Goals as goal

pub returns : goal.returns
returns c = record { value = search rules; cases = worked_cases }
