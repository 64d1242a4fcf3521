use Rattle.std.proofs.Common.{rules}
use Rattle.grid.proofs.Blames.{blames}
use Rattle.grid.proofs.Meanings.{understands}
use Rattle.grid.proofs.plans.read.Goals as goal

pub returns-then-is_err-clause-blamed : goal.returns-then-is_err-clause-blamed
returns-then-is_err-clause-blamed c = blames _ _ _ (search rules)

pub returns-then-is_err-clause-understood : goal.returns-then-is_err-clause-understood
returns-then-is_err-clause-understood c = understands _ _ _ _ (search rules) (search rules)

pub returns-else-is_err-clause-blamed : goal.returns-else-is_err-clause-blamed
returns-else-is_err-clause-blamed c = blames _ _ _ (search rules)

pub returns-else-is_err-clause-understood : goal.returns-else-is_err-clause-understood
returns-else-is_err-clause-understood c = understands _ _ _ _ (search rules) (search rules)
