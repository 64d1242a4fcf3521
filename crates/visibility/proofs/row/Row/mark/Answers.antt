use Rattle.std.proofs.Common.{rules}
use Rattle.visibility.proofs.Bits.{shown_marked}
use Rattle.visibility.proofs.row.Row.mark.Goals as goal

pub returns-clause-shown : goal.returns-clause-shown
returns-clause-shown c = shown_marked c.args.self.now.bytes c.args.room (search rules)
