use Rattle.std.proofs.Common.{arith}
use Rattle.visibility.proofs.Binary.{octet_masked}
use Rattle.visibility.proofs.row.Row.octet.Goals as goal

pub returns : goal.returns
returns c =
    octet_masked c.args.self.now.bytes c.args.n c.args.k c.saturating_sub-spare.result
    (omega arith) c.requires.0 c.saturating_sub-spare.ensures
