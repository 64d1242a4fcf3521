use Rattle.std.proofs.Common.{take, IsTrue, ◌↔◌, rules}
use Rattle.std.specs.List.{All}
use Rattle.visibility.proofs.Bitmaps.{every_marked}
use Rattle.visibility.proofs.rows.Rows.all_filled.Goals as goal

pub returns : goal.returns
returns c =
    let filled = c.args.self.now.filled in
    let tested : IsTrue c.all.result ↔ All (λ b. IsTrue b) (take c.args.n filled) = search rules in
    every_marked c.args.n filled c.all.result (search rules) tested
