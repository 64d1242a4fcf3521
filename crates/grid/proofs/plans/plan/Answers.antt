use Rattle.std.proofs.Common.{sym, arith}
use Rattle.grid.proofs.Areas.{area_fits}
use Rattle.grid.proofs.Sides.{size_read}
use Rattle.grid.proofs.plans.plan.Goals as goal

pub paint-requires : goal.paint-requires
paint-requires c =
    let size = c.in_ok-size.size in
    let start = c.new-lexer.result in
    omega (arith, area_fits size (size_read start.text.now start.at size (sym c.in_ok-size.ensures.answer)).roomy)
