use Rattle.std.proofs.Common.{◌-◌, length, arith}
use Rattle.plane.specs.Shapes.{coefficients}
use Rattle.polygon.specs.Corners.{point}
use Rattle.polygon.proofs.Turning.{seen, around_is}
use Rattle.polygon.proofs.convexity.is_clear.Goals as goal

pub returns-in-Some : goal.returns-in-Some
returns-in-Some c =
    let p = c.first-item.result in
    let q = c.second-item.result in
    around_is c.args.round.now p q (length c.args.round.now - 2) c.is_none.result (omega arith) c.first-item.is c.second-item.is (omega arith)
    (seen (point p) (point q) (coefficients c.in-Some.line) _ c.first_wrong.result c.is_none.result c.in-Some.ensures c.first_wrong.ensures c.is_none.ensures)
