use Rattle.std.proofs.Common.{rules}
use Rattle.plane.proofs.Values.{sum_fits, sums_fit, value_fits}
use Rattle.plane.proofs.line.Line.value.Goals as goal

pub overflow_add-result : goal.overflow_add-result
overflow_add-result c = let l = c.args.self.now in search (rules, sum_fits, l.a_within, l.b_within, c.ranges.x, c.ranges.y)

pub overflow_add-result-2 : goal.overflow_add-result-2
overflow_add-result-2 c = let l = c.args.self.now in search (rules, sums_fit, l.a_within, l.b_within, l.c_within, c.ranges.x, c.ranges.y)

pub returns : goal.returns
returns c = let l = c.args.self.now in (value_fits l.a l.b l.c c.args.x c.args.y l.a_within l.b_within l.c_within c.ranges.x c.ranges.y).2
