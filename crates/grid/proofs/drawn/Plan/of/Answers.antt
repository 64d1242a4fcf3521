use Rattle.std.proofs.Common.{refl, arith}
use Rattle.grid.proofs.Drawings.{is_drawn, not_drawn}
use Rattle.grid.proofs.drawn.Plan.of.Goals as goal

pub invariant_of-result : goal.invariant_of-result
invariant_of-result c =
    let front = c.in_ok-pixels.ensures.lookup.0 in
    record {
      whole = omega (arith, front.3, c.area.ensures);
      drawn = is_drawn c.args.size c.args.space.now _ _ c.area.ensures front.1 front.2 (c.if-not-is_roomy.ensures.0 refl) c.if-all_right.ensures;
    }

pub returns-else-all_right : goal.returns-else-all_right
returns-else-all_right c =
    let front = c.in_ok-pixels.ensures.lookup.0 in
    not_drawn c.args.size c.args.space.now _ _ c.area.ensures front.1 front.2 c.if-all_right.ensures
