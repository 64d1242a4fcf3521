use Rattle.plane.specs.Shapes.{place}
use Rattle.stabbing.proofs.Spokes.{to_left, from_right}
use Rattle.stabbing.proofs.refutation.passed.Goals as goal

pub returns-in_err-ahead : goal.returns-in_err-ahead
returns-in_err-ahead c l proper on left right fits =
    absurd (c.in_err-ahead.ensures l proper fits (to_left l (place c.args.p) (place c.args.far.left) _ on left c.between.ensures))

pub returns : goal.returns
returns c l proper on left right fits =
    let P = place c.args.p in
    let ahead = c.in_ok-ahead.ensures l proper fits (to_left l P (place c.args.far.left) _ on left c.between.ensures) in
    c.joined-2.ensures l proper ahead (from_right l P (place c.args.far.right) _ on right c.between-2.ensures)
