use Rattle.stabbing.proofs.Turns.{difference_fits, difference_read}
use Rattle.stabbing.proofs.arrow.Arrow.turn.Goals as goal

pub overflow_sub-result : goal.overflow_sub-result
overflow_sub-result c =
    let v = c.args.self in
    let w = c.args.w in
    difference_fits v.x w.y v.y w.x v.x_within w.y_within v.y_within w.x_within

pub returns : goal.returns
returns c =
    let v = c.args.self in
    let w = c.args.w in
    difference_read v.x w.y v.y w.x v.x_within w.y_within v.y_within w.x_within
