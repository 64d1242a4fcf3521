use Rattle.stabbing.proofs.Turns.{sum_fits, sum_read}
use Rattle.stabbing.proofs.arrow.Arrow.along.Goals as goal

pub overflow_add-result : goal.overflow_add-result
overflow_add-result c =
    let v = c.args.self in
    let w = c.args.w in
    sum_fits v.x w.x v.y w.y v.x_within w.x_within v.y_within w.y_within

pub returns : goal.returns
returns c =
    let v = c.args.self in
    let w = c.args.w in
    sum_read v.x w.x v.y w.y v.x_within w.x_within v.y_within w.y_within
