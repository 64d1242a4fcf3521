use Rattle.std.proofs.Common.{◌<◌, true, length, arith}
use Rattle.std.proofs.lemmas.List.{length-set}
use Rattle.visibility.proofs.Numbers.{marks_only}
use Rattle.visibility.proofs.trail.Trail.new.Goals as goal

pub returns-clause-entered : goal.returns-clause-entered
returns-clause-entered c =
    let was = c.no_marks-entered.ensures in
    let long : c.args.a < length c.no_marks-entered.result = omega (arith, was.long) in
    (marks_only c.no_marks-entered.result c.args.a was.value long, omega (arith, was.long, length-set c.no_marks-entered.result c.args.a true))
