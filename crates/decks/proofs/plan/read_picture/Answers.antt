use Rattle.std.proofs.Common.{rules, refl}
use Rattle.decks.proofs.Made.{a_picture}
use Rattle.decks.proofs.plan.read_picture.Goals as goal

pub returns-in_err-size : goal.returns-in_err-size
returns-in_err-size c =
    let e = c.in_err-size.ensures in
    a_picture _ _ _ _ e.answer e.after e.understood (search rules)

pub returns : goal.returns
returns c =
    let e = c.in_ok-size.ensures in
    a_picture _ _ _ _ e.answer e.after e.understood (c.new.result, refl, c.new.ensures)
