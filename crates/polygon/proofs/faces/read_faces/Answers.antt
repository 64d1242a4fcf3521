use Rattle.std.proofs.Common.{◌*◌, ◌<◌, ◌≤◌, ◌++◌, length, drop, is_err, Err, sym, ap, ◌∙◌, arith}
use Rattle.std.proofs.lemmas.List.{set-get_or, length-take-le}
use Rattle.std.proofs.lemmas.Result.{err_from_is_err_and, IfOk-from_err}
use Rattle.polygon.proofs.Facings.{loop_unsized, loop_faces}
use Rattle.polygon.proofs.Steps.{face_step, face_stop}
use Rattle.polygon.proofs.faces.read_faces.Goals as goal

pub returns-in_err-size : goal.returns-in_err-size
returns-in_err-size c =
    let x = c.loop-place.lexer in
    let f = c.loop-place.place-index in
    let items = c.loop-place.place-items in
    let rest = drop c.args.total c.args.sizes.now in
    let told = c.whole_within.ensures.read in
    let below : f < c.args.total = omega (arith, c.loop-place-test.true, length-take-le c.args.total c.args.sizes.now c.requires.few) in
    let p = err_from_is_err_and c.from_residual.result c.from_residual.ensures.1 in
    let is = p.1 ∙ ap Err p.2 in
    let q = loop_unsized x.text.now c.args.limit c.args.total f c.loop-place.used x.at (items ++ rest) c.loop-place.numbers _ c.loop-place.invariant.0 below _ (sym told.answer ∙ c.in_err-size.was) in
    record { read = record { answer = is ∙ q.0; stands = told.stands ∙ q.1; same = told.same ∙ c.loop-place.invariant.1 }; sizes = ap (λ l. l ++ rest) (set-get_or items f 0) ∙ q.2; numbers = q.3; bound = IfOk-from_err c.from_residual.result _ (ap is_err is) }

pub returns-in_err-read_numbers : goal.returns-in_err-read_numbers
returns-in_err-read_numbers c =
    let x = c.loop-place.lexer in
    let f = c.loop-place.place-index in
    let items = c.loop-place.place-items in
    let rest = drop c.args.total c.args.sizes.now in
    let first = c.whole_within.ensures.read in
    let told = c.read_numbers.ensures in
    let back = c.from_residual-in_err-read_numbers in
    let small = c.in_ok-size.ensures.bound in
    let many = length-take-le c.args.total c.args.sizes.now c.requires.few in
    let below : f < c.args.total = omega (arith, c.loop-place-test.true, many) in
    let here : f < length items = omega (arith, c.loop-place-test.true, many) in
    let p = err_from_is_err_and back.result back.ensures.1 in
    let is = p.1 ∙ ap Err p.2 in
    let q = face_stop x.text.now _ c.args.limit c.args.total f c.loop-place.used x.at _ items rest c.loop-place.numbers _ c.in_ok-size.size c.loop-place.invariant.0 below here (sym first.answer ∙ c.in_ok-size.was) first.same first.stands (omega (arith, small, below, c.loop-place.invariant.2)) _ _ _ (sym told.read.answer ∙ c.in_err-read_numbers.was) told.read.stands told.after in
    record { read = record { answer = is ∙ q.0; stands = q.1; same = told.read.same ∙ first.same ∙ c.loop-place.invariant.1 }; sizes = ap (λ l. l ++ rest) (set-get_or items f 0) ∙ q.2; numbers = q.3; bound = IfOk-from_err back.result _ (ap is_err is) }

pub loop-place-preserved : goal.loop-place-preserved
loop-place-preserved c =
    let x = c.loop-place.lexer in
    let f = c.loop-place.place-index in
    let items = c.loop-place.place-items in
    let rest = drop c.args.total c.args.sizes.now in
    let first = c.whole_within.ensures.read in
    let told = c.read_numbers.ensures in
    let small = c.in_ok-size.ensures.bound in
    let many = length-take-le c.args.total c.args.sizes.now c.requires.few in
    let below : f < c.args.total = omega (arith, c.loop-place-test.true, many) in
    let here : f < length items = omega (arith, c.loop-place-test.true, many) in (
      face_step x.text.now _ c.args.limit c.args.total f c.loop-place.used x.at _ items rest c.loop-place.numbers _ c.in_ok-size.size c.loop-place.invariant.0 below here (sym first.answer ∙ c.in_ok-size.was) first.same first.stands (omega (arith, small, below, c.loop-place.invariant.2)) _ _ _ (sym told.read.answer ∙ c.in_ok-read_numbers.was) told.read.same told.read.stands told.after,
      told.read.same ∙ first.same ∙ c.loop-place.invariant.1,
      omega (arith, small, c.loop-place.invariant.2),
    )

pub returns : goal.returns
returns c =
    let x = c.loop-place.lexer in
    let f = c.loop-place.place-index in
    let over : c.args.total ≤ f = omega (arith, c.loop-place-test.false, length-take-le c.args.total c.args.sizes.now c.requires.few) in
    let q = loop_faces x.text.now c.args.limit c.args.total f c.loop-place.used x.at (c.loop-place.place-items ++ drop c.args.total c.args.sizes.now) c.loop-place.numbers _ c.loop-place.invariant.0 over in
    let e : c.loop-place.used ≤ 16 * c.args.total = omega (arith, c.loop-place.invariant.2, length-take-le c.args.total c.args.sizes.now c.requires.few) in
    record { read = record { answer = q.0; stands = q.1; same = c.loop-place.invariant.1 }; sizes = q.2; numbers = q.3; bound = e }
