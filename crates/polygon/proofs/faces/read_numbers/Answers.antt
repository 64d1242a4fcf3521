use Rattle.std.proofs.Common.{length, Err, sym, ap, ◌∙◌}
use Rattle.std.proofs.lemmas.List.{set-get_or}
use Rattle.std.proofs.lemmas.Result.{err_from_is_err_and}
use Rattle.polygon.specs.Faces.{number}
use Rattle.polygon.proofs.Fillings.{loop_err, loop_end}
use Rattle.polygon.proofs.Steps.{number_step}
use Rattle.polygon.proofs.faces.read_numbers.Goals as goal

pub returns-in_err-place : goal.returns-in_err-place
returns-in_err-place c =
    let x = c.loop-place.lexer in
    let k = c.loop-place.place-index in
    let told = c.whole_within.ensures.read in
    let p = err_from_is_err_and c.from_residual.result c.from_residual.ensures.1 in
    let q = loop_err (number x.text.now c.args.limit) (length c.args.places.now) k k x.at c.loop-place.places _ c.loop-place.invariant.0 c.loop-place-test.true _ (sym told.answer ∙ c.in_err-place.was) in
    record { read = record { answer = p.1 ∙ ap Err p.2 ∙ q.0; stands = told.stands ∙ q.1; same = told.same ∙ c.loop-place.invariant.1 }; after = set-get_or c.loop-place.places k 0 ∙ q.2 }

pub loop-place-preserved : goal.loop-place-preserved
loop-place-preserved c =
    let x = c.loop-place.lexer in
    let k = c.loop-place.place-index in
    let told = c.whole_within.ensures.read in (
      number_step x.text.now _ c.args.limit (length c.args.places.now) k x.at _ c.loop-place.places _ c.in_ok-place.field-0 c.loop-place.invariant.0 c.loop-place-test.true told.same told.stands (sym told.answer ∙ c.in_ok-place.was),
      told.same ∙ c.loop-place.invariant.1,
    )

pub returns : goal.returns
returns c =
    let x = c.loop-place.lexer in
    let k = c.loop-place.place-index in
    let q = loop_end (number x.text.now c.args.limit) (length c.args.places.now) k k x.at c.loop-place.places _ c.loop-place.invariant.0 c.loop-place-test.false in
    record { read = record { answer = q.0; stands = q.1; same = c.loop-place.invariant.1 }; after = q.2 }
