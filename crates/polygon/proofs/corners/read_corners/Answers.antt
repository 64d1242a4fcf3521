use Rattle.std.proofs.Common.{◌≡◌, ◌<◌, ◌++◌, length, drop, Err, sym, ap, ◌∙◌, w32, SFits, arith, rules}
use Rattle.std.proofs.lemmas.List.{set-get_or, length-take-le}
use Rattle.std.proofs.lemmas.Result.{err_from_is_err_and}
use Rattle.std.proofs.lemmas.Int.{to_z-of_z}
use Rattle.polygon.specs.Corners.{points, corner}
use Rattle.polygon.proofs.Fillings.{loop_err, loop_end}
use Rattle.polygon.proofs.Steps.{corner_step}
use Rattle.polygon.proofs.corners.read_corners.Goals as goal

pub returns-in_err-x : goal.returns-in_err-x
returns-in_err-x c =
    let x = c.loop-place.lexer in
    let k = c.loop-place.place-index in
    let rest = drop c.args.total c.args.space.now in
    let told = c.next_corner.ensures.read in
    let many : length c.loop-place.place-items ≡ c.args.total = omega (arith, length-take-le c.args.total c.args.space.now c.requires) in
    let p = err_from_is_err_and c.from_residual.result c.from_residual.ensures.1 in
    let q = loop_err (corner x.text.now) c.args.total k k x.at (points (c.loop-place.place-items ++ rest)) _ c.loop-place.invariant.0 (omega (arith, many, c.loop-place-test.true)) _ (sym told.answer ∙ c.in_err-x.was) in
    record { read = record { answer = p.1 ∙ ap Err p.2 ∙ q.0; stands = told.stands ∙ q.1; same = told.same ∙ c.loop-place.invariant.1 }; after = ap (λ l. points (l ++ rest)) (set-get_or c.loop-place.place-items k c.place-item.result) ∙ q.2 }

pub loop-place-preserved : goal.loop-place-preserved
loop-place-preserved c =
    let x = c.loop-place.lexer in
    let k = c.loop-place.place-index in
    let items = c.loop-place.place-items in
    let rest = drop c.args.total c.args.space.now in
    let told = c.next_corner.ensures.read in
    let many : length items ≡ c.args.total = omega (arith, length-take-le c.args.total c.args.space.now c.requires) in
    let here : k < length items = omega (arith, many, c.loop-place-test.true, length-take-le c.args.total c.args.space.now c.requires) in
    let fx : SFits w32 c.in_ok-x.x = search rules in
    let fy : SFits w32 c.in_ok-x.y = search rules in
    let ex = to_z-of_z w32 c.in_ok-x.x fx in
    let ey = to_z-of_z w32 c.in_ok-x.y fy in (
      corner_step x.text.now _ c.args.total k x.at _ items rest _ _ (c.in_ok-x.x, c.in_ok-x.y) c.loop-place.invariant.0 (omega (arith, many, c.loop-place-test.true)) here told.same told.stands (sym told.answer ∙ c.in_ok-x.was) (λ i. (ex i, ey i)),
      told.same ∙ c.loop-place.invariant.1,
    )

pub returns : goal.returns
returns c =
    let x = c.loop-place.lexer in
    let k = c.loop-place.place-index in
    let many : length c.loop-place.place-items ≡ c.args.total = omega (arith, length-take-le c.args.total c.args.space.now c.requires) in
    let q = loop_end (corner x.text.now) c.args.total k k x.at (points (c.loop-place.place-items ++ drop c.args.total c.args.space.now)) _ c.loop-place.invariant.0 (omega (arith, many, c.loop-place-test.false)) in
    record { read = record { answer = q.0; stands = q.1; same = c.loop-place.invariant.1 }; after = q.2 }
