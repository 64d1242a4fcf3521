use Rattle.std.proofs.Common.{length, drop, Ok, Err, sym, ap, ◌∙◌}
use Rattle.std.proofs.lemmas.Result.{err_from_is_err_and}
use Rattle.text.specs.Lexing.{scanned}
use Rattle.text.proofs.Scans.{scan_end, scan_on, scan_ended, scan_bad}
use Rattle.text.proofs.lexing.Lexer.scan.Goals as goal

pub returns-in_err-n : goal.returns-in_err-n
returns-in_err-n c =
    let x = c.loop-b.self in
    let p = err_from_is_err_and c.from_residual.result c.from_residual.ensures.1 in
    let q = scan_bad c.args.signed x.text.now x.at x.state _ c.loop-b.invariant.0 _ (sym c.peek.ensures ∙ c.in-Some.is) _ (sym c.step.ensures.answer ∙ c.in_err-n.was) in
    record { answer = p.1 ∙ ap Err p.2 ∙ q.0; stands = c.step.ensures.stands ∙ q.1; same = c.step.ensures.same ∙ c.loop-b.invariant.1 }

pub returns-in-Some-2 : goal.returns-in-Some-2
returns-in-Some-2 c =
    let x = c.loop-b.self in
    let q = scan_ended c.args.signed x.text.now x.at x.state _ c.loop-b.invariant.0 _ (sym c.peek.ensures ∙ c.in-Some.is) c.in-Some-2.n (sym c.step.ensures.answer ∙ c.in_ok-n.was ∙ ap Ok c.in-Some-2.is) in
    record { answer = q.0; stands = c.step.ensures.stands ∙ q.1; same = c.step.ensures.same ∙ c.loop-b.invariant.1 }

pub loop-b-preserved : goal.loop-b-preserved
loop-b-preserved c =
    let x = c.loop-b.self in
    let p = c.step.ensures in
    let q = scan_on c.args.signed x.text.now x.at x.state _ c.loop-b.invariant.0 _ (sym c.peek.ensures ∙ c.in-Some.is) (sym p.answer ∙ c.in_ok-n.was ∙ ap Ok c.in_default-2.is) in (
      (λ i. scanned c.args.signed (length (p.same i)) (p.stands i) (p.state i) (drop (p.stands i) (p.same i))) ∙ q,
      p.same ∙ c.loop-b.invariant.1,
      p.sound,
    )

pub returns : goal.returns
returns c =
    let x = c.loop-b.self in
    let q = scan_end c.args.signed x.text.now x.at x.state _ c.loop-b.invariant.0 (sym c.peek.ensures ∙ c.in_default.is) in
    record { answer = c.finish.ensures ∙ q.0; stands = q.1; same = c.loop-b.invariant.1 }
