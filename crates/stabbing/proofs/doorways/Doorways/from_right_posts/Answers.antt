use Rattle.std.proofs.Common.{None, sym, refl, ap, ◌∙◌}
use Rattle.std.specs.Option.{option_map}
use Rattle.std.proofs.ByRecursion.{All-get_or}
use Rattle.plane.specs.Lines.{posts}
use Rattle.plane.specs.Shapes.{coefficients, place}
use Rattle.stabbing.specs.Answers.{some_mapped}
use Rattle.stabbing.specs.Asked.{Passed, from_point}
use Rattle.stabbing.proofs.Asks.{right_found, right_none}
use Rattle.stabbing.proofs.Hopeless.{refuted_none}
use Rattle.stabbing.proofs.doorways.Doorways.from_right_posts.Goals.{then-not-refutes+else-is_some, else-not-refutes}
use Rattle.stabbing.proofs.doorways.Doorways.from_right_posts.Goals as goal

pub returns-then-is_some : goal.returns-then-is_some
returns-then-is_some c =
    let path = c.args.self.list.now in
    let front = c.args.front.list.now in
    let f = from_point path in
    let passed = All-get_or (Passed path) front c.loop-near.near-index _ c.loop-near-test.true c.requires in
    right_found f front c.loop-near.near-index _ c.loop-near-test.true c.loop-near.invariant (refuted_none path _ (posts path) passed.1)
    (option_map coefficients c.from_post-found.result) (sym (some_mapped coefficients c.from_post-found.result) ∙ sym c.if-is_some.ensures) (c.from_post-found.ensures ∙ ap f c.ends.ensures.1)

pub loop-near-preserved : goal.loop-near-preserved
loop-near-preserved c =
    let path = c.args.self.list.now in
    let front = c.args.front.list.now in
    let f = from_point path in
    let passed = All-get_or (Passed path) front c.loop-near.near-index _ c.loop-near-test.true c.requires in
    let goes_on = right_none f front c.loop-near.near-index _ c.loop-near-test.true c.loop-near.invariant (refuted_none path _ (posts path) passed.1) in
    elim c.if-not-refutes.branch [
      | then-not-refutes+else-is_some w ↦
          let line = w.from_post-found.result in
          goes_on (option_map coefficients line) (sym (some_mapped coefficients line) ∙ sym w.if-is_some.ensures) (w.from_post-found.ensures ∙ ap f c.ends.ensures.1)
      | else-not-refutes w ↦
          let refuted = c.refutes.ensures w.if-not-refutes.false in
          goes_on None refl (sym (refuted_none path (place c.ends.result.right) (posts path) refuted) ∙ ap f c.ends.ensures.1)
    ]
