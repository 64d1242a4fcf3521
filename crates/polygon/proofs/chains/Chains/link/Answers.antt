use Rattle.std.proofs.Common.{◌+◌, length, Err, sym, refl, ap, ◌∙◌}
use Rattle.text.specs.declared.faults.Ground.TheVariants.{Edge}
use Rattle.text.specs.Faults.{fault}
use Rattle.polygon.proofs.Linking.{unseen, once_more, twice, once_all}
use Rattle.polygon.proofs.chains.Chains.link.Goals as goal

pub returns-then-is_some-clause-answer : goal.returns-then-is_some-clause-answer
returns-then-is_some-clause-answer c =
    let es = c.args.self.now.edges.now in
    let k = c.loop-edge.edge-index in
    let i = c.loop-edge.invariant in
    sym (sym i.2 ∙ sym (ap Err c.new.ensures ∙ ap (λ p. Err (fault Edge p)) c.from.ensures ∙ twice es (length es) k _ refl c.loop-edge-test.true (unseen es c.loop-edge.self.edges.now _ _ c.loop-edge.self.known k c.find.result _ i.0 i.1 c.find.ensures c.if-is_some.ensures)))

pub loop-edge-preserved : goal.loop-edge-preserved
loop-edge-preserved c =
    let es = c.args.self.now.edges.now in
    let k = c.loop-edge.edge-index in
    let i = c.loop-edge.invariant in (
      c.push.ensures.known ∙ ap (λ n. n + 1) i.0,
      ap (λ x. x.now) c.push.ensures.edges ∙ i.1,
      once_more es (length es) k _ i.2 c.loop-edge-test.true (unseen es c.loop-edge.self.edges.now _ _ c.loop-edge.self.known k c.find.result _ i.0 i.1 c.find.ensures c.if-is_some.ensures),
    )

pub returns-clause-answer : goal.returns-clause-answer
returns-clause-answer c = once_all c.args.self.now.edges.now (length c.args.self.now.edges.now) c.loop-edge.edge-index _ c.loop-edge.invariant.2 c.loop-edge-test.false
