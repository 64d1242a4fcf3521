use Rattle.std.proofs.Common.{◌≡◌, ◌<◌, Some, sym, ap, ◌∙◌, arith}
use Rattle.std.specs.Option.{option_map}
use Rattle.polygon.specs.Edges.{edge_at}
use Rattle.polygon.proofs.Linking.{within_reach, found, missed, shorter, passed, chained}
use Rattle.polygon.proofs.chains.Chains.find.Goals as goal

pub bounds-self-e : goal.bounds-self-e
bounds-self-e c =
    let i = c.loop-link.invariant in
    let here : c.loop-link.link ≡ Some c.from-e.result = c.in-Some.is ∙ ap Some (sym c.from-e.ensures) in
    omega (arith, within_reach c.args.self.now.edges.now c.args.u c.args.v i.0 c.loop-link.link _ i.2 i.3 c.from-e.result here, i.1, c.args.self.now.within)

pub returns-then-runs : goal.returns-then-runs
returns-then-runs c =
    let es = c.args.self.now.edges.now in
    let i = c.loop-link.invariant in
    let here : c.loop-link.link ≡ Some c.from-e.result = c.in-Some.is ∙ ap Some (sym c.from-e.ensures) in
    ap (option_map (edge_at es)) (found es c.args.u c.args.v i.0 c.loop-link.link _ i.2 i.3 c.from-e.result here (sym c.if-runs.ensures))

pub bounds-self-e-in-Some : goal.bounds-self-e-in-Some
bounds-self-e-in-Some c =
    let i = c.loop-link.invariant in
    let here : c.loop-link.link ≡ Some c.from-e.result = c.in-Some.is ∙ ap Some (sym c.from-e.ensures) in
    omega (arith, within_reach c.args.self.now.edges.now c.args.u c.args.v i.0 c.loop-link.link _ i.2 i.3 c.from-e.result here, i.1, c.args.self.now.within, c.args.self.now.few)

pub loop-link-smaller : goal.loop-link-smaller
loop-link-smaller c =
    let es = c.args.self.now.edges.now in
    let i = c.loop-link.invariant in
    let here : c.loop-link.link ≡ Some c.from-e.result = c.in-Some.is ∙ ap Some (sym c.from-e.ensures) in
    let below : c.from-e.result < c.args.self.now.known = omega (arith, within_reach es c.args.u c.args.v i.0 c.loop-link.link _ i.2 i.3 c.from-e.result here, i.1) in
    shorter es c.args.u c.args.v i.0 c.loop-link.link _ i.2 i.3 c.from-e.result here _ _ (c.args.self.now.linked.before c.from-e.result below)

pub loop-link-preserved : goal.loop-link-preserved
loop-link-preserved c =
    let es = c.args.self.now.edges.now in
    let i = c.loop-link.invariant in
    let here : c.loop-link.link ≡ Some c.from-e.result = c.in-Some.is ∙ ap Some (sym c.from-e.ensures) in
    let below : c.from-e.result < c.args.self.now.known = omega (arith, within_reach es c.args.u c.args.v i.0 c.loop-link.link _ i.2 i.3 c.from-e.result here, i.1) in (
      c.from-e.result,
      omega (arith, below),
      chained es c.args.u c.args.v i.0 c.loop-link.link _ i.2 i.3 c.from-e.result here _ (c.args.self.now.linked.before c.from-e.result below),
      passed es c.args.u c.args.v i.0 c.loop-link.link _ i.2 i.3 c.from-e.result here (sym c.if-runs.ensures),
    )

pub returns : goal.returns
returns c =
    let es = c.args.self.now.edges.now in
    let i = c.loop-link.invariant in
    ap (option_map (edge_at es)) (missed es c.args.u c.args.v i.0 c.loop-link.link _ i.2 i.3 c.in_default.is)
