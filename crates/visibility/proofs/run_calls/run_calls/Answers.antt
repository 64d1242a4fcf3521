use Rattle.std.proofs.Common.{◌≡◌, ◌<◌, ◌∷◌, reverse, length, get_or, take, refl, sym, ◌∙◌, ap, subst, arith}
use Rattle.std.proofs.lemmas.List.{get_or_default, get_or-take, length-take}
use Rattle.visibility.specs.declared.call.Call.TheVariants.{Fill}
use Rattle.visibility.specs.Calls.{Answered}
use Rattle.visibility.specs.Histories.{Stands}
use Rattle.visibility.specs.States.{world_of, state_of}
use Rattle.visibility.specs.Worlds.{World, world, meant}
use Rattle.visibility.proofs.Paths.{lined_true}
use Rattle.visibility.proofs.Walked.{ran_none, calls_more, fresh_stands}
use Rattle.visibility.proofs.run_calls.run_calls.Goals as goal

pub loop-i-init : goal.loop-i-init
loop-i-init g c =
    let t = c.new-table.result in
    let w = world_of g.M.Map g.S.Stabber t in
    (refl, refl, ran_none w (Answered w) c.args.calls.now c.args.calls.now c.args.answers.now (state_of t) (fresh_stands w (state_of t) c.new-table.ensures.shut c.new-table.ensures.filled))

pub loop-i-preserved : goal.loop-i-preserved
loop-i-preserved g c =
    let t = c.new-table.result in
    let u = c.loop-i.table in
    let was = c.loop-i.invariant in
    let calls = c.args.calls.now in
    let n = c.min-count.result in
    let i = c.loop-i.i in
    let h = reverse (take i calls) in
    let w = world_of g.M.Map g.S.Stabber t in
    let v = world_of g.M.Map g.S.Stabber u in
    let same : v ≡ w =
    ap (λ m. meant g.M.Map g.S.Stabber m u.stabber) was.0
    ∙ ap (λ l. world (g.M.Map.rooms t.map) (g.M.Map.doorways t.map) l) was.1 in
    let call = get_or (take n calls) i (Fill 0) in
    let k : i < n = omega (arith, c.loop-i-test.true, length-take n calls) in
    let l : i < length calls = omega (arith, c.min-count.ensures) in
    let m : i < length c.loop-i.answers = omega (arith, c.min-count.ensures, was.2.3) in (
      c.answer.ensures.map ∙ was.0,
      c.answer.ensures.lets ∙ was.1,
      calls_more w calls c.args.answers.now i c.loop-i.answers (state_of u) (state_of c.answer.new.self) call c.answer.result
          l m (get_or_default calls i call (Fill 0) l ∙ sym (get_or-take n calls i (Fill 0) k)) was.2
          (subst (λ (z : World). Stands z h (state_of u) → Answered z h call c.answer.result) same (c.answer.ensures.value h))
          (subst (λ (z : World). Stands z h (state_of u) → Stands z (call ∷ h) (state_of c.answer.new.self)) same (c.answer.ensures.after h)),
    )

pub returns-clause-complete : goal.returns-clause-complete
returns-clause-complete g c = λ h a b. lined_true (meant g.M.Map g.S.Stabber c.args.map c.args.stabber)
    (g.met.M.Map.inside c.args.map) (g.met.M.Map.bounded c.args.map) (g.met.S.Stabber.stabbed c.args.stabber) _ a b
