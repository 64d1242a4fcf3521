use Rattle.std.proofs.Common.{◌≡◌, ◌-◌, take, sym, ◌∙◌, arith}
use Rattle.polygon.specs.Convexity.{shapely}
use Rattle.polygon.specs.Corners.{points}
use Rattle.polygon.specs.Plans.{opened}
use Rattle.polygon.proofs.Accepting.{accepts}
use Rattle.polygon.proofs.plans.read_plan.Goals as goal

pub returns-clause-accepted : goal.returns-clause-accepted
returns-clause-accepted c =
    let p = c.in_ok-plan.plan in
    let ps = points c.read_layout.new.corners in
    let ss = c.read_layout.new.sizes in
    let ns = c.read_layout.new.numbers in
    let told = c.read_layout.ensures in
    let f : p.faces ≡ p.faces - 0 = omega arith in
    let e : p.edges ≡ p.edges - 0 = omega arith in
    accepts c.args.text.now c.args.doorways.now (points c.args.corners.now) c.args.numbers.now p ps ss ns (sym told.answer ∙ c.in_ok-plan.was) told.corners told.sizes told.numbers c.in_ok-plan.ensures.bound.1
    ((λ i. shapely ps 0 (take (f i) ss) (take (e i) ns)) ∙ sym c.check_faces.ensures ∙ c.in_ok-check_faces.was)
    c.in_ok-doorways.doorways c.open.new.space
    ((λ i. (opened ps (take (f i) ss) (take (e i) ns) c.args.doorways.now).result) ∙ sym c.open.ensures.answer ∙ c.in_ok-doorways.was)
    (c.open.ensures.after ∙ (λ i. (opened ps (take (sym f i) ss) (take (sym e i) ns) c.args.doorways.now).space))
