use Rattle.std.proofs.Common.{◌<◌, Bool, ◌∷◌, reverse, length, get_or, take, ◌∙◌, subst, subst₂, arith}
use Rattle.std.proofs.lemmas.List.{get_or_default}
use Rattle.visibility.specs.Histories.{Stands}
use Rattle.visibility.specs.Replies.{Answered, calls_of}
use Rattle.visibility.specs.Worlds.{World}
use Rattle.visibility.proofs.Walked.{orders_more}
use Rattle.visibility.proofs.run.serve_all.Goals as goal

pub loop-order-preserved : goal.loop-order-preserved
loop-order-preserved g c =
    let old = c.args.orders.now in
    let i = c.loop-order.order-index in
    let h = reverse (take i (calls_of old)) in
    let s = g.D.Desk.state c.loop-order.desk in
    let t = g.D.Desk.state c.serve.new.self in
    let k = g.D.Desk.sharp c.args.desk.now in
    let w = g.D.Desk.world c.args.desk.now in
    let l : i < length c.loop-order.orders = omega arith in
    let o = get_or c.loop-order.orders i c.order-item.result in
    let p = c.serve.new.order in
    let was = c.loop-order.invariant in (
      c.serve.ensures.world ∙ was.0,
      c.serve.ensures.sharp ∙ was.1,
      orders_more k w old i c.loop-order.orders s t o p l (get_or_default c.loop-order.orders i c.order-item.result o l) was.2
          (subst₂ (λ (z : World) (b : Bool). Stands z h s → Answered b z h o p) was.0 was.1 (c.serve.ensures.value h))
          (subst (λ (z : World). Stands z h s → Stands z (o.call ∷ h) t) was.0 (c.serve.ensures.after h)),
    )
