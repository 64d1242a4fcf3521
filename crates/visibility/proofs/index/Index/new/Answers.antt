use Rattle.std.proofs.Common.{◌≡◌, ℕ, ◌+◌, ◌-◌, length, replicate, sym, ap, ◌∙◌, subst, arith}
use Rattle.std.proofs.lemmas.List.{length-replicate}
use Rattle.visibility.specs.declared.index.Index.{Index}
use Rattle.visibility.specs.declared.index.Next.{Next}
use Rattle.visibility.proofs.Indexing.{Entered, entered_none, entered_more, entered_all}
use Rattle.visibility.proofs.Steps.{all_nth}
use Rattle.visibility.proofs.index.Index.new.Goals as goal

pub loop-k-init : goal.loop-k-init
loop-k-init g c =
    let ds = g.M.Map.doorways c.args.map.now in
    let blank : Next = record { near = 0; far = 0 } in
    let x : Index = record { first = c.all_of-first.result; next = c.all_of-next.result } in
    subst (λ (m : ℕ). Entered ds m x) (sym c.doorway_count-count.ensures)
    (entered_none ds x (c.all_of-first.ensures ∙ ap (replicate 256) c.doorway_count-count.ensures) (ap length c.all_of-next.ensures ∙ length-replicate 2048 blank))

pub loop-k-preserved-in-Some : goal.loop-k-preserved-in-Some
loop-k-preserved-in-Some g c =
    let ds = g.M.Map.doorways c.args.map.now in
    let x = c.loop-k.index in
    let k = c.loop-k.k - 1 in
    let d = c.in-Some.doorway in
    let is = sym c.in-Some.ensures in
    let few = g.met.M.Map.few c.args.map.now in
    let bounded = g.met.M.Map.bounded c.args.map.now in
    let within = all_nth _ ds k d (g.met.M.Map.inside c.args.map.now) is in
    let now : c.loop-k.k ≡ k + 1 = omega (arith, c.loop-k-test.true) in
    let was : Entered ds (k + 1) x = subst (λ (m : ℕ). Entered ds m x) now c.loop-k.invariant in
    subst (Entered ds k) (sym c.enter.ensures)
    (entered_more ds k x d is (omega (arith, c.loop-k.auto.k, c.loop-k-test.true, c.doorway_count-count.ensures)) (omega (arith, within.0)) (omega (arith, within.1)) was)

pub returns : goal.returns
returns g c =
    let z : c.loop-k.k ≡ 0 = omega (arith, c.loop-k-test.false) in
    entered_all _ c.loop-k.index (subst (λ (m : ℕ). Entered (g.M.Map.doorways c.args.map.now) m c.loop-k.index) z c.loop-k.invariant)
