use Rattle.std.proofs.Common.{◌≤◌, ◌-ℤ◌, ◌*ℤ◌, nat_abs, refl, ap, ◌∙◌, arith, w32, SFits}
use Rattle.std.specs.Option.{option_map}
use Rattle.std.proofs.lemmas.Int.{ints, to_z-of_z}
use Rattle.plane.specs.Shapes.{coefficients}
use Rattle.plane.proofs.Products.{product_within}
use Rattle.plane.proofs.Through.{made_through}
use Rattle.plane.proofs.line.Line.through.Goals as goal

pub overflow_sub-c : goal.overflow_sub-c
overflow_sub-c c =
    let p = c.args.p in
    let q = c.args.q in
    let px : SFits w32 p.x = omega (arith, ints) in
    let py : SFits w32 p.y = omega (arith, ints) in
    let qx : SFits w32 q.x = omega (arith, ints) in
    let qy : SFits w32 q.y = omega (arith, ints) in
    let m = product_within p.x q.y 10000 10000 p.x_within q.y_within in
    let n = product_within q.x p.y 10000 10000 q.x_within p.y_within in
    let fm : SFits w32 (p.x *ℤ q.y) = omega (arith, ints, m) in
    let fn : SFits w32 (q.x *ℤ p.y) = omega (arith, ints, n) in
    simp to_z-of_z (omega (arith, ints, m, n))

pub returns : goal.returns
returns c =
    let p = c.args.p in
    let q = c.args.q in
    let px : SFits w32 p.x = omega (arith, ints) in
    let py : SFits w32 p.y = omega (arith, ints) in
    let qx : SFits w32 q.x = omega (arith, ints) in
    let qy : SFits w32 q.y = omega (arith, ints) in
    let m = product_within p.x q.y 10000 10000 p.x_within q.y_within in
    let n = product_within q.x p.y 10000 10000 q.x_within p.y_within in
    let fm : SFits w32 (p.x *ℤ q.y) = omega (arith, ints, m) in
    let fn : SFits w32 (q.x *ℤ p.y) = omega (arith, ints, n) in
    let fa : SFits w32 (p.y -ℤ q.y) = omega (arith, ints) in
    let fb : SFits w32 (q.x -ℤ p.x) = omega (arith, ints) in
    let fd : SFits w32 (p.x *ℤ q.y -ℤ q.x *ℤ p.y) = omega (arith, ints, m, n) in
    let far : nat_abs (p.x *ℤ q.y -ℤ q.x *ℤ p.y) ≤ 200000000 = omega (arith, ints, m, n) in
    let made = simp to_z-of_z at c.new.ensures in
    ap (option_map coefficients) c.ok.ensures.value ∙ made_through p q (p.y -ℤ q.y) (q.x -ℤ p.x) (p.x *ℤ q.y -ℤ q.x *ℤ p.y) refl refl far c.new.result made
