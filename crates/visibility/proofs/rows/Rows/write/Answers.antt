use Rattle.std.proofs.Common.{ℕ, ◌*◌, ◌<◌, ◌≤◌, length, take, sym, ap, ◌∙◌, zero-mul, arith}
use Rattle.std.proofs.lemmas.List.{length-take, get_or-take}
use Rattle.visibility.specs.declared.row.Row.{Row}
use Rattle.visibility.specs.Bits.{shown}
use Rattle.visibility.specs.Bitmaps.{width, packed}
use Rattle.visibility.specs.Sights.{sight}
use Rattle.visibility.proofs.Bitmaps.{pixels_none, part_within, part_written}
use Rattle.visibility.proofs.rows.Rows.write.Goals as goal

pub loop-a-init : goal.loop-a-init
loop-a-init c =
    ap (λ (k : ℕ). take k c.args.space.now) (zero-mul (width c.args.n))
    ∙ sym (pixels_none c.args.n (sight c.args.self.now.rows))

pub loop-a-preserved : goal.loop-a-preserved
loop-a-preserved c =
    let w = width c.args.n in
    let k : c.loop-a.a < c.args.n = omega (arith, c.loop-a-test.true, length-take c.args.n c.args.self.now.rows) in
    let l : c.loop-a.a * width c.args.n ≤ length c.loop-a.space = omega (arith, part_within c.loop-a.a c.args.n w k) in
    part_written c.args.n c.loop-a.a _ (sight c.args.self.now.rows) c.loop-a.space c.write.new.part l c.loop-a.invariant
    (c.write.ensures ∙ ap (λ (r : Row). packed c.args.n (shown r.bytes)) (get_or-take c.args.n c.args.self.now.rows c.loop-a.a _ k))
