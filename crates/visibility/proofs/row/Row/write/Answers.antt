use Rattle.std.proofs.Common.{◌≡◌, length, arith}
use Rattle.std.proofs.lemmas.List.FromFn.{fill_by_all}
use Rattle.visibility.specs.Bits.{shown}
use Rattle.visibility.specs.Bitmaps.{width, octet, packed}
use Rattle.visibility.proofs.row.Row.write.Goals as goal

pub returns : goal.returns
unfolding packed
returns c =
    let f = octet c.args.n (shown c.args.self.now.bytes) in
    let long : length c.loop-k.part ≡ width c.args.n = omega arith in
    fill_by_all f c.loop-k.part (width c.args.n) 0 long (λ k h. c.loop-k.invariant k (omega arith))
