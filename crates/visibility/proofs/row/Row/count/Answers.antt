use Rattle.std.proofs.Common.{◌≡◌, ◌+◌, Bool, true, false, cond, sym, ap, arith}
use Rattle.visibility.specs.Bits.{shown}
use Rattle.visibility.specs.Sets.{number}
use Rattle.visibility.proofs.Numbers.{number_more, number_none}
use Rattle.visibility.proofs.row.Row.count.Goals as goal
use Rattle.visibility.proofs.row.Row.count.Goals.{then-shows, else-shows}

pub loop-room-init : goal.loop-room-init
loop-room-init c = (omega arith, sym (number_none (shown c.args.self.now.bytes)))

pub loop-room-preserved : goal.loop-room-preserved
loop-room-preserved c =
    let s = shown c.args.self.now.bytes in
    let more = number_more c.loop-room.room s in
    elim c.if-shows.branch [
      | then-shows w ↦
          let here : s c.loop-room.room ≡ true = sym w.if-shows.ensures in
          let e = ap (λ (b : Bool). cond b 1 0 + number c.loop-room.room s) here in
          (omega (arith, w.count-is, c.loop-room.invariant.0), omega (arith, w.count-is, more, e, c.loop-room.invariant.1))
      | else-shows w ↦
          let here : s c.loop-room.room ≡ false = sym w.if-shows.ensures in
          let e = ap (λ (b : Bool). cond b 1 0 + number c.loop-room.room s) here in
          (omega (arith, w.count-is, c.loop-room.invariant.0), omega (arith, w.count-is, more, e, c.loop-room.invariant.1))
    ]
