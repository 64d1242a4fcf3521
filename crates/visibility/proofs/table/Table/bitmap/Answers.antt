use Rattle.std.proofs.Common.{◌≡◌, ℕ, ◌+◌, ◌-◌, ◌*◌, true, ◌++◌, length, drop, sym, refl, ap, ◌∙◌, arith}
use Rattle.visibility.specs.Bitmaps.{every, width, heading, pixels, bitmap, no_bitmap}
use Rattle.visibility.specs.Sets.{marks}
use Rattle.visibility.specs.Sights.{sight}
use Rattle.visibility.specs.States.{state_of}
use Rattle.visibility.specs.Worlds.{world}
use Rattle.visibility.specs.declared.refusal.Refusal.TheVariants.{SpaceTooShort}
use Rattle.visibility.proofs.Bitmaps.{bitmap_size, bitmap_short, bitmap_granted, laid, front_pbm}
use Rattle.visibility.proofs.States.{refused, granted}
use Rattle.visibility.proofs.table.Table.bitmap.Goals as goal

pub returns-then-space-len-clause-value : goal.returns-then-space-len-clause-value
returns-then-space-len-clause-value g c =
    let t = c.args.self.now in
    let n = g.M.Map.rooms t.map in
    let s = c.args.space.now in
    let w = world n (g.M.Map.doorways t.map) (g.S.Stabber.lets t.stabber) in
    let counted = c.room_count-n.ensures in
    let full : every n (marks t.rows.filled) ≡ true =
    ap (λ (k : ℕ). every k (marks t.rows.filled)) (sym counted) ∙ sym c.if-not-all_filled.ensures in
    let size = bitmap_size _ n _ (sight t.rows.rows) counted (c.len-start.ensures.value ∙ ap length c.heading-heading.ensures) in
    refused (no_bitmap w (state_of t) (length s)) (state_of t) (state_of t) _ SpaceTooShort
    (bitmap_short w (state_of t) (length s) full (omega (arith, size))) refl

pub returns : goal.returns
returns g c =
    let t = c.args.self.now in
    let n = g.M.Map.rooms t.map in
    let s = c.args.space.now in
    let w = world n (g.M.Map.doorways t.map) (g.S.Stabber.lets t.stabber) in
    let v = sight t.rows.rows in
    let m = c.room_count-n.result in
    let at = c.len-start.result in
    let len = at + m * width m in
    let counted = c.room_count-n.ensures in
    let long = c.len-start.ensures.value ∙ ap length c.heading-heading.ensures in
    let full : every n (marks t.rows.filled) ≡ true =
    ap (λ (k : ℕ). every k (marks t.rows.filled)) (sym counted) ∙ sym c.if-not-all_filled.ensures in
    let size = bitmap_size m n at v counted long in
    let up_to_end : at + (len - at) ≡ len = omega arith in
    let head : c.copy_from_slice.new.self ≡ heading n =
    c.copy_from_slice.ensures.after ∙ c.as_slice.ensures.value ∙ c.heading-heading.ensures ∙ ap heading counted in
    let rows : c.write.new.space ≡ pixels n n v = c.write.ensures ∙ ap (λ (k : ℕ). pixels k k v) counted in
    let whole =
    laid (heading n) (pixels n n v) s c.copy_from_slice.new.self c.write.new.space at at (len - at)
    head rows (long ∙ ap (λ (k : ℕ). length (heading k)) counted) refl
    ∙ ap (λ (k : ℕ). bitmap n v ++ drop k s) up_to_end in
    record {
      value = granted (no_bitmap w (state_of t) (length s)) (state_of t) (state_of t) (λ k. k ≡ length (bitmap n v)) len
          (bitmap_granted w (state_of t) (length s) full (omega (arith, size)))
          size;
      after = whole;
      format = front_pbm n len v _ (drop len s) (g.met.M.Map.inhabited t.map) (omega (arith, g.met.M.Map.bounded t.map))
          whole size;
    }
