-- Where a pixel that may be open or wall stands: between two rooms, inside the border.
use Rattle.std.proofs.Common.{◌≡◌, ℕ, ◌+◌, ◌-◌, ◌*◌, ◌/◌, ◌%◌, ◌<◌, Bool, true, false, cond, not, ◌&&◌, ◌||◌, refl, mul_comm, arith}
use Rattle.std.proofs.lemmas.Nat.{div_below, mod_below}
use Rattle.std.proofs.lemmas.Bool.{false≢true}
use Rattle.std.proofs.lemmas.Bool.Decides.{nat_tests}
use Rattle.grid.specs.declared.colours.Rule.TheVariants.{Room, Wall, Free}
use Rattle.grid.specs.declared.sizes.Size.{Size}
use Rattle.grid.specs.Doorways.{column, free, row}
use Rattle.grid.specs.Pixels.{border, odd, rule_of}
use Rattle.grid.specs.Sizes.{across, area}

only_free : (a b : Bool) → free (cond a Room (cond b Wall Free)) ≡ true → (a ≡ false) × (b ≡ false)
only_free true b e = absurd (false≢true e)
only_free false true e = absurd (false≢true e)
only_free false false e = (refl, refl)

module _ (s : Size) (x y : ℕ) (e : free (rule_of s x y) ≡ true) where
  two : ((odd x && odd y) ≡ false) × ((border s x y || (not (odd x) && not (odd y))) ≡ false)
  two = only_free (odd x && odd y) (border s x y || (not (odd x) && not (odd y))) e

  -- in an odd row it stands in an even column, between a room and the next
  pub beside : y % 2 ≡ 1 → (x % 2 ≡ 0) × (0 < x) × (x ≡ 2 * s.w → ⊥)
  beside h = let t = two in (grind (arith, nat_tests), grind (arith, nat_tests), λ k. grind (arith, nat_tests))

  -- in an even row it stands in an odd column, between a room and the one above
  pub above : (y % 2 ≡ 1 → ⊥) → (x % 2 ≡ 1) × (0 < y) × (y ≡ 2 * s.h → ⊥)
  above h = let t = two in (grind (arith, nat_tests), grind (arith, nat_tests), λ k. grind (arith, nat_tests))

  -- so the rooms on both sides are rooms of the plan
  pub rooms_beside : x < across s.w → y < across s.h → y % 2 ≡ 1 → ((x - 2) / 2 + 1 < s.w) × ((y - 1) / 2 < s.h)
  rooms_beside a b h = let t = beside h in (omega (arith, t.2), omega arith)

  pub rooms_above : x < across s.w → y < across s.h → (y % 2 ≡ 1 → ⊥) → ((x - 1) / 2 < s.w) × ((y - 2) / 2 + 1 < s.h)
  rooms_above a b h = let t = above h in (omega arith, omega (arith, t.2))

-- a pixel of the plan stands in a column and a row of it
pub stands : (s : Size) (k : ℕ) → k < area s → (column s k < across s.w) × (row s k < across s.h)
stands s k h =
    let w = across s.w in
    let some : 0 < w = omega arith in
    (mod_below k w some, div_below k w (across s.h) some (omega (arith, mul_comm (across s.w) (across s.h))))
