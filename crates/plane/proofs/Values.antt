-- The value of a line at a point fits 64 bits, as it is computed from numbers of 32.
use Rattle.std.proofs.Common.{◌≡◌, ◌≤◌, ℤ, nat_abs, ◌+ℤ◌, ◌*ℤ◌, arith, w32, w64, SFits, to_z, of_z, pos}
use Rattle.std.proofs.lemmas.Int.{ints, to_z-of_z}
use Rattle.plane.proofs.Products.{product_within}

-- a number of 32 bits read as one of 64, and a product of two
abbrev pub wide : ℤ → ℤ
wide z = to_z w64 (of_z w64 (to_z w32 (of_z w32 z)))

abbrev pub times : ℤ → ℤ → ℤ
times a x = to_z w64 (of_z w64 (wide a *ℤ wide x))

pub value_fits : (a b c x y : ℤ) → nat_abs a ≤ 20000 → nat_abs b ≤ 20000 → nat_abs c ≤ 200000000 → SFits w32 x → SFits w32 y
    → SFits w64 (times a x +ℤ times b y)
    × SFits w64 (to_z w64 (of_z w64 (times a x +ℤ times b y)) +ℤ wide c)
    × (to_z w64 (of_z w64 (to_z w64 (of_z w64 (times a x +ℤ times b y)) +ℤ wide c)) ≡ a *ℤ x +ℤ b *ℤ y +ℤ c)
value_fits a b c x y ha hb hc x32 y32 =
    let hx : nat_abs x ≤ 2147483648 = omega (arith, ints, x32) in
    let hy : nat_abs y ≤ 2147483648 = omega (arith, ints, y32) in
    let across = product_within a x 20000 2147483648 ha hx in
    let upward = product_within b y 20000 2147483648 hb hy in
    let a32 : SFits w32 a = omega (arith, ints, ha) in
    let b32 : SFits w32 b = omega (arith, ints, hb) in
    let c32 : SFits w32 c = omega (arith, ints, hc) in
    let a64 : SFits w64 a = omega (arith, ints, ha) in
    let b64 : SFits w64 b = omega (arith, ints, hb) in
    let c64 : SFits w64 c = omega (arith, ints, hc) in
    let x64 : SFits w64 x = omega (arith, ints, hx) in
    let y64 : SFits w64 y = omega (arith, ints, hy) in
    let fax : SFits w64 (a *ℤ x) = omega (arith, ints, across) in
    let fby : SFits w64 (b *ℤ y) = omega (arith, ints, upward) in
    let both : SFits w64 (a *ℤ x +ℤ b *ℤ y) = omega (arith, ints, across, upward) in
    let all : SFits w64 (a *ℤ x +ℤ b *ℤ y +ℤ c) = omega (arith, ints, across, upward, hc) in
    (simp to_z-of_z both, simp to_z-of_z all, simp to_z-of_z)

-- the first sum alone, and the second, where the numbers follow from the sum
pub sum_fits : (a b x y : ℤ) → nat_abs a ≤ 20000 → nat_abs b ≤ 20000 → SFits w32 x → SFits w32 y → SFits w64 (times a x +ℤ times b y)
sum_fits a b x y ha hb x32 y32 = (value_fits a b (pos 0) x y ha hb (omega arith) x32 y32).0

pub sums_fit : (a b c x y : ℤ) → nat_abs a ≤ 20000 → nat_abs b ≤ 20000 → nat_abs c ≤ 200000000 → SFits w32 x → SFits w32 y
    → SFits w64 (to_z w64 (of_z w64 (times a x +ℤ times b y)) +ℤ wide c)
sums_fit a b c x y ha hb hc x32 y32 = (value_fits a b c x y ha hb hc x32 y32).1
