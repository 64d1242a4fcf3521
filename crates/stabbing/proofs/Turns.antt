-- Sums and differences of two products of numbers of arrows fit 32 bits.
use Rattle.std.proofs.Common.{◌≡◌, ◌≤◌, ℤ, ◌+ℤ◌, ◌-ℤ◌, ◌*ℤ◌, nat_abs, refl, ◌∙◌, arith, lit<, w32, SFits, to_z, of_z}
use Rattle.std.proofs.lemmas.Int.{ints, to_z-of_z}
use Rattle.plane.proofs.Products.{product_read, product_within}

fits : (z : ℤ) → nat_abs z ≤ 20000 → SFits w32 z
fits z h = omega (arith, ints)

-- a product as it is computed
abbrev pub computed : ℤ → ℤ → ℤ
computed a b = to_z w32 (of_z w32 (to_z w32 (of_z w32 a) *ℤ to_z w32 (of_z w32 b)))

computed_is : (a b : ℤ) → nat_abs a ≤ 20000 → nat_abs b ≤ 20000 → computed a b ≡ a *ℤ b
computed_is a b h k = product_read w32 a b 20000 20000 (fits a h) (fits b k) h k (lit< tt)

module _ (a b c d : ℤ) (ha : nat_abs a ≤ 20000) (hb : nat_abs b ≤ 20000) (hc : nat_abs c ≤ 20000) (hd : nat_abs d ≤ 20000) where
  first_within : nat_abs (a *ℤ b) ≤ 400000000
  first_within = product_within a b 20000 20000 ha hb

  second_within : nat_abs (c *ℤ d) ≤ 400000000
  second_within = product_within c d 20000 20000 hc hd

  pub difference_fits : SFits w32 (computed a b -ℤ computed c d)
  difference_fits = rw (computed_is a b ha hb, computed_is c d hc hd) (omega (arith, ints, first_within, second_within))

  pub difference_read : to_z w32 (of_z w32 (computed a b -ℤ computed c d)) ≡ a *ℤ b -ℤ c *ℤ d
  difference_read = to_z-of_z w32 _ difference_fits ∙ rw (computed_is a b ha hb, computed_is c d hc hd) refl

  pub sum_fits : SFits w32 (computed a b +ℤ computed c d)
  sum_fits = rw (computed_is a b ha hb, computed_is c d hc hd) (omega (arith, ints, first_within, second_within))

  pub sum_read : to_z w32 (of_z w32 (computed a b +ℤ computed c d)) ≡ a *ℤ b +ℤ c *ℤ d
  sum_read = to_z-of_z w32 _ sum_fits ∙ rw (computed_is a b ha hb, computed_is c d hc hd) refl
