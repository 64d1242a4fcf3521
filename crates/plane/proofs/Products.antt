-- The size of a product of integers.
use Rattle.std.proofs.Common.{◌≡◌, ℕ, zero, suc, ◌*◌, ◌^◌, ◌<◌, ◌≤◌, ℤ, pos, negsuc, ◌*ℤ◌, neg_ℤ, nat_abs, refl, ◌∙◌, mul-le-mul, arith, SFits, to_z, of_z}
use mir.Syntax.{Width}
use mir.Val.{hbits}
use Rattle.std.proofs.lemmas.Int.{ints, to_z-of_z}

unsigned_abs_neg : (z : ℤ) → nat_abs (neg_ℤ z) ≡ nat_abs z
unsigned_abs_neg (pos zero) = refl
unsigned_abs_neg (pos (suc n)) = refl
unsigned_abs_neg (negsuc n) = refl

pub unsigned_abs_product : (a b : ℤ) → nat_abs (a *ℤ b) ≡ nat_abs a * nat_abs b
unsigned_abs_product (pos a) (pos b) = refl
unsigned_abs_product (pos a) (negsuc b) = unsigned_abs_neg (pos (a * suc b))
unsigned_abs_product (negsuc a) (pos b) = unsigned_abs_neg (pos (suc a * b))
unsigned_abs_product (negsuc a) (negsuc b) = refl

-- factors within m and n have a product within m * n
pub product_within : (a b : ℤ) (m n : ℕ) → nat_abs a ≤ m → nat_abs b ≤ n → nat_abs (a *ℤ b) ≤ m * n
product_within a b m n h k = rw unsigned_abs_product (mul-le-mul h k)

fits_below : (w : Width) (z : ℤ) (m : ℕ) → nat_abs z ≤ m → m < 2 ^ hbits w → SFits w z
fits_below w z m h l = omega (arith, ints)

-- the product of two such factors at any width that holds m * n, where the factors come as bits
module _ (w : Width) (a b : ℤ) (m n : ℕ) (fa : SFits w a) (fb : SFits w b) (h : nat_abs a ≤ m) (k : nat_abs b ≤ n) (l : m * n < 2 ^ hbits w) where
  pub product_fits : SFits w (to_z w (of_z w a) *ℤ to_z w (of_z w b))
  product_fits = rw (to_z-of_z w a fa, to_z-of_z w b fb) (fits_below w (a *ℤ b) (m * n) (product_within a b m n h k) l)

  pub product_read : to_z w (of_z w (to_z w (of_z w a) *ℤ to_z w (of_z w b))) ≡ a *ℤ b
  product_read = to_z-of_z w _ product_fits ∙ rw (to_z-of_z w a fa, to_z-of_z w b fb) refl
