-- Laws of the integers: products against sums, the order of factors, and the signs of products.
--   linear         for `omega`: sums and their order, with every product as an unknown
--   expand         for `simp`: opens the brackets of products, and sorts their factors
-- A polynomial identity is proved by `simp expand (omega (arith, linear))`.
use Rattle.std.proofs.Common.{◌≡◌, ℕ, zero, suc, ◌+◌, ◌*◌, ℤ, pos, negsuc, ◌+ℤ◌, ◌*ℤ◌, neg_ℤ, ◌≤ℤ◌, ◌<ℤ◌, sym, refl, ap, ◌∙◌, arith}
use lib.IntN.{+ℤ_invr, *ℤ_comm, *ℤ-zero}
use borrow.Author.Differences.{up, down, ints, same_in, same_out, below_in, lt_out, at_most_in, le_out, sum_is_lem, neg_is, product_is}

pub ruleset linear = (same_in, same_out, below_in, lt_out, at_most_in, le_out, sum_is_lem, neg_is)

-- ---- products against sums

-- a number times a sum, and a sum times a number
pub times_sum : (a b c : ℤ) → a *ℤ (b +ℤ c) ≡ a *ℤ b +ℤ a *ℤ c
times_sum a b c = omega (arith, ints, ap (λ (n : ℕ). up a * n) (sum_is_lem b c), ap (λ (n : ℕ). down a * n) (sum_is_lem b c))

pub sum_times : (a b c : ℤ) → (a +ℤ b) *ℤ c ≡ a *ℤ c +ℤ b *ℤ c
sum_times a b c = rw (*ℤ_comm (a +ℤ b) c, times_sum c a b, *ℤ_comm c a, *ℤ_comm c b)

-- a sign in front of a factor goes in front of the product
pub times_neg : (a b : ℤ) → a *ℤ neg_ℤ b ≡ neg_ℤ (a *ℤ b)
times_neg a b = let e = sym (times_sum a b (neg_ℤ b)) ∙ ap (λ x. a *ℤ x) (+ℤ_invr b) ∙ *ℤ-zero a in omega (arith, linear)

pub neg_times : (a b : ℤ) → neg_ℤ a *ℤ b ≡ neg_ℤ (a *ℤ b)
neg_times a b = rw (*ℤ_comm (neg_ℤ a) b, times_neg b a, *ℤ_comm b a)

-- ---- the order of the factors

-- the two parts of a product
up_times : (a b : ℤ) → up (a *ℤ b) ≡ up a * up b + down a * down b
up_times a b = (product_is a b).0

down_times : (a b : ℤ) → down (a *ℤ b) ≡ up a * down b + down a * up b
down_times a b = (product_is a b).1

-- three factors may be bracketed either way
pub times_times : (a b c : ℤ) → (a *ℤ b) *ℤ c ≡ a *ℤ (b *ℤ c)
times_times a b c = same_in _ _ (simp (up_times, down_times) (omega arith))

-- the first two of three factors may change places
pub times_swap : (a b c : ℤ) → a *ℤ (b *ℤ c) ≡ b *ℤ (a *ℤ c)
times_swap a b c = rw (← times_times a b c, *ℤ_comm a b, times_times b a c)

pub ruleset expand = (times_sum, sum_times, times_neg, neg_times, times_times, times_swap, *ℤ_comm)

-- ---- the signs of products

-- factors that are not below 0 have a product that is not below 0
pub product_not_negative : (a b : ℤ) → pos 0 ≤ℤ a → pos 0 ≤ℤ b → pos 0 ≤ℤ (a *ℤ b)
product_not_negative (pos m) (pos n) h k = omega (arith, ints)
product_not_negative (pos m) (negsuc n) h k = omega (arith, ints)
product_not_negative (negsuc m) b h k = omega (arith, ints)

-- factors above 0 have a product above 0
pub product_positive : (a b : ℤ) → pos 0 <ℤ a → pos 0 <ℤ b → pos 0 <ℤ (a *ℤ b)
product_positive (pos zero) b h k = omega (arith, ints)
product_positive (pos (suc m)) (pos n) h k = omega (arith, ints)
product_positive (pos (suc m)) (negsuc n) h k = omega (arith, ints)
product_positive (negsuc m) b h k = omega (arith, ints)

-- a factor above 0 can be left out
pub factor_not_negative : (a b : ℤ) → pos 0 <ℤ a → pos 0 ≤ℤ (a *ℤ b) → pos 0 ≤ℤ b
factor_not_negative a (pos n) h k = omega (arith, ints)
factor_not_negative (pos zero) (negsuc n) h k = omega (arith, ints)
factor_not_negative (pos (suc m)) (negsuc n) h k = omega (arith, ints)
factor_not_negative (negsuc m) (negsuc n) h k = omega (arith, ints)

-- a square is not below 0
pub square_not_negative : (a : ℤ) → pos 0 ≤ℤ (a *ℤ a)
square_not_negative (pos n) = omega (arith, ints)
square_not_negative (negsuc n) = omega (arith, ints)

-- two squares come to more than 0, unless both are those of 0
pub squares_positive : (a b : ℤ) → (a ≡ pos 0 → b ≡ pos 0 → ⊥) → pos 0 <ℤ (a *ℤ a +ℤ b *ℤ b)
squares_positive (pos zero) (pos zero) h = absurd (h refl refl)
squares_positive (pos zero) (pos (suc n)) h = omega (arith, ints)
squares_positive (pos zero) (negsuc n) h = omega (arith, ints)
squares_positive (pos (suc m)) b h = omega (arith, ints, square_not_negative b)
squares_positive (negsuc m) b h = omega (arith, ints, square_not_negative b)
