-- Bounds of a plan's rooms and pixels.
use Rattle.std.proofs.Common.{◌≡◌, ℕ, zero, suc, ◌+◌, ◌*◌, ◌≤◌, mul_assoc, suc-mul, mul_comm, add-mul, mul-suc, mul-add, arith}
use Rattle.grid.specs.declared.sizes.Size.{Size}
use Rattle.grid.specs.Sizes.{Roomy, across, area}

-- the sum of two numbers above 0 is at most one more than their product
sum_below : (a b : ℕ) → 1 ≤ a → 1 ≤ b → a + b ≤ a * b + 1
sum_below zero b h k = absurd (omega arith)
sum_below (suc a) zero h k = absurd (omega arith)
sum_below (suc a) (suc b) h k = omega (arith, suc-mul a (suc b), mul-suc a b)

pixels_are : (w h : ℕ) → across w * across h ≡ 4 * (w * h) + 2 * (w + h) + 1
pixels_are w h =
    omega (arith, add-mul (2 * w) 1 (2 * h + 1), mul-add (2 * w) (2 * h) 1, mul_assoc 2 w (2 * h), mul_comm w (2 * h), mul_assoc 2 h w, mul_comm h w)

pub area_fits : (s : Size) → Roomy s → area s ≤ 1539
area_fits s h = omega (arith, pixels_are s.w s.h, sum_below s.w s.h h.0 h.1, h.2)
