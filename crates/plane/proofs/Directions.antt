-- The directions of lines: the line (a, b, c) runs along the vector (b, -a).
--   cross m n      the cross product of two directions: above 0 if n runs to the left of m, below 0 if to its right
--   dot m n        their dot product: above 0 if n runs rather along m than against it
use Rattle.std.proofs.Common.{◌≡◌, ℤ, pos, ◌+ℤ◌, ◌-ℤ◌, ◌*ℤ◌, neg_ℤ, ◌<ℤ◌, arith}
use lib.IntN.{*ℤ-zero}
use Rattle.plane.specs.Separation.{Point, Coefficients, Proper, value}
use Rattle.plane.specs.Lines.{through}
use Rattle.plane.proofs.Integers.{expand, linear, squares_positive}

unfoldable pub cross : Coefficients → Coefficients → ℤ
cross m n = m.0 *ℤ n.1 -ℤ m.1 *ℤ n.0

unfoldable pub dot : Coefficients → Coefficients → ℤ
dot m n = m.0 *ℤ n.0 +ℤ m.1 *ℤ n.1

-- ---- identities

-- seen from the other line, a turn has the other sign
pub cross_back : (m n : Coefficients) → cross n m ≡ neg_ℤ (cross m n)
unfolding cross
cross_back m n = simp expand (omega (arith, linear))

-- the turns between four directions
pub cross_four : (d a b c : Coefficients) → cross d b *ℤ cross a c ≡ cross d a *ℤ cross b c +ℤ cross d c *ℤ cross a b
unfolding cross
cross_four d a b c = simp expand (omega (arith, linear))

-- a turn, from what the two directions have along d and across it
pub cross_measured : (d m n : Coefficients) → dot d d *ℤ cross m n ≡ dot d m *ℤ cross d n -ℤ cross d m *ℤ dot d n
unfolding cross dot
cross_measured d m n = simp expand (omega (arith, linear))

-- a length, from what the direction has along d and across it
pub dot_measured : (d m : Coefficients) → dot d d *ℤ dot m m ≡ dot d m *ℤ dot d m +ℤ cross d m *ℤ cross d m
unfolding cross dot
dot_measured d m = simp expand (omega (arith, linear))

-- ---- lines with a direction, and without

-- the direction of a proper line has a length
pub dot_positive : (m : Coefficients) → Proper m → pos 0 <ℤ dot m m
unfolding dot
dot_positive m h = squares_positive m.0 m.1 h

-- what has no direction runs neither across a line nor along it
pub cross_none : (m n : Coefficients) → n.0 ≡ pos 0 → n.1 ≡ pos 0 → cross m n ≡ pos 0
unfolding cross
cross_none m n e f = simp (e, f, *ℤ-zero)

pub dot_none : (m n : Coefficients) → n.0 ≡ pos 0 → n.1 ≡ pos 0 → dot m n ≡ pos 0
unfolding dot
dot_none m n e f = simp (e, f, *ℤ-zero)

-- ---- lines through two points

-- from A to B the value of l grows by the turn from l to the line through A and B
pub value_grows : (l : Coefficients) (A B : Point) → value l B ≡ value l A +ℤ cross l (through A B)
unfolding cross
value_grows l A B = simp expand (omega (arith, linear))

-- the line through two points has the value 0 at both
pub at_start : (A B : Point) → value (through A B) A ≡ pos 0
at_start A B = simp expand (omega (arith, linear))

pub at_end : (A B : Point) → value (through A B) B ≡ pos 0
at_end A B = simp expand (omega (arith, linear))

-- two points are different exactly when the line through them is proper
pub through_proper : (A B : Point) → (A ≡ B → ⊥) → Proper (through A B)
through_proper A B n e f =
    let x : A.0 ≡ B.0 = omega (arith, linear) in
    let y : A.1 ≡ B.1 = omega (arith, linear) in
    n (λ i. (x i, y i))

pub through_apart : (A B : Point) → Proper (through A B) → A ≡ B → ⊥
through_apart A B h e =
    let x : A.0 ≡ B.0 = λ i. (e i).0 in
    let y : A.1 ≡ B.1 = λ i. (e i).1 in
    h (omega (arith, linear)) (omega (arith, linear))
