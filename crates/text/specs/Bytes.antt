-- The kinds of bytes.
--   White b    b is white space: 9 to 13, or 32
--   Decimal b  b is a decimal digit
--   white b    the same as White, as a test
--   class b    the kind of b, a digit with its value
use Rattle.std.specs.Prelude.{◌≡◌, ℕ, ◌-◌, ◌≤◌, Bool, cond, ◌&&◌, ◌||◌, ◌⊎◌, ◌==◌, nat_le}
use Rattle.text.specs.declared.bytes.Class.{Class}
use Rattle.text.specs.declared.bytes.Class.TheVariants.{Blank, Minus, Digit, Other}

abbrev pub White : ℕ → Type 0
White b = ((9 ≤ b) × (b ≤ 13)) ⊎ (b ≡ 32)

abbrev pub Decimal : ℕ → Type 0
Decimal b = (48 ≤ b) × (b ≤ 57)

abbrev pub white : ℕ → Bool
white b = (nat_le 9 b && nat_le b 13) || b == 32

abbrev pub class : ℕ → Class
class b = cond (white b) Blank (cond (nat_le 48 b && nat_le b 57) (Digit (b - 48)) (cond (b == 45) Minus Other))
