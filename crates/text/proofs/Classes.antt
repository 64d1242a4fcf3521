-- Each kind of byte has its class, and each class its kind of byte.
use Rattle.std.proofs.Common.{◌≡◌, ℕ, ◌-◌, true, false, ◌⊎◌, arith}
use Rattle.std.proofs.lemmas.Bool.Decides.{nat_tests}
use Rattle.text.specs.declared.bytes.Class.TheVariants.{Blank, Minus, Digit, Other}
use Rattle.text.specs.Bytes.{White, Decimal, white, class}

pub class_white : (b : ℕ) → White b → class b ≡ Blank
class_white b h = grind (arith, nat_tests)

pub class_decimal : (b : ℕ) → Decimal b → class b ≡ Digit (b - 48)
class_decimal b h = grind (arith, nat_tests)

pub white_true : (b : ℕ) → White b → white b ≡ true
white_true b h = grind (arith, nat_tests)

pub white_false : (b : ℕ) → (White b → ⊥) → white b ≡ false
white_false b h = grind (arith, nat_tests)

pub cases_white : (b : ℕ) → White b ⊎ (White b → ⊥)
cases_white b = grind (arith, nat_tests)

pub cases_decimal : (b : ℕ) → Decimal b ⊎ (Decimal b → ⊥)
cases_decimal b = grind (arith, nat_tests)

-- a byte that is neither a digit nor white space
pub class_odd : (b : ℕ) → (Decimal b → ⊥) → (White b → ⊥) → (class b ≡ Minus) ⊎ (class b ≡ Other)
class_odd b d w = grind (arith, nat_tests)

pub decimal_from_class : (b d : ℕ) → class b ≡ Digit d → Decimal b
decimal_from_class b d e = grind (arith, nat_tests)

pub minus_from_class : (b : ℕ) → class b ≡ Minus → b ≡ 45
minus_from_class b e = grind (arith, nat_tests)

pub white_from_true : (b : ℕ) → white b ≡ true → White b
white_from_true b e = grind (arith, nat_tests)
