-- Decimal numerals as bytes.
--   Digit b            b is one of the digits 0 to 9, as the byte 48 to 57
--   value_after v ds   the value of the digits ds behind digits of the value v
--   Numeral ds n       ds are digits, the first one not 0, and their value is n
use Rattle.std.specs.Prelude.{◌≡◌, ℕ, ◌+◌, ◌-◌, ◌*◌, ◌<◌, ◌≤◌, List, [], ◌∷◌, slice_index}
use Rattle.std.specs.List.{AllByRecursion}

abbrev pub Digit : ℕ → Type 0
Digit b = (48 ≤ b) × (b ≤ 57)

abbrev pub value_after : ℕ → List ℕ → ℕ
value_after v [] = v
value_after v (d ∷ ds) = value_after (v * 10 + (d - 48)) ds

pub record Numeral (ds : List ℕ) (n : ℕ) : Type 0 where
  pub digits : AllByRecursion Digit ds
  pub first : 48 < slice_index ds 0
  pub value : value_after 0 ds ≡ n
