-- Rows as bytes: room b is bit 7 − b mod 8 of byte b / 8.
--   bit v i       whether bit i of the byte v is 1
--   shown xs      the rooms whose bits are 1 in the bytes xs
--   marked xs b   the bytes xs with the bit of room b set
use Rattle.std.specs.Prelude.{ℕ, ◌-◌, ◌*◌, ◌/◌, ◌%◌, ◌^◌, Bool, List, ◌==◌, bit_or, slice_index, slice_set}
use Rattle.visibility.specs.Sets.{Numbers}

abbrev pub bit : ℕ → ℕ → Bool
bit v i = v / 2 ^ i % 2 == 1

abbrev pub shown : List ℕ → Numbers
shown xs b = bit (slice_index xs (b / 8)) (7 - b % 8)

abbrev pub marked : List ℕ → ℕ → List ℕ
marked xs b = slice_set xs (b / 8) (bit_or (slice_index xs (b / 8)) ((1 * 2 ^ (7 - b % 8)) % 256))
