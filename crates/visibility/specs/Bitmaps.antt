-- A table as a raw PBM bitmap: n by n pixels for n rooms, and pixel b of row a is 1 where row a shows room b.
--   every n s          whether each number below n is in the set s
--   below n s          the elements of s below n
--   width n            how many bytes a row of n pixels has
--   binary m s         the number with m binary digits, highest first, of which digit i is 1 where i is in s
--   octet n s k        byte k of a row that shows s, which has the pixels 8k to 8k + 7; pixels from n on are 0
--   packed n s         all bytes of the row
--   pixels n m v       the first m rows of the sights v, one behind the other
--   heading n          P4, a new line, n, a blank, n, a new line
--   bitmap n v         the heading, and the n rows of the sights v
--   no_bitmap w s len  the grounds on which a bitmap into a space of len bytes is refused
--   Pbm n v bs         the bytes bs are the bitmap of the n rows of the sights v, in the format's words: the heading with the
--                      decimal numeral ds of n, and then n rows of (n + 7) / 8 bytes; room b of row a is bit 7 − b mod 8 of
--                      byte b / 8 of that row, and the spare bits are 0
use Rattle.std.specs.Prelude.{◌≡◌, ℕ, zero, suc, ◌+◌, ◌-◌, ◌*◌, ◌/◌, ◌%◌, ◌<◌, ◌≤◌, Bool, true, false, cond, ◌&&◌, List, [], ◌∷◌, ◌++◌, map, length, Some, None, decimal, Option, nat_lt, slice_index}
use Rattle.std.specs.List.{range_with_len, AllByRecursion}
use Rattle.visibility.specs.declared.refusal.Refusal.{Refusal}
use Rattle.visibility.specs.declared.refusal.Refusal.TheVariants.{NotFilled, SpaceTooShort}
use Rattle.visibility.specs.Bits.{bit}
use Rattle.visibility.specs.Decimals.{Numeral}
use Rattle.visibility.specs.Sets.{Numbers}
use Rattle.visibility.specs.States.{State}
use Rattle.visibility.specs.Worlds.{World}

unfoldable pub every : ℕ → Numbers → Bool
every zero s = true
every (suc n) s = every n s && s n

abbrev pub below : ℕ → Numbers → Numbers
below n s x = nat_lt x n && s x

abbrev pub width : ℕ → ℕ
width n = (n + 7) / 8

unfoldable pub binary : ℕ → Numbers → ℕ
binary zero s = 0
binary (suc m) s = 2 * binary m s + cond (s m) 1 0

unfoldable pub octet : ℕ → Numbers → ℕ → ℕ
octet n s k = binary 8 (λ i. below n s (8 * k + i))

unfoldable pub packed : ℕ → Numbers → List ℕ
packed n s = map (octet n s) (range_with_len 0 (width n))

unfoldable pub pixels : ℕ → ℕ → (ℕ → Numbers) → List ℕ
pixels n zero v = []
pixels n (suc m) v = pixels n m v ++ packed n (v m)

unfoldable pub heading : ℕ → List ℕ
heading n = 80 ∷ 52 ∷ 10 ∷ (decimal n ++ 32 ∷ (decimal n ++ 10 ∷ []))

abbrev pub bitmap : ℕ → (ℕ → Numbers) → List ℕ
bitmap n v = heading n ++ pixels n n v

abbrev pub no_bitmap : World → State → ℕ → Option Refusal
no_bitmap w s len =
    cond (every w.rooms s.filled) (cond (nat_lt len (length (bitmap w.rooms s.shows))) (Some SpaceTooShort) None) (Some NotFilled)

pub record Pbm (n : ℕ) (v : ℕ → Numbers) (bs : List ℕ) : Type 0 where
  pub ds : List ℕ
  pub rows : List ℕ
  pub numeral : Numeral ds n
  pub split : bs ≡ (80 ∷ 52 ∷ 10 ∷ (ds ++ 32 ∷ (ds ++ 10 ∷ []))) ++ rows
  pub size : length rows ≡ n * width n
  pub rooms : (a b : ℕ) → a < n → b < n → bit (slice_index rows (a * width n + b / 8)) (7 - b % 8) ≡ v a b
  pub spare : (a b : ℕ) → a < n → n ≤ b → b < 8 * width n → bit (slice_index rows (a * width n + b / 8)) (7 - b % 8) ≡ false
  pub bytes : AllByRecursion (λ x. x < 256) bs
