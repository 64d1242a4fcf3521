-- Sets of numbers, of rooms or of doorways.
--   Numbers         a set: whether each number is in it
--   none            the empty set
--   only a          just a
--   with s a        s and a
--   number n s      how many of the numbers below n are in s
--   free n s        how many of them are not
--   without s t     the elements of s that are not in t
--   both s t        the elements of s that are in t too
--   Exactly s P     s has exactly the elements of which P holds
--   marks xs        the places of a list of marks that are true
use Rattle.std.specs.Prelude.{◌≡◌, ℕ, zero, suc, ◌+◌, Bool, true, false, cond, not, ◌&&◌, ◌||◌, List, ◌==◌, slice_index_or}

abbrev pub Numbers : Type 0
Numbers = ℕ → Bool

abbrev pub none : Numbers
none x = false

abbrev pub only : ℕ → Numbers
only a x = x == a

abbrev pub with : Numbers → ℕ → Numbers
with s a x = x == a || s x

unfoldable pub number : ℕ → Numbers → ℕ
number zero s = 0
number (suc n) s = cond (s n) 1 0 + number n s

abbrev pub free : ℕ → Numbers → ℕ
free n s = number n (λ x. not (s x))

abbrev pub marks : List Bool → Numbers
marks xs x = slice_index_or xs x false

abbrev pub without : Numbers → Numbers → Numbers
without s t x = s x && not (t x)

abbrev pub both : Numbers → Numbers → Numbers
both s t x = s x && t x

abbrev pub Exactly : Numbers → (ℕ → Type 0) → Type 0
Exactly s P = (x : ℕ) → (s x ≡ true → P x) × (P x → s x ≡ true)
