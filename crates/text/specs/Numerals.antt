-- What the next number of a text is, in the format's own words.
--   minus m           the sign: a minus sign where m says so, else nothing
--   May s m           a minus sign stands only where one may
--   decimal_from v ds the value of the digits ds, after digits of the value v
--   decimal ds        the value of the digits ds
--   Numeral ds        ds are one to six decimal digits
--   Ends bs           bs are empty, or begin with white space
--   Stops bs          bs begin with a byte that is neither a digit nor white space
--   Unfit s m bs      bs begin with a byte with which no number begins, or goes on after its sign
--   Plain bs v rest   bs are white space ws, the digits ds of a number without a sign whose value is v, which ends there, and the rest
--   Signed bs z rest  the same of a number that may have a minus sign, so that its value z is the digits' value or its opposite
--   Reads s len at bs o
--                     the bytes bs, at the place at in a text of length len, are spelt so that the next number has the outcome o.
--                     They are white space, a numeral, and then white space or nothing: the number, which starts at its sign or first digit.
--                     Nothing but white space and perhaps a sign: the text ends early.
--                     After white space and perhaps a sign, a byte with which a number cannot go on; or such a byte right behind the digits: stray.
--                     More than six digits: the number is too long, from where it starts.
--   Settled s t at r p
--                     the text t, read from the place at, is spelt so that the answer is r and the lexer then stands at p; and spelt so for no other outcome
use Rattle.std.specs.Prelude.{◌≡◌, ℕ, ◌+◌, ◌-◌, ◌*◌, ◌<◌, ◌≤◌, Bool, true, false, cond, List, [], ◌∷◌, ◌++◌, length, drop, ℤ, pos, neg_ℤ, Ok, Err, Result, ◌≢◌}
use Rattle.std.specs.List.{AllByRecursion}
use Rattle.text.specs.declared.faults.Fault.{Fault}
use Rattle.text.specs.declared.faults.Ground.TheVariants.{Stray, Long, Early}
use Rattle.text.specs.declared.lexing.Number.{Number}
use Rattle.text.specs.Bytes.{White, Decimal}
use Rattle.text.specs.Faults.{fault}
use Rattle.text.specs.Lexing.{Out}

abbrev pub minus : Bool → List ℕ
minus true = 45 ∷ []
minus false = []

abbrev pub May : Bool → Bool → Type 0
May s m = m ≡ true → s ≡ true

abbrev pub decimal_from : ℕ → List ℕ → ℕ
decimal_from v [] = v
decimal_from v (d ∷ ds) = decimal_from (v * 10 + (d - 48)) ds

abbrev pub decimal : List ℕ → ℕ
decimal ds = decimal_from 0 ds

abbrev pub Numeral : List ℕ → Type 0
Numeral ds = AllByRecursion Decimal ds × (0 < length ds) × (length ds ≤ 6)

abbrev pub Ends : List ℕ → Type 0
Ends [] = Unit {0}
Ends (b ∷ bs) = White b

abbrev pub Stops : List ℕ → Type 0
Stops [] = ⊥
Stops (b ∷ bs) = (Decimal b → ⊥) × (White b → ⊥)

abbrev pub Unfit : Bool → Bool → List ℕ → Type 0
Unfit s m [] = ⊥
Unfit s true (b ∷ bs) = Decimal b → ⊥
Unfit s false (b ∷ bs) = (Decimal b → ⊥) × (White b → ⊥) × (s ≡ true → b ≢ 45)

pub record Plain (bs : List ℕ) (v : ℕ) (rest : List ℕ) : Type 0 where
  pub ws : List ℕ
  pub ds : List ℕ
  pub split : bs ≡ ws ++ (ds ++ rest)
  pub white : AllByRecursion White ws
  pub digits : Numeral ds
  pub value : decimal ds ≡ v
  pub ends : Ends rest

pub record Signed (bs : List ℕ) (z : ℤ) (rest : List ℕ) : Type 0 where
  pub ws : List ℕ
  pub negative : Bool
  pub ds : List ℕ
  pub split : bs ≡ ws ++ (minus negative ++ (ds ++ rest))
  pub white : AllByRecursion White ws
  pub digits : Numeral ds
  pub value : cond negative (neg_ℤ (pos (decimal ds))) (pos (decimal ds)) ≡ z
  pub ends : Ends rest

pub data Reads (s : Bool) (len at : ℕ) (bs : List ℕ) (o : Out Number) : Type 0 where
  numeral : (ws : List ℕ) (m : Bool) (ds rest : List ℕ) → bs ≡ ws ++ (minus m ++ (ds ++ rest)) → AllByRecursion White ws → May s m → Numeral ds → Ends rest
      → o ≡ record { result = Ok (record { magnitude = decimal ds; negative = m; start = at + length ws }); at = at + length ws + length (minus m) + length ds }
      → Reads s len at bs o
  nothing : (ws : List ℕ) (m : Bool) → bs ≡ ws ++ minus m → AllByRecursion White ws → May s m
      → o ≡ record { result = Err (fault Early len); at = at + length ws + length (minus m) }
      → Reads s len at bs o
  stray : (ws : List ℕ) (m : Bool) (rest : List ℕ) → bs ≡ ws ++ (minus m ++ rest) → AllByRecursion White ws → May s m → Unfit s m rest
      → o ≡ record { result = Err (fault Stray (at + length ws + length (minus m))); at = at + length ws + length (minus m) }
      → Reads s len at bs o
  glued : (ws : List ℕ) (m : Bool) (ds rest : List ℕ) → bs ≡ ws ++ (minus m ++ (ds ++ rest)) → AllByRecursion White ws → May s m → Numeral ds → Stops rest
      → o ≡ record { result = Err (fault Stray (at + length ws + length (minus m) + length ds)); at = at + length ws + length (minus m) + length ds }
      → Reads s len at bs o
  long : (ws : List ℕ) (m : Bool) (ds : List ℕ) (d : ℕ) (rest : List ℕ) → bs ≡ ws ++ (minus m ++ (ds ++ (d ∷ rest))) → AllByRecursion White ws → May s m → AllByRecursion Decimal ds → length ds ≡ 6 → Decimal d
      → o ≡ record { result = Err (fault Long (at + length ws)); at = at + length ws + length (minus m) + length ds }
      → Reads s len at bs o

pub record Settled (s : Bool) (t : List ℕ) (at : ℕ) (r : Result Number Fault) (p : ℕ) : Type 0 where
  pub spelt : Reads s (length t) at (drop at t) (record { result = r; at = p })
  pub only : (o : Out Number) → Reads s (length t) at (drop at t) o → o ≡ record { result = r; at = p }
