-- The next byte that is no white space.
--   Mark            such a byte with its place, or nothing, and the place where the lexer then stands
--   marks at bs     the first mark of the bytes bs, which begin at the place at
--   marked t at     the next mark of the text t from the place at
--   expected t at   the same, where the text's end is a fault
--   left_over r     a mark r behind the end of a plan is a fault
--   over t at       only white space may be left of the text t from the place at
--   Found t at r p  r is the next mark of t from the place at, and p the place behind it: nothing, where only white space is left,
--                   and p is the end; else a byte that is no white space, behind white space alone, with its place
use Rattle.std.specs.Prelude.{◌≡◌, ℕ, ◌+◌, cond, List, [], ◌∷◌, ◌++◌, length, drop, Some, None, Ok, Err, Option, Result}
use Rattle.std.specs.List.{AllByRecursion}
use Rattle.std.specs.Option.{ok_or}
use Rattle.text.specs.declared.faults.Fault.{Fault}
use Rattle.text.specs.declared.faults.Ground.TheVariants.{Early, Over}
use Rattle.text.specs.Faults.{fault}
use Rattle.text.specs.Lexing.{Out}
use Rattle.text.specs.Bytes.{White, white}

pub record Mark : Type 0 where
  pub found : Option (ℕ × ℕ)
  pub at : ℕ

abbrev pub marks : ℕ → List ℕ → Mark
marks at [] = record { found = None; at = at }
marks at (b ∷ bs) = cond (white b) (marks (at + 1) bs) (record { found = Some (b, at); at = at + 1 })

abbrev pub marked : List ℕ → ℕ → Mark
marked t at = marks at (drop at t)

abbrev pub expected : List ℕ → ℕ → Out (ℕ × ℕ)
expected t at = record { result = ok_or (marked t at).found (fault Early (length t)); at = (marked t at).at }

abbrev pub left_over : Option (ℕ × ℕ) → Result (Unit {0}) Fault
left_over None = Ok tt
left_over (Some m) = Err (fault Over m.1)

abbrev pub over : List ℕ → ℕ → Result (Unit {0}) Fault
over t at = left_over (marked t at).found

abbrev pub Found : List ℕ → ℕ → Option (ℕ × ℕ) → ℕ → Type 0
Found t at None p = AllByRecursion White (drop at t) × (p ≡ at + length (drop at t))
Found t at (Some k) p = (ws : List ℕ) × (drop at t ≡ ws ++ (k.0 ∷ drop p t)) × AllByRecursion White ws × (White k.0 → ⊥) × (k.1 ≡ at + length ws) × (p ≡ k.1 + 1)
