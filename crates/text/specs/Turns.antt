-- What one byte makes of a lexer's state.
--   Turn               the lexer goes on in a state, a number has ended, or the byte is a fault
--   turn s at st c     the turn of a lexer in state st at a byte of class c that stands at the place at; s says whether a sign may stand
--   told t             what a turn answers: nothing yet, a number, or the fault
--   state_after st t   the state behind it
--   at_after at t      the place behind it: one byte on, unless the number ended before the byte, or the byte is a fault
--   begun d m p        the state behind the first digit d of a number that starts at p; m says whether a minus sign stands before it
--   extended n d       the number n with one more digit d
--   Sound st           a number holds at most six digits, and is below the power of ten that they give
use Rattle.std.specs.Prelude.{ℕ, ◌+◌, ◌*◌, ◌^◌, ◌<◌, ◌≤◌, Bool, true, false, cond, Some, None, Ok, Err, Option, Result, nat_lt}
use Rattle.text.specs.declared.bytes.Class.{Class}
use Rattle.text.specs.declared.bytes.Class.TheVariants.{Blank, Minus, Digit, Other}
use Rattle.text.specs.declared.faults.Fault.{Fault}
use Rattle.text.specs.declared.faults.Ground.TheVariants.{Stray, Long}
use Rattle.text.specs.declared.lexing.Number.{Number}
use Rattle.text.specs.declared.lexing.State.{State}
use Rattle.text.specs.declared.lexing.State.TheVariants.{Between, Sign, Digits}
use Rattle.text.specs.Faults.{fault}

pub data Turn : Type 0 where
  on : State → Turn
  ended : Number → Turn
  bad : Fault → Turn

abbrev pub begun : ℕ → Bool → ℕ → State
begun d minus start = Digits (record { magnitude = d; negative = minus; start = start }) 1

abbrev pub extended : Number → ℕ → Number
extended n d = record { magnitude = n.magnitude * 10 + d; negative = n.negative; start = n.start }

abbrev pub turn : Bool → ℕ → State → Class → Turn
turn s at Between Blank = on Between
turn s at Between Minus = cond s (on (Sign at)) (bad (fault Stray at))
turn s at Between (Digit d) = on (begun d false at)
turn s at Between Other = bad (fault Stray at)
turn s at (Sign start) Blank = bad (fault Stray at)
turn s at (Sign start) Minus = bad (fault Stray at)
turn s at (Sign start) (Digit d) = on (begun d true start)
turn s at (Sign start) Other = bad (fault Stray at)
turn s at (Digits n k) Blank = ended n
turn s at (Digits n k) Minus = bad (fault Stray at)
turn s at (Digits n k) (Digit d) = cond (nat_lt k 6) (on (Digits (extended n d) (k + 1))) (bad (fault Long n.start))
turn s at (Digits n k) Other = bad (fault Stray at)

abbrev pub told : Turn → Result (Option Number) Fault
told (on st) = Ok None
told (ended n) = Ok (Some n)
told (bad f) = Err f

abbrev pub state_after : State → Turn → State
state_after st (on new) = new
state_after st (ended n) = st
state_after st (bad f) = st

abbrev pub at_after : ℕ → Turn → ℕ
at_after at (on new) = at + 1
at_after at (ended n) = at
at_after at (bad f) = at

abbrev pub Sound : State → Type 0
Sound Between = Unit {0}
Sound (Sign start) = Unit {0}
Sound (Digits n k) = (k ≤ 6) × (n.magnitude < 10 ^ k)
