-- What a lexer reads.
--   text_of x, at_of x, state_of x   the text that x reads, the place where it stands, its state
--   turned s x b                     the turn of x at the byte b
--   Out A                            an answer, and the place where the lexer then stands
--   Read o x y r                     the lexer x has read the outcome o: r is its answer, and x has become y, which stands at its place in the same text
--   finished len st                  what the end of a text of length len makes of the state st
--   scanned s len at st bs           the bytes bs, which begin at the place at, read from the state st, up to a number's end or a fault
--   rest_of s x                      what x reads on from where it stands
--   numbered s t at                  the next number of the text t from the place at; s says whether a sign may stand
use Rattle.std.specs.Prelude.{◌≡◌, ℕ, ◌+◌, Bool, List, [], ◌∷◌, length, drop, Ok, Err, Result}
use Rattle.text.specs.declared.faults.Fault.{Fault}
use Rattle.text.specs.declared.faults.Ground.TheVariants.{Early}
use Rattle.text.specs.declared.lexing.Lexer.{Lexer}
use Rattle.text.specs.declared.lexing.Number.{Number}
use Rattle.text.specs.declared.lexing.State.{State}
use Rattle.text.specs.declared.lexing.State.TheVariants.{Between, Sign, Digits}
use Rattle.text.specs.Bytes.{class}
use Rattle.text.specs.Faults.{fault}
use Rattle.text.specs.Turns.{Turn, on, ended, bad, turn}

abbrev pub text_of : Lexer → List ℕ
text_of x = x.text.now

abbrev pub at_of : Lexer → ℕ
at_of x = x.at

abbrev pub state_of : Lexer → State
state_of x = x.state

abbrev pub turned : Bool → Lexer → ℕ → Turn
turned s x b = turn s (at_of x) (state_of x) (class b)

pub record Out (A : Type 0) : Type 0 where
  pub result : Result A Fault
  pub at : ℕ

pub record Read {A : Type 0} (o : Out A) (x y : Lexer) (r : Result A Fault) : Type 0 where
  pub answer : r ≡ o.result
  pub stands : at_of y ≡ o.at
  pub same : text_of y ≡ text_of x

abbrev pub finished : ℕ → State → Result Number Fault
finished len Between = Err (fault Early len)
finished len (Sign start) = Err (fault Early len)
finished len (Digits n k) = Ok n

abbrev pub scanned : Bool → ℕ → ℕ → State → List ℕ → Out Number
scanned s len at st [] = record { result = finished len st; at = at }
scanned s len at st (b ∷ bs) =
    elim (turn s at st (class b)) [ on new ↦ scanned s len (at + 1) new bs | ended n ↦ record { result = Ok n; at = at } | bad f ↦ record { result = Err f; at = at } ]

abbrev pub rest_of : Bool → Lexer → Out Number
rest_of s x = scanned s (length (text_of x)) (at_of x) (state_of x) (drop (at_of x) (text_of x))

abbrev pub numbered : Bool → List ℕ → ℕ → Out Number
numbered s t at = scanned s (length t) at Between (drop at t)
