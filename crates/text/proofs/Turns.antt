-- A digit within a number, and what it keeps.
use Rattle.std.proofs.Common.{◌≡◌, ℕ, ◌+◌, ◌*◌, ◌^◌, ◌<◌, ◌≤◌, Bool, pow-suc, add-one, arith}
use Rattle.std.proofs.lemmas.Bool.{lt-ltb, le-ltb, cond-true, cond-false}
use Rattle.text.specs.declared.bytes.Class.TheVariants.{Digit}
use Rattle.text.specs.declared.lexing.Number.{Number}
use Rattle.text.specs.declared.lexing.State.TheVariants.{Digits}
use Rattle.text.specs.declared.faults.Ground.TheVariants.{Long}
use Rattle.text.specs.Faults.{fault}
use Rattle.text.specs.Turns.{on, bad, turn, extended}

pub grown : (v k d : ℕ) → v < 10 ^ k → d < 10 → v * 10 + d < 10 ^ (k + 1)
grown v k d h e = rw (add-one, pow-suc) (omega arith)

-- the turn at a digit, with fewer than six before it and with six
pub turn_digit : (s : Bool) (at : ℕ) (n : Number) (k d : ℕ) → k < 6 → turn s at (Digits n k) (Digit d) ≡ on (Digits (extended n d) (k + 1))
turn_digit s at n k d h = cond-true _ _ _ (lt-ltb k 6 h)

pub turn_long : (s : Bool) (at : ℕ) (n : Number) (k d : ℕ) → 6 ≤ k → turn s at (Digits n k) (Digit d) ≡ bad (fault Long n.start)
turn_long s at n k d h = cond-false _ _ _ (le-ltb k 6 h)
