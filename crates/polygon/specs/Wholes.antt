-- Numbers without a sign, within limits.
--   limited g least below n   the value of the number n, from least on and below `below`; else a fault of the ground g at its start
--   whole t g least below at  the next such number of the text t from the place at
use Rattle.std.specs.Prelude.{ℕ, false, cond, ◌||◌, List, Ok, Err, Result, nat_le, nat_lt}
use Rattle.text.specs.declared.faults.Fault.{Fault}
use Rattle.text.specs.declared.faults.Ground.{Ground}
use Rattle.text.specs.declared.lexing.Number.{Number}
use Rattle.text.specs.Faults.{fault}
use Rattle.text.specs.Lexing.{Out, numbered}
use Rattle.text.specs.Outs.{next}

abbrev pub limited : Ground → ℕ → ℕ → Number → Result ℕ Fault
limited g least below n = cond (nat_lt n.magnitude least || nat_le below n.magnitude) (Err (fault g n.start)) (Ok n.magnitude)

abbrev pub limited_at : Ground → ℕ → ℕ → Number → ℕ → Out ℕ
limited_at g least below n p = record { result = limited g least below n; at = p }

abbrev pub whole : List ℕ → Ground → ℕ → ℕ → ℕ → Out ℕ
whole t g least below at = next (numbered false t at) (limited_at g least below)
