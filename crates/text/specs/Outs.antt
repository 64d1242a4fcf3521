-- Readings joined one behind the other.
--   at_ok r p f  what f reads from the value of r and the place p; a fault stays
--   next o f     what f reads behind the outcome o, from o's value and place; a fault of o stays
use Rattle.std.specs.Prelude.{ℕ, Ok, Err, Result}
use Rattle.text.specs.declared.faults.Fault.{Fault}
use Rattle.text.specs.Lexing.{Out}

abbrev pub at_ok : {A B : Type 0} → Result A Fault → ℕ → (A → ℕ → Out B) → Out B
at_ok (Ok a) p f = f a p
at_ok (Err e) p f = record { result = Err e; at = p }

abbrev pub next : {A B : Type 0} → Out A → (A → ℕ → Out B) → Out B
next o f = at_ok o.result o.at f
