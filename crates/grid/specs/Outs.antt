-- Readings joined one behind the other.
--   behind r f   what f makes of the value of r; a fault of r stays
use Rattle.std.specs.Prelude.{Ok, Err, Result}
use Rattle.text.specs.declared.faults.Fault.{Fault}

abbrev pub behind : {A B : Type 0} → Result A Fault → (A → Result B Fault) → Result B Fault
behind (Ok a) f = f a
behind (Err e) f = Err e
