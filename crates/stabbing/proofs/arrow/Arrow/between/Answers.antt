use Rattle.std.proofs.Common.{ℤ, ap₂, arith}
use Rattle.std.proofs.lemmas.Int.{ints}
use Rattle.stabbing.proofs.arrow.Arrow.between.Goals as goal

pub returns : goal.returns
returns c = ap₂ (λ (x y : ℤ). (x, y)) (omega (arith, ints)) (omega (arith, ints))
