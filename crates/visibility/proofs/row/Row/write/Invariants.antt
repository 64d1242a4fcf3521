use Rattle.std.proofs.Common.{◌≡◌, ℕ, ◌<◌, get_or}
use Rattle.visibility.specs.Bits.{shown}
use Rattle.visibility.specs.Bitmaps.{octet}
use Rattle.visibility.proofs.row.Row.write.Given as goal

abbrev pub invariant-loop-k : goal.invariant-loop-k
invariant-loop-k l = (j : ℕ) → j < l.k → get_or l.part j 0 ≡ octet l.n (shown l.self.bytes) j
