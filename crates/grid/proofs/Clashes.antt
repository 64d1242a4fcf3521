-- Two different constructors are not equal: `cc` then finds that 0 is 1.
use Rattle.std.proofs.Common.{◌≡◌, ℕ, arith}

pub clash : {A : Type 0} → ◌≡◌ {A = ℕ} 0 1 → A
clash z = absurd (omega arith)
