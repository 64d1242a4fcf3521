-- The rule of a pixel allows just the right colours.
use Rattle.std.proofs.Common.{◌≡◌, ℕ, true, arith}
use Rattle.std.proofs.lemmas.Bool.Decides.{nat_tests}
use Rattle.grid.specs.declared.sizes.Size.{Size}
use Rattle.grid.specs.Pixels.{rule_of, allowed}
use Rattle.grid.specs.Pictures.{Colour}

pub allowed_right : (s : Size) (x y p : ℕ) → allowed (rule_of s x y) p ≡ true → Colour s x y p
allowed_right s x y p e = grind (arith, nat_tests)

pub right_allowed : (s : Size) (x y p : ℕ) → Colour s x y p → allowed (rule_of s x y) p ≡ true
right_allowed s x y p h = grind (arith, nat_tests)
