-- The faces of a plan.
--   number t m at   the next corner number of the text t from the place at; it must be below m
--   size t at       the corner count of a face, 3 to 16
--   Facing          an answer, the place where the lexer then stands, and two spaces: the corner count of each face, and the corner numbers
--   facing_out o    what was read of the faces
--   faced t m n f used at ss ns
--                   n faces, the first of them face f, from the place at: each one's corner count goes to its place in ss, its corner numbers
--                   to ns, from the place used on; the answer is how many places of ns are then used
use Rattle.std.specs.Prelude.{ℕ, zero, suc, ◌+◌, List, Ok, Err, Result, slice_set}
use Rattle.text.specs.declared.faults.Fault.{Fault}
use Rattle.text.specs.declared.faults.Ground.TheVariants.{Corner}
use Rattle.text.specs.Lexing.{Out}
use Rattle.polygon.specs.Outs.{filled}
use Rattle.polygon.specs.Wholes.{whole}

abbrev pub number : List ℕ → ℕ → ℕ → Out ℕ
number t m at = whole t Corner 0 m at

abbrev pub size : List ℕ → ℕ → Out ℕ
size t at = whole t Corner 3 17 at

pub record Facing : Type 0 where
  pub result : Result ℕ Fault
  pub at : ℕ
  pub sizes : List ℕ
  pub numbers : List ℕ

abbrev pub facing_out : Facing → Out ℕ
facing_out o = record { result = o.result; at = o.at }

abbrev pub sized : Result ℕ Fault → ℕ → List ℕ → List ℕ → (ℕ → Facing) → Facing
sized (Ok c) at ss ns f = f c
sized (Err e) at ss ns f = record { result = Err e; at = at; sizes = ss; numbers = ns }

abbrev pub listed : Result (Unit {0}) Fault → ℕ → List ℕ → List ℕ → Facing → Facing
listed (Ok u) at ss ns f = f
listed (Err e) at ss ns f = record { result = Err e; at = at; sizes = ss; numbers = ns }

unfoldable pub faced : List ℕ → ℕ → ℕ → ℕ → ℕ → ℕ → List ℕ → List ℕ → Facing
faced t m zero f used at ss ns = record { result = Ok used; at = at; sizes = ss; numbers = ns }
faced t m (suc n) f used at ss ns =
    sized (size t at).result (size t at).at ss ns
    (λ c. listed (filled (number t m) c used (size t at).at ns).result (filled (number t m) c used (size t at).at ns).at ss (filled (number t m) c used (size t at).at ns).space
    (faced t m n (f + 1) (used + c) (filled (number t m) c used (size t at).at ns).at (slice_set ss f c) (filled (number t m) c used (size t at).at ns).space))
