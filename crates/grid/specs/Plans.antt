-- What the reader makes of a text and a space.
--   Plan            an answer and the space
--   ended s r sp    the plan of size s, if r, what is left over, is no fault
--   finished t s r at sp
--                   the same behind all pixels, of which r tells, at the place at
--   drawn t s at sp a plan of size s, whose pixels begin at the place at: all of them, and then nothing more
--   at_size t r at sp, at_heading t r sp
--                   the rest of the plan behind its size r, and behind its heading r; a fault stays
--   planned t sp    the plan that the text t gives, written into the space sp
--   zeros n         n zeros
--   kept p n        the plan p, but after a fault the space holds n zeros
--   answered t sp   the reader's answer and the caller's space: a space too short is refused and left as it was; else the space is
--                   cleared, and it stays clear where the text is refused
use Rattle.std.specs.Prelude.{ℕ, cond, List, length, replicate, Ok, Err, Result, nat_lt}
use Rattle.text.specs.declared.faults.Fault.{Fault}
use Rattle.text.specs.declared.faults.Ground.TheVariants.{Space, Limits}
use Rattle.text.specs.Faults.{fault}
use Rattle.text.specs.Marks.{over}
use Rattle.grid.specs.declared.sizes.Size.{Size}
use Rattle.grid.specs.Sizes.{sized, area}
use Rattle.grid.specs.Pixels.{Painting, painted}
use Rattle.grid.specs.Headings.{headed}

pub record Plan : Type 0 where
  pub result : Result Size Fault
  pub space : List ℕ

abbrev pub ended : Size → Result (Unit {0}) Fault → List ℕ → Plan
ended s (Ok u) sp = record { result = Ok s; space = sp }
ended s (Err e) sp = record { result = Err e; space = sp }

abbrev pub finished : List ℕ → Size → Result (Unit {0}) Fault → ℕ → List ℕ → Plan
finished t s (Ok u) at sp = ended s (over t at) sp
finished t s (Err e) at sp = record { result = Err e; space = sp }

abbrev pub drawn : List ℕ → Size → ℕ → List ℕ → Plan
drawn t s at sp = let o : Painting = painted t s (area s) 0 at sp in finished t s o.result o.at o.space

abbrev pub at_size : List ℕ → Result Size Fault → ℕ → List ℕ → Plan
at_size t (Ok s) at sp = drawn t s at sp
at_size t (Err e) at sp = record { result = Err e; space = sp }

abbrev pub at_heading : List ℕ → Result ℕ Fault → List ℕ → Plan
at_heading t (Ok p) sp = at_size t (sized t p).result (sized t p).at sp
at_heading t (Err e) sp = record { result = Err e; space = sp }

abbrev pub planned : List ℕ → List ℕ → Plan
planned t sp = cond (nat_lt 60000 (length t)) (record { result = Err (fault Limits 60000); space = sp }) (at_heading t (headed t) sp)

abbrev pub zeros : ℕ → List ℕ
zeros n = replicate n 0

abbrev pub kept : Result Size Fault → List ℕ → ℕ → Plan
kept (Ok s) sp n = record { result = Ok s; space = sp }
kept (Err e) sp n = record { result = Err e; space = zeros n }

abbrev pub answered : List ℕ → List ℕ → Plan
answered t sp =
    cond (nat_lt (length sp) 1539) (record { result = Err (fault Space 0); space = sp })
    (kept (planned t (zeros (length sp))).result (planned t (zeros (length sp))).space (length sp))
