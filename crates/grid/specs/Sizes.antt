-- The size of a grid plan.
--   side_of n       half of the width or height n, fraction dropped, with its place; n must be odd and at least 3
--   halved n at     the same, with the place behind it
--   sided t at      the next width or height of the text t from the place at
--   fitted w h      the size of w by h rooms, of which there may be 256
--   fitting w h at  the same, with the place behind it
--   with_height t w at
--                   the height from the place at, behind the width w
--   sized t at      the width and then the height
--   Roomy s         s has a room at least, and 256 at most
--   across w        the pixels of w rooms in a row and of the walls around them
--   area s          all pixels of a plan of size s
use Rattle.std.specs.Prelude.{ℕ, ◌+◌, ◌*◌, ◌/◌, ◌%◌, ◌≤◌, false, cond, ◌||◌, List, Ok, Err, Result, ◌==◌, nat_lt}
use Rattle.text.specs.declared.faults.Fault.{Fault}
use Rattle.text.specs.declared.faults.Ground.TheVariants.{Limits}
use Rattle.text.specs.declared.lexing.Number.{Number}
use Rattle.text.specs.Faults.{fault}
use Rattle.text.specs.Lexing.{Out, numbered}
use Rattle.text.specs.Outs.{next}
use Rattle.grid.specs.declared.sizes.Size.{Size}

abbrev pub side_of : Number → Result (ℕ × ℕ) Fault
side_of n = cond (nat_lt n.magnitude 3 || n.magnitude % 2 == 0) (Err (fault Limits n.start)) (Ok (n.magnitude / 2, n.start))

abbrev pub halved : Number → ℕ → Out (ℕ × ℕ)
halved n at = record { result = side_of n; at = at }

abbrev pub sided : List ℕ → ℕ → Out (ℕ × ℕ)
sided t at = next (numbered false t at) halved

abbrev pub fitted : ℕ × ℕ → ℕ × ℕ → Result Size Fault
fitted w h = cond (nat_lt 256 (w.0 * h.0)) (Err (fault Limits h.1)) (Ok (record { w = w.0; h = h.0 }))

abbrev pub fitting : ℕ × ℕ → ℕ × ℕ → ℕ → Out Size
fitting w h at = record { result = fitted w h; at = at }

abbrev pub with_height : List ℕ → ℕ × ℕ → ℕ → Out Size
with_height t w at = next (sided t at) (fitting w)

abbrev pub sized : List ℕ → ℕ → Out Size
sized t at = next (sided t at) (with_height t)

abbrev pub Roomy : Size → Type 0
Roomy s = (1 ≤ s.w) × (1 ≤ s.h) × (s.w * s.h ≤ 256)

abbrev pub across : ℕ → ℕ
across w = 2 * w + 1

abbrev pub area : Size → ℕ
area s = across s.w * across s.h
