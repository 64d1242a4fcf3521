-- The layout of a plan's text.
--   totals t at   the counts of corners, 3 to 1,024, and of faces, 1 to 256; a count of edges follows, and may be any number
--   Plan          the counts of corners, faces and corner numbers
--   Layout        an answer and three spaces: the corners' points, the faces' corner counts, their corner numbers
--   laid t ps ss ns
--                 the plan that the text t gives, written into the spaces
use Rattle.std.specs.Prelude.{ℕ, false, cond, List, length, Ok, Err, Result, nat_lt}
use Rattle.text.specs.declared.faults.Fault.{Fault}
use Rattle.text.specs.declared.faults.Ground.TheVariants.{Limits}
use Rattle.text.specs.declared.lexing.Number.{Number}
use Rattle.text.specs.Faults.{fault}
use Rattle.text.specs.Lexing.{Out, numbered}
use Rattle.text.specs.Marks.{over}
use Rattle.plane.specs.Separation.{Point}
use Rattle.polygon.specs.declared.layout.Plan.{Plan}
use Rattle.text.specs.Outs.{next}
use Rattle.polygon.specs.Outs.{Filling, filled}
use Rattle.polygon.specs.Wholes.{whole}
use Rattle.polygon.specs.Corners.{corner}
use Rattle.polygon.specs.Faces.{Facing, faced}
use Rattle.polygon.specs.Headings.{headed}

abbrev pub both : ℕ → ℕ → Number → ℕ → Out (ℕ × ℕ)
both c f n p = record { result = Ok (c, f); at = p }

abbrev pub with_faces : List ℕ → ℕ → ℕ → ℕ → Out (ℕ × ℕ)
with_faces t c f p = next (numbered false t p) (both c f)

abbrev pub with_corners : List ℕ → ℕ → ℕ → Out (ℕ × ℕ)
with_corners t c p = next (whole t Limits 1 257 p) (with_faces t c)

abbrev pub totals : List ℕ → ℕ → Out (ℕ × ℕ)
totals t at = next (whole t Limits 3 1025 at) (with_corners t)

pub record Layout : Type 0 where
  pub result : Result Plan Fault
  pub corners : List Point
  pub sizes : List ℕ
  pub numbers : List ℕ

abbrev pub refuses : Fault → List Point → List ℕ → List ℕ → Layout
refuses e ps ss ns = record { result = Err e; corners = ps; sizes = ss; numbers = ns }

abbrev pub ended : Plan → Result (Unit {0}) Fault → List Point → List ℕ → List ℕ → Layout
ended p (Ok u) ps ss ns = record { result = Ok p; corners = ps; sizes = ss; numbers = ns }
ended p (Err e) ps ss ns = refuses e ps ss ns

abbrev pub at_faces : List ℕ → ℕ × ℕ → List Point → Result ℕ Fault → ℕ → List ℕ → List ℕ → Layout
at_faces t n ps (Ok used) at ss ns = ended (record { corners = n.0; faces = n.1; edges = used }) (over t at) ps ss ns
at_faces t n ps (Err e) at ss ns = refuses e ps ss ns

abbrev pub at_corners : List ℕ → ℕ × ℕ → Result (Unit {0}) Fault → ℕ → List Point → List ℕ → List ℕ → Layout
at_corners t n (Ok u) at ps ss ns = let o : Facing = faced t n.0 n.1 0 0 at ss ns in at_faces t n ps o.result o.at o.sizes o.numbers
at_corners t n (Err e) at ps ss ns = refuses e ps ss ns

abbrev pub at_totals : List ℕ → Result (ℕ × ℕ) Fault → ℕ → List Point → List ℕ → List ℕ → Layout
at_totals t (Ok n) at ps ss ns = let o : Filling Point = filled (corner t) n.0 0 at ps in at_corners t n o.result o.at o.space ss ns
at_totals t (Err e) at ps ss ns = refuses e ps ss ns

abbrev pub at_heading : List ℕ → Result ℕ Fault → List Point → List ℕ → List ℕ → Layout
at_heading t (Ok p) ps ss ns = at_totals t (totals t p).result (totals t p).at ps ss ns
at_heading t (Err e) ps ss ns = refuses e ps ss ns

abbrev pub laid : List ℕ → List Point → List ℕ → List ℕ → Layout
laid t ps ss ns = cond (nat_lt 60000 (length t)) (refuses (fault Limits 60000) ps ss ns) (at_heading t (headed t) ps ss ns)
