-- The heading of a plan, `P1`, behind which white space must stand.
--   headed t    the place behind the heading of the text t
use Rattle.std.specs.Prelude.{ℕ, cond, ◌&&◌, List, length, drop, Err, Result, ◌==◌, nat_le, slice_index}
use Rattle.text.specs.declared.faults.Fault.{Fault}
use Rattle.text.specs.declared.faults.Ground.TheVariants.{Heading}
use Rattle.text.specs.Faults.{fault}
use Rattle.text.specs.Headings.{spaced}

abbrev pub headed : List ℕ → Result ℕ Fault
headed t = cond (nat_le 2 (length t) && (slice_index t 0 == 80 && slice_index t 1 == 49)) (spaced 2 (drop 2 t)) (Err (fault Heading 0))
