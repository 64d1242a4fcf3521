-- The heading of a plan, `OFF`, behind which white space must stand.
--   headed t    the place behind the heading of the text t
use Rattle.std.specs.Prelude.{ℕ, cond, ◌&&◌, List, length, drop, Err, Result, ◌==◌, nat_le, slice_index}
use Rattle.text.specs.declared.faults.Fault.{Fault}
use Rattle.text.specs.declared.faults.Ground.TheVariants.{Heading}
use Rattle.text.specs.Faults.{fault}
use Rattle.text.specs.Headings.{spaced}

abbrev pub headed : List ℕ → Result ℕ Fault
headed t =
    cond (nat_le 3 (length t) && (slice_index t 0 == 79 && (slice_index t 1 == 70 && slice_index t 2 == 70))) (spaced 3 (drop 3 t))
    (Err (fault Heading 0))
