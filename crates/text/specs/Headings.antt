-- What stands behind a heading.
--   spaced n bs   what the bytes bs behind a heading of n bytes give: the place behind it if they begin with white space
use Rattle.std.specs.Prelude.{ℕ, cond, List, length, Ok, Err, Result, ◌==◌, slice_index}
use Rattle.text.specs.declared.faults.Fault.{Fault}
use Rattle.text.specs.declared.faults.Ground.TheVariants.{Early, Heading}
use Rattle.text.specs.Bytes.{white}
use Rattle.text.specs.Faults.{fault}

abbrev pub spaced : ℕ → List ℕ → Result ℕ Fault
spaced n bs = cond (length bs == 0) (Err (fault Early n)) (cond (white (slice_index bs 0)) (Ok n) (Err (fault Heading 0)))
