-- The numbers of refusals.
--   number_of r   the number of the refusal r; where several grounds apply, the smaller number is given
use Rattle.std.specs.Prelude.{ℕ}
use Rattle.visibility.specs.declared.refusal.Refusal.{Refusal}
use Rattle.visibility.specs.declared.refusal.Refusal.TheVariants.{NoSuchRoom, NotFilled, NoSuchDoorway, Already, SameRoomTwice, SpaceTooShort, NoLine}

abbrev pub number_of : Refusal → ℕ
number_of NoSuchRoom = 1
number_of NotFilled = 2
number_of NoSuchDoorway = 3
number_of Already = 4
number_of SameRoomTwice = 5
number_of SpaceTooShort = 6
number_of NoLine = 7
