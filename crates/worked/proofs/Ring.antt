-- The cases of the ring.
use Rattle.std.proofs.Common.{◌≡◌, ℕ, ◌/◌, ◌<◌, true, List, [], ◌∷◌, pos, negsuc, refl, arith}
use Rattle.std.specs.List.{AllByRecursion}
use Rattle.maps.specs.declared.passage.Passage.{Passage}
use Rattle.maps.specs.Inside.{within_all}
use Rattle.grid.specs.Doorways.{eastward, northward}
use Rattle.stabbing.specs.Exact.{exact_line, first_line}
use Rattle.stabbing.specs.Found.{exact_front}
use Rattle.visibility.specs.declared.call.Call.TheVariants.{Shut}
use Rattle.visibility.specs.Histories.{shut_after}
use Rattle.visibility.specs.Questions.{rest}
use Rattle.visibility.specs.Sets.{Numbers, none, number}
use Rattle.visibility.specs.Trips.{Trip}
use Rattle.visibility.specs.Worlds.{World, Inside, Lawful}
use Rattle.worked.specs.Cases.{under_exact, RowIs, LineIs, RingCases}
use Rattle.worked.proofs.Known.{Fair, doorways}
use Rattle.worked.proofs.Rows.{row_is, line_is, not_shown}

abbrev pub ring_doorways : List Passage
ring_doorways = eastward 2 0 0 ∷ northward 2 0 0 ∷ northward 2 1 0 ∷ eastward 2 0 1 ∷ []

one_byte : (x : ℕ) → x < 4 → x / 8 < 1
one_byte x l = omega arith

module _ (gs : AllByRecursion Fair ring_doorways) where
  abbrev w : World
  w = under_exact 4 (doorways ring_doorways gs)

  abbrev shut : Numbers
  shut = shut_after w (Shut 1 ∷ [])

  inside : Inside w
  inside = within_all 4 (doorways ring_doorways gs) refl

  lawful : Lawful w
  lawful p q = exact_front p (q ∷ [])

  empty : w.lets [] ≡ true
  unfolding exact_line
  empty = refl

  -- through doorway 0, and then through doorway 2
  abbrev there : Trip
  there =
      record {
        doors = 0 ∷ 2 ∷ [];
        room = 3;
        path = record { lx = pos 4; ly = pos 3; rx = pos 4; ry = pos 1 } ∷ record { lx = pos 5; ly = pos 4; rx = pos 7; ry = pos 4 } ∷ [];
      }

  witness : LineIs w none 0 3 (0 ∷ 2 ∷ []) (negsuc 0, pos 1, pos 1)
  unfolding exact_line first_line rest number
  witness = line_is w none 0 inside lawful empty 1 (omega arith) one_byte 3 there (negsuc 0, pos 1, pos 1) (λ e. omega arith) refl refl

  row_0 : RowIs w shut 0 (0xD0 ∷ []) 3
  unfolding exact_line first_line rest number
  row_0 = row_is w shut 0 inside lawful empty 1 (omega arith) one_byte (0xD0 ∷ []) 3 (omega arith) refl refl

  row_1 : RowIs w shut 1 (0xF0 ∷ []) 4
  unfolding exact_line first_line rest number
  row_1 = row_is w shut 1 inside lawful empty 1 (omega arith) one_byte (0xF0 ∷ []) 4 (omega arith) refl refl

  row_2 : RowIs w shut 2 (0x70 ∷ []) 3
  unfolding exact_line first_line rest number
  row_2 = row_is w shut 2 inside lawful empty 1 (omega arith) one_byte (0x70 ∷ []) 3 (omega arith) refl refl

  row_3 : RowIs w shut 3 (0xF0 ∷ []) 4
  unfolding exact_line first_line rest number
  row_3 = row_is w shut 3 inside lawful empty 1 (omega arith) one_byte (0xF0 ∷ []) 4 (omega arith) refl refl

  pub ring_cases : RingCases w
  ring_cases =
      record {
        witness = witness;
        refused = not_shown w shut 0 2 (0xD0 ∷ []) 3 row_0 refl;
        row_0 = row_0;
        row_1 = row_1;
        row_2 = row_2;
        row_3 = row_3;
      }
