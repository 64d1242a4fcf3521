-- The cases of the corridor.
use Rattle.std.proofs.Common.{◌≡◌, ℕ, ◌/◌, ◌<◌, true, ◌⊎◌, List, [], ◌∷◌, pos, negsuc, Some, sym, refl, subst, inl, inr, ⊎_elim, arith}
use Rattle.std.specs.List.{AllByRecursion}
use Rattle.std.proofs.lemmas.Bool.{eqb-true, eq-eqb}
use Rattle.maps.specs.declared.doorway.Doorway.{Doorway}
use Rattle.maps.specs.declared.passage.Passage.{Passage}
use Rattle.maps.specs.Inside.{within_all}
use Rattle.grid.specs.Doorways.{eastward, northward}
use Rattle.stabbing.specs.Exact.{exact_line, first_line}
use Rattle.stabbing.specs.Wedge.{wedge_lets}
use Rattle.stabbing.specs.Found.{exact_front}
use Rattle.stabbing.specs.Threes.{wedge_front}
use Rattle.visibility.specs.declared.call.Call.{Call}
use Rattle.visibility.specs.declared.call.Call.TheVariants.{Fill, Shut}
use Rattle.visibility.specs.Histories.{SeenAfter, Apart, Current, Lost, Counts}
use Rattle.visibility.specs.Questions.{rest}
use Rattle.visibility.specs.Sets.{none, only, number}
use Rattle.visibility.specs.Trips.{Trip}
use Rattle.visibility.specs.Worlds.{World, Inside, Lawful}
use Rattle.worked.specs.Cases.{under_exact, under_wedge, RowIs, LineIs, CorridorCases}
use Rattle.worked.proofs.Known.{Fair, doorway, doorways}
use Rattle.worked.proofs.Rows.{row_is, line_is, not_shown}

abbrev pub corridor_doorways : List Passage
corridor_doorways = eastward 5 0 0 ∷ northward 5 1 0 ∷ eastward 5 1 1 ∷ eastward 5 2 1 ∷ eastward 5 3 1 ∷ []

two_bytes : (x : ℕ) → x < 10 → x / 8 < 2
two_bytes x l = omega arith

-- through the doorways 0 to 3
abbrev there : Trip
there =
    record {
      doors = 0 ∷ 1 ∷ 2 ∷ 3 ∷ [];
      room = 8;
      path = record { lx = pos 4; ly = pos 3; rx = pos 4; ry = pos 1 }
          ∷ record { lx = pos 5; ly = pos 4; rx = pos 7; ry = pos 4 }
          ∷ record { lx = pos 8; ly = pos 7; rx = pos 8; ry = pos 5 }
          ∷ record { lx = pos 12; ly = pos 7; rx = pos 12; ry = pos 5 }
          ∷ [];
    }

-- rows 5 and 0 were filled
abbrev filled : List Call
filled = Fill 5 ∷ Fill 0 ∷ []

module _ (gs : AllByRecursion Fair corridor_doorways) where
  abbrev w : World
  w = under_exact 10 (doorways corridor_doorways gs)

  abbrev v : World
  v = under_wedge 10 (doorways corridor_doorways gs)

  inside : Inside w
  inside = within_all 10 (doorways corridor_doorways gs) refl

  lawful : Lawful w
  lawful p q = exact_front p (q ∷ [])

  empty : w.lets [] ≡ true
  unfolding exact_line
  empty = refl

  wedge_empty : v.lets [] ≡ true
  unfolding wedge_lets exact_line
  wedge_empty = refl

  witness : LineIs w none 0 8 (0 ∷ 1 ∷ 2 ∷ 3 ∷ []) (negsuc 1, pos 4, negsuc 3)
  unfolding exact_line first_line rest number
  witness = line_is w none 0 inside lawful empty 2 (omega arith) two_bytes 8 there (negsuc 1, pos 4, negsuc 3) (λ e. omega arith) refl refl

  exact_row : RowIs w none 0 (0xC3 ∷ 0x80 ∷ []) 5
  unfolding exact_line first_line rest number
  exact_row = row_is w none 0 inside lawful empty 2 (omega arith) two_bytes (0xC3 ∷ 0x80 ∷ []) 5 (omega arith) refl refl

  wedge_row : RowIs v none 0 (0xC3 ∷ 0xC0 ∷ []) 6
  unfolding wedge_lets exact_line first_line rest number
  wedge_row = row_is v none 0 inside wedge_front wedge_empty 2 (omega arith) two_bytes (0xC3 ∷ 0xC0 ∷ []) 6 (omega arith) refl refl

  -- room 5 sees itself alone
  row_5 : RowIs w none 5 (0x04 ∷ 0x00 ∷ []) 1
  unfolding exact_line first_line rest number
  row_5 = row_is w none 5 inside lawful empty 2 (omega arith) two_bytes (0x04 ∷ 0x00 ∷ []) 1 (omega arith) refl refl

  abbrev last_doorway : Doorway
  last_doorway = doorway (eastward 5 3 1) gs.1.1.1.1.0

  apart_5 : Apart w filled 5 4
  apart_5 d e =
      let same : last_doorway ≡ d = let q : Some last_doorway ≡ Some d = e in cc in
      subst (λ (x : Doorway). (SeenAfter w filled 5 x.near → ⊥) × (SeenAfter w filled 5 x.far → ⊥)) same
      (not_shown w none 5 8 (0x04 ∷ 0x00 ∷ []) 1 row_5 refl, not_shown w none 5 9 (0x04 ∷ 0x00 ∷ []) 1 row_5 refl)

  stays : Current w (Shut 4 ∷ filled) 5
  stays = (inl (refl, omega arith), λ _. apart_5)

  lost_0 : Lost w filled (Shut 4) 0
  lost_0 = (inr (inl (refl, omega arith)), λ c. (c.1 refl last_doorway refl).0 ((exact_row.0 8).0 refl))

  only_0 : (x : ℕ) → Lost w filled (Shut 4) x → x ≡ 0
  only_0 x (current, gone) =
      ⊎_elim
      (λ (five : (x ≡ 5) × (x < 10)). absurd (gone (subst (Current w (Shut 4 ∷ filled)) (sym five.0) stays)))
      (λ (older : ((x ≡ 0) × (x < 10)) ⊎ ⊥). ⊎_elim (λ zero_is. zero_is.0) (λ never. absurd never) older)
      current

  lost : Counts 10 (Lost w filled (Shut 4)) 1
  unfolding number
  lost = (
    only 0,
    (λ x _. ((λ e. subst (Lost w filled (Shut 4)) (sym (eqb-true x 0 e)) lost_0), (λ l. eq-eqb x 0 (only_0 x l)))),
    refl,
  )

  pub corridor_cases : CorridorCases w v
  corridor_cases =
      record {
        exact_row = exact_row;
        wedge_row = wedge_row;
        witness = witness;
        refused = not_shown w none 0 9 (0xC3 ∷ 0x80 ∷ []) 5 exact_row refl;
        lost = lost;
        stays = stays;
      }
