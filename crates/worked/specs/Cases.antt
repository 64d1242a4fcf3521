-- Cases on the two plans, worked out by hand. Numbers of rows are in hexadecimal.
--   under_exact n ds, under_wedge n ds   the world of n rooms and the doorways ds, under Exact and under Wedge
--   RowIs w shut a bs c      the true row of a shows exactly the rooms whose bits are 1 in the bytes bs, and these are c
--   LineIs w shut a b ks l   the first open walk from a to b that is let through is ks, and Exact's line for it is l
--   NoLine w shut a b        no open walk from a to b is let through
--   RingCases w              the cases of the ring, where w is its world under Exact: a witness; and where doorway 1 was shut, a witness
--                             refused, and the four rows
--   CorridorCases w v        the cases of the corridor, where w is its world under Exact and v that under Wedge: row 0 in both, a
--                             witness, a witness refused, and what shutting doorway 4 does where rows 0 and 5 are filled: one row
--                             is lost, and row 5 stays current
--   WorkedCases              both texts are read, a map of as many rooms is made of each, and the cases hold of every map so made
use Rattle.std.specs.Prelude.{◌≡◌, ℕ, List, [], ◌∷◌, pos, negsuc, is_some, Some}
use Rattle.plane.specs.declared.quad.Quad.{Quad}
use Rattle.plane.specs.Separation.{Coefficients}
use Rattle.stabbing.specs.Exact.{exact_line}
use Rattle.stabbing.specs.Wedge.{wedge_lets}
use Rattle.maps.specs.declared.doorway.Doorway.{Doorway}
use Rattle.visibility.specs.declared.call.Call.TheVariants.{Fill, Shut}
use Rattle.visibility.specs.Bits.{shown}
use Rattle.visibility.specs.Histories.{shut_after, Current, Lost, Counts}
use Rattle.visibility.specs.Sets.{Numbers, none, number, Exactly}
use Rattle.visibility.specs.Walks.{TrueRow}
use Rattle.visibility.specs.Witnesses.{FirstWalk}
use Rattle.visibility.specs.Worlds.{World, world}
use Rattle.worked.specs.Plans.{ring, corridor, Accepted, MapOf}

abbrev pub under_exact : ℕ → List Doorway → World
under_exact n ds = world n ds (λ p. is_some (exact_line p))

abbrev pub under_wedge : ℕ → List Doorway → World
under_wedge n ds = world n ds wedge_lets

abbrev pub RowIs : World → Numbers → ℕ → List ℕ → ℕ → Type 0
RowIs w shut a bs c = Exactly (shown bs) (TrueRow w shut a) × (number w.rooms (shown bs) ≡ c)

abbrev pub LineIs : World → Numbers → ℕ → ℕ → List ℕ → Coefficients → Type 0
LineIs w shut a b ks l = (p : List Quad) × FirstWalk w shut a b ks p × (exact_line p ≡ Some l)

abbrev pub NoLine : World → Numbers → ℕ → ℕ → Type 0
NoLine w shut a b = TrueRow w shut a b → ⊥

pub record RingCases (w : World) : Type 0 where
  pub witness : LineIs w none 0 3 (0 ∷ 2 ∷ []) (negsuc 0, pos 1, pos 1)
  pub refused : NoLine w (shut_after w (Shut 1 ∷ [])) 0 2
  pub row_0 : RowIs w (shut_after w (Shut 1 ∷ [])) 0 (0xD0 ∷ []) 3
  pub row_1 : RowIs w (shut_after w (Shut 1 ∷ [])) 1 (0xF0 ∷ []) 4
  pub row_2 : RowIs w (shut_after w (Shut 1 ∷ [])) 2 (0x70 ∷ []) 3
  pub row_3 : RowIs w (shut_after w (Shut 1 ∷ [])) 3 (0xF0 ∷ []) 4

pub record CorridorCases (w v : World) : Type 0 where
  pub exact_row : RowIs w none 0 (0xC3 ∷ 0x80 ∷ []) 5
  pub wedge_row : RowIs v none 0 (0xC3 ∷ 0xC0 ∷ []) 6
  pub witness : LineIs w none 0 8 (0 ∷ 1 ∷ 2 ∷ 3 ∷ []) (negsuc 1, pos 4, negsuc 3)
  pub refused : NoLine w none 0 9
  pub lost : Counts w.rooms (Lost w (Fill 5 ∷ Fill 0 ∷ []) (Shut 4)) 1
  pub stays : Current w (Shut 4 ∷ Fill 5 ∷ Fill 0 ∷ []) 5

pub record WorkedCases : Type 0 where
  pub ring_read : Accepted ring 2 2
  pub ring_map : (ds : List Doorway) × MapOf ring 4 ds
  pub ring_cases : (n : ℕ) (ds : List Doorway) → MapOf ring n ds → RingCases (under_exact n ds)
  pub corridor_read : Accepted corridor 5 2
  pub corridor_map : (ds : List Doorway) × MapOf corridor 10 ds
  pub corridor_cases : (n : ℕ) (ds : List Doorway) → MapOf corridor n ds → CorridorCases (under_exact n ds) (under_wedge n ds)
