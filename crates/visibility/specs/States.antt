-- What a table holds, and what each call on it may do.
--   State              the doorways that are shut, the rooms whose rows are filled, and what each row shows
--   state_of t         what the table t holds
--   world_of m s t     the world of the table t, where m and s are what the types of its map and its stabber mean
--   place s k v        the set s, but with k in it or not as v says
--   ByGround ..       where a ground of refusal applies, the call answers it and changes nothing; else it is granted, and
--                      P holds of its answer
--   no_room w a        the ground that a is no room of the world
--   no_sight w s a b   the grounds on which a sight question is refused
--   no_turn w s k v    the grounds on which shutting (v true) or opening (v false) doorway k is refused
--   Fills w s a t n    filling row a turns s into t and answers n: the row shows exactly the true row, and n counts it
--   Turns w s k v t n  shutting or opening doorway k turns s into t and answers n: each filled row that shows the near or
--                      the far room is filled no more, and n counts these
use Rattle.std.specs.Prelude.{◌≡◌, ℕ, ◌<◌, Bool, cond, length, Some, None, Err, Option, Result, MatchResult, ◌==◌, ◌≢◌, nat_lt}
use Rattle.std.specs.Bool.{beq}
use Rattle.std.specs.List.{slice_get}
use Rattle.maps.specs.declared.doorway.Doorway.{Doorway}
use Rattle.maps.specs.declared.map.Map.{Ghosts as MapMeaning}
use Rattle.stabbing.specs.declared.stabber.Stabber.{Ghosts as StabberMeaning}
use Rattle.visibility.specs.declared.refusal.Refusal.{Refusal}
use Rattle.visibility.specs.declared.refusal.Refusal.TheVariants.{NoSuchRoom, NotFilled, NoSuchDoorway, Already}
use Rattle.visibility.specs.declared.table.Table.{Table}
use Rattle.visibility.specs.Sets.{Numbers, marks, with, without, both, number, Exactly}
use Rattle.visibility.specs.Sights.{sight, touches}
use Rattle.visibility.specs.Worlds.{World, meant}
use Rattle.visibility.specs.Walks.{TrueRow}

pub record State : Type 0 where
  pub shut : Numbers
  pub filled : Numbers
  pub shows : ℕ → Numbers

abbrev pub state_of : {M S : Type 0} → Table M S → State
state_of t = record { shut = marks t.closed; filled = marks t.rows.filled; shows = sight t.rows.rows }

abbrev pub world_of : {M S : Type 0} → MapMeaning M → StabberMeaning S → Table M S → World
world_of m s t = meant m s t.map t.stabber

abbrev pub place : Numbers → ℕ → Bool → Numbers
place s k v x = cond (x == k) v (s x)

abbrev pub ByGround : {X : Type 0} → Option Refusal → Result X Refusal → State → State → (X → Type 0) → Type 0
ByGround (Some e) r s t P = (r ≡ Err e) × (t ≡ s)
ByGround None r s t P = MatchResult r P (λ _. ⊥)

abbrev pub no_room : World → ℕ → Option Refusal
no_room w a = cond (nat_lt a w.rooms) None (Some NoSuchRoom)

abbrev pub no_sight : World → State → ℕ → ℕ → Option Refusal
no_sight w s a b =
    cond (nat_lt a w.rooms) (cond (nat_lt b w.rooms) (cond (s.filled a) None (Some NotFilled)) (Some NoSuchRoom)) (Some NoSuchRoom)

abbrev pub no_turn : World → State → ℕ → Bool → Option Refusal
no_turn w s k v = cond (nat_lt k (length w.doorways)) (cond (beq (s.shut k) v) (Some Already) None) (Some NoSuchDoorway)

pub record Fills (w : World) (s : State) (a : ℕ) (t : State) (n : ℕ) : Type 0 where
  pub shut : t.shut ≡ s.shut
  pub filled : t.filled ≡ with s.filled a
  pub other : (x : ℕ) → (x ≢ a) → t.shows x ≡ s.shows x
  pub true_row : Exactly (t.shows a) (TrueRow w s.shut a)
  pub count : n ≡ number w.rooms (t.shows a)

pub record Turns (w : World) (s : State) (k : ℕ) (v : Bool) (t : State) (n : ℕ) : Type 0 where
  pub doorway : Doorway
  pub is_doorway : slice_get w.doorways k ≡ Some doorway
  pub shut : t.shut ≡ place s.shut k v
  pub shows : t.shows ≡ s.shows
  pub filled : (a : ℕ) → a < w.rooms → t.filled a ≡ without s.filled (touches s.shows doorway.near doorway.far) a
  pub count : n ≡ number w.rooms (both s.filled (touches s.shows doorway.near doorway.far))
