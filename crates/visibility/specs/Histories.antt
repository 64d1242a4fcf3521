-- Histories: the calls made on a table since it was made, the latest first, and what follows from them alone.
--   turned w s k v      the same as `turns`, where the doorways s are shut
--   shut_after w h      the doorways that are shut after the history h: those whose last granted shut or open was a shut
--   turns w h k v       whether shutting (v true) or opening (v false) doorway k is granted after h: the doorway exists,
--                       and is not so already
--   SeenAfter w h a b  b is in the true row of a after h
--   Apart w h a k       neither side of doorway k is in the true row of a after h
--   Current w h a       row a is current after h: its filling was granted, and since then no granted shut or open was of a
--                       doorway with a side in the true row of a just before that call
--   Counts n P c        c is how many of the numbers below n have P
--   Lost w h c a        row a was current before the call c and is not any more
--   Stands w h s        the state s is as the history h makes it: the shut doorways, the current rows and no others filled,
--                       and each filled row shows exactly the true row
use Rattle.std.specs.Prelude.{◌≡◌, ℕ, ◌<◌, Bool, true, false, cond, not, ◌&&◌, ◌⊎◌, List, [], ◌∷◌, length, Some, nat_lt}
use Rattle.std.specs.Bool.{beq}
use Rattle.std.specs.List.{slice_get}
use Rattle.maps.specs.declared.doorway.Doorway.{Doorway}
use Rattle.visibility.specs.declared.call.Call.{Call}
use Rattle.visibility.specs.declared.call.Call.TheVariants.{Fill, Shows, Shut, Open, Witness, Bitmap}
use Rattle.visibility.specs.Sets.{Numbers, none, number, Exactly}
use Rattle.visibility.specs.States.{State, place}
use Rattle.visibility.specs.Walks.{TrueRow}
use Rattle.visibility.specs.Worlds.{World}

abbrev pub turned : World → Numbers → ℕ → Bool → Bool
turned w s k v = nat_lt k (length w.doorways) && not (beq (s k) v)

abbrev pub shut_after : World → List Call → Numbers
shut_after w [] = none
shut_after w (Fill a ∷ h) = shut_after w h
shut_after w (Shows a b ∷ h) = shut_after w h
shut_after w (Witness a b ∷ h) = shut_after w h
shut_after w (Bitmap ∷ h) = shut_after w h
shut_after w (Shut k ∷ h) = cond (turned w (shut_after w h) k true) (place (shut_after w h) k true) (shut_after w h)
shut_after w (Open k ∷ h) = cond (turned w (shut_after w h) k false) (place (shut_after w h) k false) (shut_after w h)

abbrev pub turns : World → List Call → ℕ → Bool → Bool
turns w h k v = turned w (shut_after w h) k v

abbrev pub SeenAfter : World → List Call → ℕ → ℕ → Type 0
SeenAfter w h a b = TrueRow w (shut_after w h) a b

abbrev pub Apart : World → List Call → ℕ → ℕ → Type 0
Apart w h a k =
    (d : Doorway) → slice_get w.doorways k ≡ Some d → (SeenAfter w h a d.near → ⊥) × (SeenAfter w h a d.far → ⊥)

abbrev pub Current : World → List Call → ℕ → Type 0
Current w [] a = ⊥
Current w (Fill b ∷ h) a = ((a ≡ b) × (a < w.rooms)) ⊎ Current w h a
Current w (Shows b c ∷ h) a = Current w h a
Current w (Witness b c ∷ h) a = Current w h a
Current w (Bitmap ∷ h) a = Current w h a
Current w (Shut k ∷ h) a = Current w h a × (turns w h k true ≡ true → Apart w h a k)
Current w (Open k ∷ h) a = Current w h a × (turns w h k false ≡ true → Apart w h a k)

abbrev pub Counts : ℕ → (ℕ → Type 0) → ℕ → Type 0
Counts n P c = (s : Numbers) × ((x : ℕ) → x < n → (s x ≡ true → P x) × (P x → s x ≡ true)) × (c ≡ number n s)

abbrev pub Lost : World → List Call → Call → ℕ → Type 0
Lost w h c a = Current w h a × (Current w (c ∷ h) a → ⊥)

pub record Stands (w : World) (h : List Call) (s : State) : Type 0 where
  pub shut : s.shut ≡ shut_after w h
  pub current : (a : ℕ) → a < w.rooms → s.filled a ≡ true → Current w h a
  pub filled : (a : ℕ) → a < w.rooms → Current w h a → s.filled a ≡ true
  pub true_row : (a : ℕ) → a < w.rooms → s.filled a ≡ true → Exactly (s.shows a) (SeenAfter w h a)
