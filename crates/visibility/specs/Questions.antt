-- The questions that a search asks, in their order.
--   Rest              what comes after a walk: by the rooms entered, the room reached, its doorways and its path
--   tried ..          after the walk (ks, p) the step s through doorway k: the walk so made is asked about and, where it
--                     is let through, what `rest` gives comes after it
--   tries .. m        the same for the doorways below m, by rising number
--   rest w shut n ..  the questions after the walk (ks, p) that entered the rooms e and reached a, for walks of at most n
--                     doorways more
--   due w shut ..     the same for walks of any length
--   walks_from w shut a  those of a search from the room a
--   asked_all f s ts  how a stabber s stands after the questions ts, where f tells that of one question
--   visited ..        how a stabber and a visitor stand after the visitor was told of a walk, unless it had ended
--   toured ..         the same after the walks ts
--   shown_all w r ts  the rooms r and those to which the walks of ts that are let through lead
use Rattle.std.specs.Prelude.{ℕ, zero, suc, Bool, cond, List, [], ◌∷◌, ◌++◌, length, Some, None, fold, Option}
use Rattle.std.specs.List.{range_with_len, flat_map}
use Rattle.plane.specs.declared.quad.Quad.{Quad}
use Rattle.visibility.specs.Sets.{Numbers, only, with, free}
use Rattle.visibility.specs.Worlds.{World}
use Rattle.visibility.specs.Steps.{onward}
use Rattle.visibility.specs.Trips.{Trip}

abbrev pub Rest : Type 0
Rest = Numbers → ℕ → List ℕ → List Quad → List Trip

abbrev pub tried : World → Rest → Numbers → List ℕ → List Quad → ℕ → Option (ℕ × Quad) → List Trip
tried w rest e ks p k None = []
tried w rest e ks p k (Some s) =
    record { doors = ks ++ k ∷ []; room = s.0; path = p ++ s.1 ∷ [] }
    ∷ cond (w.lets (p ++ s.1 ∷ [])) (rest (with e s.0) s.0 (ks ++ k ∷ []) (p ++ s.1 ∷ [])) []

abbrev pub tries : World → Numbers → Rest → Numbers → ℕ → List ℕ → List Quad → ℕ → List Trip
tries w shut rest e a ks p m = flat_map (λ k. tried w rest e ks p k (onward w.doorways shut e a k)) (range_with_len 0 m)

unfoldable pub rest : World → Numbers → ℕ → Rest
rest w shut zero e a ks p = []
rest w shut (suc n) e a ks p = tries w shut (rest w shut n) e a ks p (length w.doorways)

abbrev pub due : World → Numbers → Rest
due w shut e a ks p = tries w shut (rest w shut (free w.rooms e)) e a ks p (length w.doorways)

abbrev pub walks_from : World → Numbers → ℕ → List Trip
walks_from w shut a = due w shut (only a) a [] []

abbrev pub asked_all : {S : Type 0} → (S → List Quad → S) → S → List Trip → S
asked_all f s ts = fold (λ s t. f s t.path) s ts

abbrev pub shown_all : World → Numbers → List Trip → Numbers
shown_all w r ts = fold (λ r t. cond (w.lets t.path) (with r t.room) r) r ts

abbrev pub visited : {S V : Type 0} → (S → List Quad → S) → (V → S → Trip → V) → (V → Bool) → S × V → Trip → S × V
visited heard told ended x t = cond (ended x.1) x (heard x.0 t.path, told x.1 x.0 t)

abbrev pub toured : {S V : Type 0} → (S → List Quad → S) → (V → S → Trip → V) → (V → Bool) → S → V → List Trip → S × V
toured heard told ended s v ts = fold (visited heard told ended) (s, v) ts
