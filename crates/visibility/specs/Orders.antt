-- The order of questions.
--   In x xs            x is one of xs
--   Before ks js       ks stands before js in dictionary order: by the first doorway that differs, and a walk before its
--                      continuations
--   Rising ts          each walk of ts stands before all that come after it
--   without_last p     the path p without its last crossing
--   Due w shut a t     the question t is due from the room a: an open walk that is not empty, and the part of it before the
--                      last doorway is let through (as the empty path always is)
--   InOrder w shut a ts   the questions ts are exactly those that are due, each once, in dictionary order
use Rattle.std.specs.Prelude.{◌≡◌, ℕ, ◌<◌, true, ◌⊎◌, List, [], ◌∷◌}
use Rattle.plane.specs.declared.quad.Quad.{Quad}
use Rattle.visibility.specs.Trips.{Trip}
use Rattle.visibility.specs.Sets.{Numbers}
use Rattle.visibility.specs.Walks.{Walk, Open}
use Rattle.visibility.specs.Worlds.{World}

abbrev pub In : {X : Type 0} → X → List X → Type 0
In x [] = ⊥
In x (y ∷ ys) = (y ≡ x) ⊎ In x ys

abbrev pub Before : List ℕ → List ℕ → Type 0
Before [] [] = ⊥
Before [] (j ∷ js) = Unit {0}
Before (k ∷ ks) [] = ⊥
Before (k ∷ ks) (j ∷ js) = (k < j) ⊎ ((k ≡ j) × Before ks js)

abbrev pub Rising : List Trip → Type 0
Rising [] = Unit {0}
Rising (t ∷ ts) = ((u : Trip) → In u ts → Before t.doors u.doors) × Rising ts

abbrev pub without_last : List Quad → List Quad
without_last [] = []
without_last (q ∷ []) = []
without_last (q ∷ r ∷ p) = q ∷ without_last (r ∷ p)

pub record Due (w : World) (shut : Numbers) (a : ℕ) (t : Trip) : Type 0 where
  pub walk : Walk w a t.doors t.room t.path
  pub all_open : Open shut t.doors
  pub not_empty : t.doors ≡ [] → ⊥
  pub after_yes : w.lets (without_last t.path) ≡ true

pub record InOrder (w : World) (shut : Numbers) (a : ℕ) (ts : List Trip) : Type 0 where
  pub rising : Rising ts
  pub due : (t : Trip) → In t ts → Due w shut a t
  pub all : (t : Trip) → Due w shut a t → In t ts
