-- Witnesses: the first walk to a room that is let through, and its line.
--   leads w b t       whether the walk t leads to b and is let through
--   ahead f ts        the walks of ts before the first that has f
--   until f ts        the same, and that first one
--   FirstOf P w shut a b ks p
--                     ks, with the path p, is the first open walk from a to b in dictionary order whose path has P
--   FirstWalk ..     the same, where P is that the path is let through
--   no_witness w a b n   the grounds of refusal that are known before the search, where the caller's space has n places
--   Told w shut a b f o   what a search found: nothing, and then b is not in the true row of a; or a walk with its line, and then it
--                     is the first, and f of its path is the line
--   Witnessed w shut a b f o r xs ys
--                     what a witness call answers, and what it makes of the caller's space xs: a ground o is the answer, and the space
--                     stays; else where no walk is let through `NoLine` is, and the space stays; else the first walk is written into
--                     the space, and the answer has its length and the line that f gives for its path, which separates the path
use Rattle.std.specs.Prelude.{◌≡◌, ℕ, ◌+◌, Bool, true, cond, ◌&&◌, ◌⊎◌, List, [], ◌∷◌, ◌++◌, length, drop, Some, None, Ok, Err, Option, Result, ◌==◌, nat_lt}
use Rattle.plane.specs.declared.quad.Quad.{Quad}
use Rattle.plane.specs.Limits.{InLimits}
use Rattle.plane.specs.Separation.{Coefficients, Proper, Separates}
use Rattle.visibility.specs.declared.refusal.Refusal.{Refusal}
use Rattle.visibility.specs.declared.refusal.Refusal.TheVariants.{NoSuchRoom, SameRoomTwice, SpaceTooShort, NoLine}
use Rattle.visibility.specs.declared.quest.Found.{Found}
use Rattle.visibility.specs.declared.sightline.Sightline.{Sightline}
use Rattle.visibility.specs.Orders.{Before}
use Rattle.visibility.specs.Sets.{Numbers}
use Rattle.visibility.specs.Trips.{Trip}
use Rattle.visibility.specs.Walks.{Walk, Open, TrueRow}
use Rattle.visibility.specs.Worlds.{World}

abbrev pub leads : World → ℕ → Trip → Bool
leads w b t = w.lets t.path && t.room == b

abbrev pub ahead : {X : Type 0} → (X → Bool) → List X → List X
ahead f [] = []
ahead f (x ∷ xs) = cond (f x) [] (x ∷ ahead f xs)

abbrev pub until : {X : Type 0} → (X → Bool) → List X → List X
until f [] = []
until f (x ∷ xs) = x ∷ cond (f x) [] (until f xs)

pub record FirstOf (P : List Quad → Type 0) (w : World) (shut : Numbers) (a b : ℕ) (ks : List ℕ) (p : List Quad) : Type 0 where
  pub walk : Walk w a ks b p
  pub all_open : Open shut ks
  pub has : P p
  pub first : (js : List ℕ) (q : List Quad) → Walk w a js b q → Open shut js → P q → (js ≡ ks) ⊎ Before ks js

abbrev pub FirstWalk : World → Numbers → ℕ → ℕ → List ℕ → List Quad → Type 0
FirstWalk w shut a b ks p = FirstOf (λ q. w.lets q ≡ true) w shut a b ks p

abbrev pub no_witness : World → ℕ → ℕ → ℕ → Option Refusal
no_witness w a b n =
    cond (nat_lt a w.rooms)
    (cond (nat_lt b w.rooms)
    (cond (a == b) (Some SameRoomTwice) (cond (nat_lt (n + 1) w.rooms) (Some SpaceTooShort) None)) (Some NoSuchRoom))
    (Some NoSuchRoom)

abbrev pub Told : World → Numbers → ℕ → ℕ → (List Quad → Option Coefficients) → Option Found → Type 0
Told w shut a b f None = TrueRow w shut a b → ⊥
Told w shut a b f (Some v) = (p : List Quad) × FirstWalk w shut a b v.doors.items p × (f p ≡ Some v.line)

pub record Granted (w : World) (shut : Numbers) (a b : ℕ) (f : List Quad → Option Coefficients) (v : Sightline) (xs ys : List ℕ) : Type 0 where
  pub doorways : List ℕ
  pub path : List Quad
  pub first_walk : FirstWalk w shut a b doorways path
  pub line : f path ≡ Some v.line
  pub separates : Proper v.line × InLimits v.line × Separates v.line path
  pub count : v.doorways ≡ length doorways
  pub written : ys ≡ doorways ++ drop (length doorways) xs

abbrev pub Witnessed : World → Numbers → ℕ → ℕ → (List Quad → Option Coefficients) → Option Refusal → Result Sightline Refusal → List ℕ → List ℕ → Type 0
Witnessed w shut a b f (Some e) r xs ys = (r ≡ Err e) × (ys ≡ xs)
Witnessed w shut a b f None (Err e) xs ys = (e ≡ NoLine) × (TrueRow w shut a b → ⊥) × (ys ≡ xs)
Witnessed w shut a b f None (Ok v) xs ys = Granted w shut a b f v xs ys
