-- Cell-to-cell visibility in the words of Teller and Séquin: rooms are cells, and doorways are the portals between them.
--   Passes w a ks rs p   the portals ks lead from the cell a into the cells rs, one by one, and p are their crossings as they are passed
--   end a rs             the cell where that ends
--   Once rs              no cell stands twice in rs
--   Sequence w shut a b ks p
--                        ks, with the crossings p, is a sequence of open portals from a to b that enters no cell twice
--   Sees w shut a b      some such sequence has a line that weakly separates the left from the right posts: b is visible from a
use Rattle.std.specs.Prelude.{◌≡◌, ℕ, List, [], ◌∷◌, Some}
use Rattle.std.specs.List.{slice_get}
use Rattle.plane.specs.declared.quad.Quad.{Quad}
use Rattle.plane.specs.Separation.{Stabbed}
use Rattle.maps.specs.declared.doorway.Doorway.{Doorway}
use Rattle.visibility.specs.Orders.{In}
use Rattle.visibility.specs.Sets.{Numbers}
use Rattle.visibility.specs.Walks.{Leaves, Open}
use Rattle.visibility.specs.Worlds.{World}

abbrev pub Passes : World → ℕ → List ℕ → List ℕ → List Quad → Type 0
Passes w a [] [] [] = Unit {0}
Passes w a [] [] (q ∷ p) = ⊥
Passes w a [] (r ∷ rs) p = ⊥
Passes w a (k ∷ ks) [] p = ⊥
Passes w a (k ∷ ks) (r ∷ rs) [] = ⊥
Passes w a (k ∷ ks) (r ∷ rs) (q ∷ p) = ((d : Doorway) × (slice_get w.doorways k ≡ Some d) × Leaves d a r q) × Passes w r ks rs p

abbrev pub end : ℕ → List ℕ → ℕ
end a [] = a
end a (r ∷ rs) = end r rs

abbrev pub Once : List ℕ → Type 0
Once [] = Unit {0}
Once (r ∷ rs) = (In r rs → ⊥) × Once rs

pub record Sequence (w : World) (shut : Numbers) (a b : ℕ) (ks : List ℕ) (p : List Quad) : Type 0 where
  pub cells : List ℕ
  pub passes : Passes w a ks cells p
  pub ends : end a cells ≡ b
  pub once : Once (a ∷ cells)
  pub all_open : Open shut ks

abbrev pub Sees : World → Numbers → ℕ → ℕ → Type 0
Sees w shut a b = (ks : List ℕ) × (p : List Quad) × Sequence w shut a b ks p × Stabbed p
