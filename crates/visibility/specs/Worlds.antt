-- What a map and a stabber mean together.
--   World       a number of rooms, the doorways by their numbers, and the paths that are let through
--   world n d l the world with these
--   meant m s x y
--               the world that the map x and the stabber y mean together, where m and s are what the types of both mean
--   Inside w    each doorway joins two rooms of the world
--   Lawful w    when a path is let through, so is the path without its last crossing
use Rattle.std.specs.Prelude.{◌≡◌, ℕ, ◌<◌, Bool, true, List, [], ◌∷◌, ◌++◌}
use Rattle.std.specs.List.{AllByRecursion}
use Rattle.plane.specs.declared.quad.Quad.{Quad}
use Rattle.maps.specs.declared.doorway.Doorway.{Doorway}
use Rattle.maps.specs.declared.map.Map.{Ghosts as MapMeaning}
use Rattle.stabbing.specs.declared.stabber.Stabber.{Ghosts as StabberMeaning}

pub record World : Type 0 where
  pub rooms : ℕ
  pub doorways : List Doorway
  pub lets : List Quad → Bool

abbrev pub world : ℕ → List Doorway → (List Quad → Bool) → World
world n d l = record { rooms = n; doorways = d; lets = l }

abbrev pub meant : {M S : Type 0} → MapMeaning M → StabberMeaning S → M → S → World
meant m s x y = world (m.rooms x) (m.doorways x) (s.lets y)

abbrev pub Inside : World → Type 0
Inside w = AllByRecursion (λ d. (d.near < w.rooms) × (d.far < w.rooms)) w.doorways

abbrev pub Lawful : World → Type 0
Lawful w = (p : List Quad) (q : Quad) → w.lets (p ++ q ∷ []) ≡ true → w.lets p ≡ true
