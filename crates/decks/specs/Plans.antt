-- Which plan a text gives.
--   list_of p       the rooms and doorways of the map of the plan p
--   Begins t        the text t begins with OFF
--   picture t       what the reader of pictures makes of t and a space of zeros
--   Pictures t r    r is what that reader says: a map that is made of what it read, or its fault
--   polygons t      what the reader of polygons makes of t and spaces of zeros
--   Polygons t r    r is what that reader says, in the same way
--   Plans t r       r is what the reader of polygons says of t where t begins with OFF, and else what the reader of pictures says
use Rattle.std.specs.Prelude.{◌≡◌, ℕ, List, codes, take, replicate, pos, Result, Ok, Err}
use Rattle.std.specs.Result.{MatchResult}
use Rattle.text.specs.declared.faults.Fault.{Fault}
use Rattle.maps.specs.declared.listed.Listed.{Listed}
use Rattle.maps.specs.Passages.{Becomes}
use Rattle.grid.specs.declared.map.GridMap.{GridMap}
use Rattle.grid.specs.Doorways.{Pictured}
use Rattle.grid.specs.Pictures as picture_format
use Rattle.grid.specs.Plans as grid
use Rattle.polygon.specs.declared.map.PolygonMap.{PolygonMap}
use Rattle.polygon.specs.Plans as polygon
use Rattle.polygon.specs.Understood as polygon_format
use Rattle.decks.specs.declared.plan.Plan.{Plan}
use Rattle.decks.specs.declared.plan.Plan.TheVariants.{Grid, Polygon}

abbrev pub list_of : Plan → Listed
list_of (Grid m) = m.list
list_of (Polygon m) = m.list

abbrev pub Begins : List ℕ → Type 0
Begins t = take 3 t ≡ codes "OFF"

abbrev pub picture : List ℕ → grid.Plan
picture t = grid.answered t (grid.zeros 1539)

pub record Pictures (t : List ℕ) (r : Result Plan Fault) : Type 0 where
  pub understood : picture_format.Understood t (grid.zeros 1539) (picture t).result (picture t).space
  pub made : MatchResult (picture t).result (λ s. (m : GridMap) × (r ≡ Ok (Grid m)) × Pictured s (picture t).space m.list.rooms m.list.held.items) (λ f. r ≡ Err f)

abbrev pub polygons : List ℕ → polygon.Answer
polygons t = polygon.answered t (replicate 2048 polygon.nothing) (replicate 1024 (pos 0, pos 0)) (replicate 4096 0)

abbrev pub before : polygon_format.Spaces
before = polygon_format.spaces (replicate 2048 polygon.nothing) (replicate 1024 (pos 0, pos 0)) (replicate 4096 0)

pub record Polygons (t : List ℕ) (r : Result Plan Fault) : Type 0 where
  pub understood : polygon_format.Understood t before (polygons t).result (polygon_format.spaces (polygons t).doorways (polygons t).corners (polygons t).numbers)
  pub made : MatchResult (polygons t).result (λ n. (m : PolygonMap) × (r ≡ Ok (Polygon m)) × Becomes n.rooms n.doorways (polygons t).doorways m.list.rooms m.list.held.items) (λ f. r ≡ Err f)

pub record Plans (t : List ℕ) (r : Result Plan Fault) : Type 0 where
  pub polygons : Begins t → Polygons t r
  pub pictures : (Begins t → ⊥) → Pictures t r
