-- What is made of a reader's answer is what the text gives.
use Rattle.std.proofs.Common.{◌≡◌, ℕ, List, Result, Ok, Err}
use Rattle.std.specs.Result.{MatchResult}
use Rattle.text.specs.declared.faults.Fault.{Fault}
use Rattle.maps.specs.declared.passage.Passage.{Passage}
use Rattle.maps.specs.Passages.{Becomes}
use Rattle.plane.specs.Separation.{Point}
use Rattle.grid.specs.declared.map.GridMap.{GridMap}
use Rattle.grid.specs.declared.sizes.Size.{Size}
use Rattle.grid.specs.Doorways.{Pictured}
use Rattle.grid.specs.Pictures as picture_format
use Rattle.grid.specs.Plans as grid
use Rattle.polygon.specs.declared.counts.Counts.{Counts}
use Rattle.polygon.specs.declared.map.PolygonMap.{PolygonMap}
use Rattle.polygon.specs.Understood as polygon_format
use Rattle.decks.specs.declared.plan.Plan.{Plan}
use Rattle.decks.specs.declared.plan.Plan.TheVariants.{Grid, Polygon}
use Rattle.decks.specs.Plans.{picture, polygons, before, Pictures, Polygons}

pub a_picture : (t : List ℕ) (r : Result Plan Fault) (s : Result Size Fault) (sp : List ℕ) →
    s ≡ (picture t).result → sp ≡ (picture t).space → picture_format.Understood t (grid.zeros 1539) s sp →
    MatchResult s (λ s. (m : GridMap) × (r ≡ Ok (Grid m)) × Pictured s sp m.list.rooms m.list.held.items) (λ f. r ≡ Err f) →
    Pictures t r
a_picture t r s sp e f u m = record { understood = rw (e, f) at u; made = rw (e, f) at m }

pub of_polygons : (t : List ℕ) (r : Result Plan Fault) (n : Result Counts Fault) (ds : List Passage) (ps : List Point) (ns : List ℕ) →
    n ≡ (polygons t).result → ds ≡ (polygons t).doorways → ps ≡ (polygons t).corners → ns ≡ (polygons t).numbers →
    polygon_format.Understood t before n (polygon_format.spaces ds ps ns) →
    MatchResult n (λ n. (m : PolygonMap) × (r ≡ Ok (Polygon m)) × Becomes n.rooms n.doorways ds m.list.rooms m.list.held.items) (λ f. r ≡ Err f) →
    Polygons t r
of_polygons t r n ds ps ns e f g h u m = record { understood = rw (e, f, g, h) at u; made = rw (e, f) at m }
