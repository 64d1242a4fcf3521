use Rattle.std.proofs.Common.{◌≡◌, drop}
use Rattle.polygon.specs.Corners.{points}
use Rattle.polygon.specs.Convexity.{shapely}
use Rattle.polygon.proofs.convexity.check_faces.Given as goal

abbrev pub invariant-loop-f : goal.invariant-loop-f
invariant-loop-f l =
    shapely (points l.corners) l.f (drop l.f l.sizes) l.rest ≡ shapely (points l.corners) 0 l.sizes l.numbers
