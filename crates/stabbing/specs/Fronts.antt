-- What holds of a path holds of the path without its last crossing.
use Rattle.std.proofs.Common.{List, [], ◌∷◌, ◌++◌, arith, length-append}
use Rattle.std.specs.List.{AllByRecursion}
use Rattle.plane.specs.declared.quad.Quad.{Quad}
use Rattle.plane.specs.Limits.{Crosses, Path}
use Rattle.plane.specs.Separation.{Parts, Stabbed}

pub all_front : {X : Type 0} (P : X → Type 0) (xs ys : List X) → AllByRecursion P (xs ++ ys) → AllByRecursion P xs
all_front P [] ys h = tt
all_front P (x ∷ xs) ys (h, hs) = (h, all_front P xs ys hs)

pub path_front : (p r : List Quad) → Path (p ++ r) → Path p
path_front p r (few, all) = (omega (arith, length-append p r), all_front Crosses p r all)

pub stabbed_front : (p r : List Quad) → Stabbed (p ++ r) → Stabbed p
stabbed_front p r (l, proper, all) = (l, proper, all_front (Parts l) p r all)
