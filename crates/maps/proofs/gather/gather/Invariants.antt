use Rattle.std.proofs.Common.{◌≡◌, true, map, take}
use Rattle.std.specs.List.{AllByRecursion}
use Rattle.maps.specs.Passages.{plain, Joins, within}
use Rattle.maps.proofs.gather.gather.Given as goal

abbrev pub invariant-loop-passage : goal.invariant-loop-passage
invariant-loop-passage l =
    AllByRecursion (Joins l.rooms) (take l.passage-index l.from)
    × (map plain l.held.items ≡ take l.passage-index l.from)
    × (within l.rooms l.held.items ≡ true)
