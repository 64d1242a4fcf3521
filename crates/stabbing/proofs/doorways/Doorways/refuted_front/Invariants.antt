use Rattle.std.proofs.Common.{take}
use Rattle.std.specs.List.{AllByRecursion}
use Rattle.stabbing.specs.Asked.{Passed}
use Rattle.stabbing.proofs.doorways.Doorways.refuted_front.Given as goal

abbrev pub invariant-loop-k : goal.invariant-loop-k
invariant-loop-k l = AllByRecursion (Passed l.self.list.now) (take l.k l.self.list.now)
