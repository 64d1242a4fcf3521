use Rattle.visibility.proofs.Indexing.{Entered}
use Rattle.visibility.proofs.index.Index.new.Given as goal

abbrev pub invariant-loop-k : goal.invariant-loop-k
invariant-loop-k g l = Entered (g.M.Map.doorways l.map) l.k l.index
