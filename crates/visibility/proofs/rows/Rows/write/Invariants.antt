use Rattle.std.proofs.Common.{◌≡◌, ◌*◌, take}
use Rattle.visibility.specs.Bitmaps.{width, pixels}
use Rattle.visibility.specs.Sights.{sight}
use Rattle.visibility.proofs.rows.Rows.write.Given as goal

abbrev pub invariant-loop-a : goal.invariant-loop-a
invariant-loop-a l = take (l.a * width l.n) l.space ≡ pixels l.n l.a (sight l.self.rows)
