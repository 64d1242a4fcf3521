use Rattle.std.proofs.Common.{◌≡◌, Option, drop}
use Rattle.std.specs.Option.{option_map}
use Rattle.plane.specs.Lines.{posts}
use Rattle.plane.specs.Separation.{Coefficients, Point}
use Rattle.plane.specs.Shapes.{coefficients, place}
use Rattle.stabbing.specs.Asked.{first_answer}
use Rattle.stabbing.proofs.doorways.Doorways.first_at_post.Given as goal

abbrev pub invariant-loop-doorway : goal.invariant-loop-doorway
invariant-loop-doorway g l =
    goal.F-IsAlwaysCallable g l.ask
    × ((f : Point → Option Coefficients) → ((p : _) (line : Option _) → goal.F-post g l.ask p line → option_map coefficients line ≡ f (place p)) →
    first_answer f (posts (drop l.doorway-index l.self.list.now)) ≡ first_answer f (posts l.self.list.now))
