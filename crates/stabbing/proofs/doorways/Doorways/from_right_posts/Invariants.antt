use Rattle.std.proofs.Common.{◌≡◌, drop}
use Rattle.plane.specs.Lines.{posts}
use Rattle.stabbing.specs.Asked.{first_answer, from_point}
use Rattle.stabbing.proofs.doorways.Doorways.from_right_posts.Given as goal

abbrev pub invariant-loop-near : goal.invariant-loop-near
invariant-loop-near l =
    first_answer (from_point l.self.list.now) (posts (drop l.near-index l.front.list.now))
    ≡ first_answer (from_point l.self.list.now) (posts l.front.list.now)
