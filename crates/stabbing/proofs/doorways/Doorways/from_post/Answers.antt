use Rattle.std.proofs.Common.{sym, ◌∙◌, rules}
use Rattle.plane.specs.Lines.{posts}
use Rattle.plane.specs.Shapes.{place}
use Rattle.stabbing.specs.Asked.{joined}
use Rattle.stabbing.proofs.Asks.{fan_asked}
use Rattle.stabbing.proofs.doorways.Doorways.from_post.Goals as goal

pub returns : goal.returns
returns c =
    let path = c.args.self.list.now in
    let P = place c.args.p in
    c.first_at_post.ensures (joined path P) (λ q line k. search rules) ∙ sym (fan_asked path P (posts path))
