use Rattle.std.proofs.Common.{sym, ap, ◌∙◌, rules}
use Rattle.plane.specs.Lines.{posts}
use Rattle.plane.specs.Shapes.{place}
use Rattle.stabbing.specs.Asked.{first_answer, joined}
use Rattle.stabbing.proofs.Asks.{start_first}
use Rattle.stabbing.proofs.doorways.Doorways.from_start.Goals as goal

pub returns : goal.returns
returns c l e =
    let path = c.args.self.list.now in
    let f = joined path (place c.ends.result.left) in
    let found = c.first_at_post.ensures f (λ q line k. search rules) ∙ ap (λ v. first_answer f (posts v)) c.split_at.ensures.front in
    start_first path 2 c.in_ok-first.field-0.now _ l c.in_ok-first.ensures.value c.ends.ensures.0 (sym found ∙ e)
