use Rattle.std.proofs.Common.{is_some, ap, ◌∙◌}
use Rattle.std.specs.Option.{option_or}
use Rattle.stabbing.specs.Memory.{recalled}
use Rattle.stabbing.specs.Recall.{recall_sharp}
use Rattle.stabbing.proofs.memory.MemoryStabber.lets_through.Goals as goal

pub returns-clause-value : goal.returns-clause-value
returns-clause-value g c =
    let s = c.args.self.now in
    let p = c.args.path.now in
    c.is_some.ensures ∙ ap is_some {y = option_or (recalled s.held p) (g.S.Sharp.line s.below p)} c.find.ensures.value
    ∙ recall_sharp s.held p (g.S.Sharp.line s.below p) (g.S.Stabber.lets s.below p) (g.met.S.Stabber.stabbed s.below p) (g.met.S.Sharp.sharp s.below p)
