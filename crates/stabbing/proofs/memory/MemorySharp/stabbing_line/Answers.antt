use Rattle.std.proofs.Common.{is_some, sym, ap, ◌∙◌}
use Rattle.std.specs.Option.{option_or}
use Rattle.stabbing.specs.Answers.{if_some}
use Rattle.stabbing.specs.Memory.{recalled}
use Rattle.stabbing.specs.Recall.{recall_sharp, recall_separates}
use Rattle.stabbing.proofs.memory.MemorySharp.stabbing_line.Goals as goal

pub returns-clause-test : goal.returns-clause-test
returns-clause-test g c =
    let s = c.args.self.now in
    let p = c.args.path.now in
    ap is_some {y = option_or (recalled s.held p) (g.S.Sharp.line s.below p)} c.find.ensures.value
    ∙ recall_sharp s.held p (g.S.Sharp.line s.below p) (g.S.Stabber.lets s.below p) (g.met.S.Stabber.stabbed s.below p) (g.met.S.Sharp.sharp s.below p)

pub returns-clause-some : goal.returns-clause-some
returns-clause-some g c =
    let s = c.args.self.now in
    let p = c.args.path.now in
    if_some _ c.find.result (λ l e. recall_separates s.held p (g.S.Sharp.line s.below p) l (g.met.S.Sharp.separates s.below p l) (sym {b = option_or (recalled s.held p) (g.S.Sharp.line s.below p)} c.find.ensures.value ∙ e))
