use Rattle.std.proofs.Common.{sym, ◌∙◌}
use Rattle.std.proofs.lemmas.Bool.{eqb-true, eqb-false}
use Rattle.stabbing.specs.Found.{line_empty, line_other}
use Rattle.stabbing.proofs.Asks.{start_found}
use Rattle.stabbing.proofs.doorways.Doorways.line.Goals as goal

pub returns-then-is_empty : goal.returns-then-is_empty
returns-then-is_empty c = sym (line_empty c.args.self.list.now (eqb-true _ _ (sym c.if-is_empty.ensures)))

pub returns-in-None : goal.returns-in-None
returns-in-None c = c.from_posts.ensures ∙ sym (line_other c.args.self.list.now (eqb-false _ _ (sym c.if-is_empty.ensures)))

pub returns-in_default : goal.returns-in_default
returns-in_default c =
    start_found c.from_start.result _ c.in_default.not-None c.from_start.ensures
    ∙ sym (line_other c.args.self.list.now (eqb-false _ _ (sym c.if-is_empty.ensures)))
