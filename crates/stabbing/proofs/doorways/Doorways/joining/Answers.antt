use Rattle.std.proofs.Common.{rules}
use Rattle.stabbing.proofs.Asks.{kept_line}
use Rattle.stabbing.proofs.doorways.Doorways.joining.Goals as goal

pub returns : goal.returns
returns c = kept_line _ _ _ _ _ _ (λ x b w. search rules) c.through.ensures c.filter.ensures
