use Rattle.std.proofs.Common.{length, ap, ◌∙◌}
use lib.LanesLaws.{map-replicate}
use Rattle.polygon.specs.Corners.{point, points}
use Rattle.polygon.proofs.plans.clear.Goals as goal

pub returns-clause-corners : goal.returns-clause-corners
returns-clause-corners c = ap points (c.fill-2.ensures.after (λ y e. e)) ∙ map-replicate point (length c.args.corners.now) _
