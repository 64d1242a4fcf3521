use Rattle.std.proofs.Common.{◌+◌, length, set, sym, ap, ◌∙◌, subst}
use Rattle.std.proofs.lemmas.List.{map-set}
use Rattle.polygon.specs.Corners.{point, points}
use Rattle.polygon.proofs.Rounds.{Laid, laid_more, laid_all}
use Rattle.polygon.proofs.convexity.twice_round.Goals as goal

pub loop-k-preserved : goal.loop-k-preserved
loop-k-preserved c =
    let ps = points c.args.corners.now in
    let face = c.args.face.now in
    let row = c.loop-k.ring in
    let k = c.loop-k.k in
    let x = c.corner_at-corner.result in
    subst (λ r. Laid ps face r (k + 1)) (sym (map-set point (set row k x) (length face + k) x ∙ ap (λ r. set r (length face + k) (point x)) (map-set point row k x)))
    (laid_more ps face (points row) k (point x) c.loop-k-test.true c.corner_at-corner.ensures c.loop-k.invariant)

pub returns : goal.returns
returns c =
    let row = c.loop-k.ring in
    laid_all (points c.args.corners.now) c.args.face.now (points row) c.loop-k.k c.loop-k-test.false c.loop-k.invariant
