use Rattle.std.proofs.Common.{◌≡◌, true, map, take, ◌+◌, sym, subst}
use Rattle.maps.specs.Passages.{plain, within}
use Rattle.maps.proofs.Gathered.{gathered}
use Rattle.maps.proofs.gather.gather.Goals as goal

pub loop-passage-preserved : goal.loop-passage-preserved
loop-passage-preserved c =
    let n = c.args.rooms in
    let h = c.in_ok-doorway_of.ensures in
    let i = c.loop-passage.invariant in
    let g = gathered n c.loop-passage.passage-index c.args.from.now c.loop-passage.held.items _ c.in_ok-doorway_of.field-0 c.loop-passage-test.true i.0 i.1 i.2 h.0 h.1 h.2 in
    let items = sym c.push.ensures.items in
    (g.all, subst (λ ds. map plain ds ≡ take (c.loop-passage.passage-index + 1) c.args.from.now) items g.same, subst (λ ds. within n ds ≡ true) items g.inside)
