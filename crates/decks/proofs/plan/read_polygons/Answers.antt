use Rattle.std.proofs.Common.{rules, refl}
use Rattle.decks.proofs.Made.{of_polygons}
use Rattle.decks.proofs.plan.read_polygons.Goals as goal

pub returns-in_err-counts : goal.returns-in_err-counts
returns-in_err-counts c =
    let e = c.in_err-counts.ensures in
    of_polygons _ _ _ _ _ _ e.answer e.doorways e.corners e.numbers e.understood (search rules)

pub returns : goal.returns
returns c =
    let e = c.in_ok-counts.ensures in
    of_polygons _ _ _ _ _ _ e.answer e.doorways e.corners e.numbers e.understood (c.new-map.result, refl, c.new-map.ensures)
