use Rattle.std.proofs.Common.{◌<◌, sym, ◌∙◌, arith}
use Rattle.visibility.proofs.Steps.{all_nth, leave_inside}
use Rattle.visibility.proofs.deck.Deck.onward.Goals as goal

pub bounds-entered-room : goal.bounds-entered-room
bounds-entered-room g c =
    let d = c.in_ok-doorway.doorway in
    let within = all_nth _ _ c.args.k d (g.met.M.Map.inside c.args.self.now.map.now) (sym c.doorway.ensures ∙ c.in_ok-doorway.was) in
    let l : c.in_ok-room.room < g.M.Map.rooms c.args.self.now.map.now =
    leave_inside _ d c.args.here c.in_ok-room.room c.in_ok-room.quad within (sym c.leave.ensures ∙ c.in_ok-room.was) in
    omega (arith, c.requires.entered)
