use Rattle.std.proofs.Common.{[], sym, subst}
use Rattle.maps.specs.declared.listed.Listed.{Listed}
use Rattle.grid.specs.Doorways.{Pictured}
use Rattle.grid.proofs.Pictured.{one_room}
use Rattle.grid.proofs.Drawings.{pictured}
use Rattle.grid.proofs.map.GridMap.new.Goals as goal
use Rattle.grid.proofs.map.GridMap.new.Goals.{in-Some, in-None}

pub returns : goal.returns
returns c =
    let s = c.args.size in
    let sp = c.args.space.now in
    let Meant = λ (l : Listed). Pictured s sp l.rooms l.held.items in
    elim c.match-of.branch [
      | in-Some w ↦ subst Meant (sym w.list-is) (pictured s sp _ _ _ _ w.in-Some.ensures w.in-Some.plan.whole w.whole-list.ensures)
      | in-None w ↦ subst Meant (sym w.list-is) (one_room s sp [] _ _ w.in-None.ensures w.new-list.ensures)
    ]
