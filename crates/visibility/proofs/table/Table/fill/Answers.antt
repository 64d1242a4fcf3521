use Rattle.std.proofs.Common.{◌≡◌, ◌<◌, Bool, List, refl, ap, subst₂, arith}
use Rattle.visibility.specs.Bits.{shown}
use Rattle.visibility.specs.Sets.{marks, Exactly}
use Rattle.visibility.specs.Sights.{sight}
use Rattle.visibility.specs.Walks.{TrueRow}
use Rattle.visibility.specs.Worlds.{meant}
use Rattle.visibility.specs.States.{world_of, State, state_of}
use Rattle.visibility.proofs.Orders.{searched}
use Rattle.visibility.proofs.States.{fill_granted}
use Rattle.visibility.proofs.table.Table.fill.Goals as goal

pub returns-clause-value : goal.returns-clause-value
returns-clause-value g c =
    let t = c.args.self.now in
    let after : State = record { shut = marks t.closed; filled = marks c.fill.new.self.filled; shows = sight c.fill.new.self.rows } in
    let l : c.args.a < g.M.Map.rooms t.map = omega (arith, c.if-a-room_count.false, c.room_count.ensures) in
    let e : c.new-deck.result.map.now ≡ t.map = ap (λ b. b.now) c.new-deck.ensures.0 in
    let f : c.new-deck.result.shut.now ≡ t.closed = ap (λ b. b.now) c.new-deck.ensures.1 in
    let row : Exactly (shown c.true_row-row.result.bytes) (TrueRow (world_of g.M.Map g.S.Stabber t) (marks t.closed) c.args.a) =
    subst₂ (λ (m : g.row.M.Denot) (xs : List Bool). Exactly (shown c.true_row-row.result.bytes) (TrueRow (meant g.M.Map g.S.Stabber m t.stabber) (marks xs) c.args.a)) e f c.true_row-row.ensures.value in
    fill_granted (world_of g.M.Map g.S.Stabber t) (g.met.M.Map.inside t.map) (g.met.M.Map.bounded t.map) (state_of t) after c.args.a c.count.result
    (shown c.true_row-row.result.bytes) l refl c.fill.ensures.filled c.fill.ensures.other c.fill.ensures.this
    row c.count.ensures

pub returns-clause-order : goal.returns-clause-order
returns-clause-order g c =
    let t = c.args.self.now in
    searched (world_of g.M.Map g.S.Stabber t) (g.met.M.Map.inside t.map) (g.met.S.Stabber.prefix t.stabber) (g.met.S.Stabber.stabbed t.stabber) (marks t.closed) c.args.a

pub returns-then-a-room_count-clause-order : goal.returns-then-a-room_count-clause-order
returns-then-a-room_count-clause-order g c =
    let t = c.args.self.now in
    searched (world_of g.M.Map g.S.Stabber t) (g.met.M.Map.inside t.map) (g.met.S.Stabber.prefix t.stabber) (g.met.S.Stabber.stabbed t.stabber) (marks t.closed) c.args.a
