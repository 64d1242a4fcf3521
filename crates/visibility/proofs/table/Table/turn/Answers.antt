use Rattle.std.proofs.Common.{◌≡◌, ℕ, ◌<◌, List, length, set, sym, refl, ap, ◌∙◌, arith, rules}
use Rattle.visibility.specs.Sets.{marks, number, both}
use Rattle.visibility.specs.Sights.{sight, touches}
use Rattle.visibility.specs.States.{world_of, State, state_of, no_turn, Turns}
use Rattle.visibility.specs.declared.row.Row.{Row}
use Rattle.visibility.proofs.States.{nth_some, granted, turn_free, marks_place}
use Rattle.visibility.proofs.table.Table.turn.Goals as goal

pub returns : goal.returns
returns g c =
    let t = c.args.self.now in
    let w = world_of g.M.Map g.S.Stabber t in
    let l = nth_some (g.M.Map.doorways c.args.self.now.map) c.args.k c.in-Some.doorway (sym c.in-Some.ensures) in
    let after : State = record { shut = marks (set t.closed c.args.k c.args.v); filled = marks c.unfill.new.self.filled; shows = sight c.unfill.new.self.rows } in
    let long : length c.args.self.now.closed ≡ 2048 = search rules in
    let wide : c.args.k < length t.closed = omega (arith, g.met.M.Map.few t.map) in
    record {
      value = granted (no_turn w (state_of t) c.args.k c.args.v) (state_of t) after (Turns w (state_of t) c.args.k c.args.v after) c.unfill.result
          (turn_free w (state_of t) c.args.k c.args.v l c.if-self-k.false)
          record {
            doorway = c.in-Some.doorway;
            is_doorway = sym c.in-Some.ensures;
            shut = marks_place t.closed c.args.k c.args.v wide;
            shows = ap (λ (v : List Row). sight v) c.unfill.ensures.rows;
            filled = λ a i. c.unfill.ensures.filled a (omega (arith, c.room_count-rooms.ensures));
            count = c.unfill.ensures.value ∙ ap (λ (n : ℕ). number n (both (marks t.rows.filled) (touches (sight t.rows.rows) c.in-Some.doorway.near c.in-Some.doorway.far))) c.room_count-rooms.ensures;
          };
      owns = (refl, refl);
    }
