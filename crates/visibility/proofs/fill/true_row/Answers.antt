use Rattle.std.proofs.Common.{◌≡◌, ◌/◌, ◌<◌, [], length, sym, refl, ap, ◌∙◌, arith}
use Rattle.std.proofs.lemmas.List.{length-set}
use Rattle.visibility.specs.Sets.{Numbers, none, with, only, marks}
use Rattle.visibility.specs.Worlds.{world}
use Rattle.visibility.specs.Bits.{shown}
use Rattle.visibility.specs.Questions.{due, shown_all}
use Rattle.visibility.specs.Orders.{In}
use Rattle.visibility.specs.Trips.{Trip}
use Rattle.visibility.specs.declared.row.Row.{Row}
use Rattle.visibility.proofs.Orders.{in_order}
use Rattle.visibility.proofs.TrueRows.{shown_true, true_shown, empty_let}
use Rattle.visibility.proofs.Fillings.{toured_row, walk_inside}
use Rattle.visibility.proofs.fill.true_row.Goals as goal

pub returns : goal.returns
returns g c =
    let m = c.args.deck.now.map.now in
    let s = c.args.stabber.now in
    let lets = g.S.Stabber.lets in
    let asked = g.S.Stabber.asked in
    let w = world (g.M.Map.rooms m) (g.M.Map.doorways m) (lets s) in
    let shut = marks c.args.deck.now.shut.now in
    let a = c.args.a in
    let v : Row = c.mark.new.self in
    let start : shown v.bytes ≡ with none a = c.mark.ensures.shown ∙ ap (λ (r : Numbers). with r a) c.new-row.ensures.value in
    let wide : length v.bytes ≡ 32 = ap length c.mark.ensures.value ∙ length-set c.new-row.result.bytes (a / 8) _ ∙ c.new-row.ensures.long in
    let order = in_order w shut (g.met.M.Map.inside m) (g.met.S.Stabber.prefix s) (empty_let (lets s) (g.met.S.Stabber.stabbed s)) a in
    let ts = due w shut (only a) a [] [] in
    let low : (t : Trip) → In t ts → t.room / 8 < length v.bytes = λ t i.
    let l = walk_inside w (g.met.M.Map.inside m) a t.doors t.room t.path c.requires (order.due t i).walk in
    omega (arith, l, wide, g.met.M.Map.bounded m) in
    let all = c.search_from.ensures.toured in
    let both = toured_row lets asked g.met.S.Stabber.steady w s v ts refl low in
    let row : shown c.search_from.new.visitor.bytes ≡ shown_all w (with none a) ts =
    ap (λ x. shown x.1.bytes) all ∙ both.1 ∙ ap (λ (r : Numbers). shown_all w r ts) start in
    record {
      value = λ x. (
        λ h. shown_true w (g.met.M.Map.inside m) (g.met.S.Stabber.prefix s) shut a x [] (empty_let (lets s) (g.met.S.Stabber.stabbed s)) (sym (ap (λ (r : Numbers). r x) row) ∙ h),
        λ t. ap (λ (r : Numbers). r x) row ∙ true_shown w (g.met.M.Map.inside m) (g.met.S.Stabber.prefix s) shut a x [] t,
      );
      asked = ap (λ x. x.0) all ∙ both.0;
      lets = c.search_from.ensures.lets;
    }
