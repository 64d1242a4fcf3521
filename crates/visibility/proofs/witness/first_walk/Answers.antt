use Rattle.std.proofs.Common.{ℕ, [], refl, ap, ◌∙◌, subst}
use Rattle.visibility.specs.Sets.{only, marks}
use Rattle.visibility.specs.Questions.{due, asked_all}
use Rattle.visibility.specs.Witnesses.{leads, ahead, until, Told}
use Rattle.visibility.specs.Worlds.{world}
use Rattle.visibility.proofs.Orders.{in_order}
use Rattle.visibility.proofs.TrueRows.{empty_let}
use Rattle.visibility.proofs.Witnessed.{quest_ends}
use Rattle.visibility.proofs.witness.first_walk.Goals as goal

pub returns : goal.returns
returns g c =
    let m = c.args.deck.now.map.now in
    let s = c.args.stabber.now in
    let lets = g.S.Stabber.lets in
    let w = world (g.M.Map.rooms m) (g.M.Map.doorways m) (lets s) in
    let shut = marks c.args.deck.now.shut.now in
    let a = c.args.a in
    let fresh = c.new-quest.ensures in
    let order = in_order w shut (g.met.M.Map.inside m) (g.met.S.Stabber.prefix s) (empty_let (lets s) (g.met.S.Stabber.stabbed s)) a in
    let ends = quest_ends lets g.S.Sharp.lined g.S.Sharp.line g.met.S.Sharp.sharp g.met.S.Sharp.steady w
    (g.met.M.Map.inside m) (g.met.S.Stabber.prefix s)
    s c.search_from.new.stabber refl c.new-quest.result c.search_from.new.visitor fresh.1
    shut a c.requires.room (λ e. c.requires.apart (e ∙ fresh.0)) (due w shut (only a) a [] []) order c.search_from.ensures.toured in
    record {
      value = subst (λ (b : ℕ). Told w shut a b (g.S.Sharp.line (asked_all g.S.Sharp.lined s (ahead (leads w b) (due w shut (only a) a [] [])))) c.search_from.new.visitor.found) fresh.0 ends.0.0;
      short = ends.0.1;
      asked = ends.1 ∙ ap (λ (b : ℕ). asked_all g.S.Sharp.lined s (until (leads w b) (due w shut (only a) a [] []))) fresh.0;
      lets = c.search_from.ensures.lets;
    }
