use Rattle.std.proofs.Common.{◌≡◌, rules, Result, true, ◌∷◌, sym, refl, subst, subst₂}
use Rattle.visibility.specs.declared.refusal.Refusal.{Refusal}
use Rattle.visibility.specs.declared.call.Call.{Call}
use Rattle.visibility.specs.declared.call.Call.TheVariants.{Witness}
use Rattle.visibility.specs.declared.call.Answer.{Answer}
use Rattle.visibility.specs.declared.call.Answer.TheVariants.{Found}
use Rattle.visibility.specs.Histories.{Stands}
use Rattle.visibility.specs.Replies.{Space, Replied}
use Rattle.visibility.specs.States.{state_of}
use Rattle.visibility.specs.Worlds.{meant}
use Rattle.visibility.proofs.Histories.{answered, answered_is, same_stands}
use Rattle.visibility.proofs.Paths.{sharp_stabbed}
use Rattle.visibility.proofs.Replies.{after_witness, replied_sharp}
use Rattle.visibility.proofs.table.Table.reply_sharp.Goals as goal

pub returns-in-Witness : goal.returns-in-Witness
returns-in-Witness g c =
    let t = c.args.self.now in
    let s = t.stabber in
    let w = meant g.M.Map g.S.Stabber t.map s in
    let old : Space = record { doorways = c.args.doorways.now; bytes = c.args.bytes.now } in
    let new : Space = record { doorways = c.witness.new.space; bytes = c.args.bytes.now } in
    let is : answered Found c.witness.result ≡ c.map.result = answered_is Found c.witness.result c.map.result (search rules) in
    record {
      value = λ h st. subst₂ (λ (x : Call) (r : Result Answer Refusal). Replied true w h x r old new) (sym c.in-Witness.is) is (
        after_witness w h (state_of t) st (g.met.M.Map.inside t.map) (g.met.M.Map.bounded t.map) (g.met.S.Stabber.stabbed s)
            (sharp_stabbed (g.S.Stabber.lets s) (g.S.Sharp.line s) (g.met.S.Sharp.sharp s) (g.met.S.Sharp.separates s))
            c.in-Witness.a c.in-Witness.b _ c.witness.result c.args.doorways.now c.witness.new.space c.witness.ensures.value,
        refl,
      );
      after = λ h st. subst (λ (x : Call). Stands w (x ∷ h) (state_of c.witness.new.self)) (sym c.in-Witness.is)
          (subst (Stands w (Witness c.in-Witness.a c.in-Witness.b ∷ h)) (sym c.witness.ensures.same)
          (same_stands w h (Witness c.in-Witness.a c.in-Witness.b) (state_of t) st refl (λ a l. (λ k. k, λ k. k))));
      map = c.witness.ensures.map;
      lets = c.witness.ensures.lets;
    }

pub returns-in_default : goal.returns-in_default
returns-in_default g c = record {
  value = λ h st. replied_sharp _ h c.args.call c.reply.result _ _ (λ a b e. c.in_default.not-Witness a b e) (c.reply.ensures.value h st c.args.doorways.now);
  after = c.reply.ensures.after;
  map = c.reply.ensures.map;
  lets = c.reply.ensures.lets;
}
