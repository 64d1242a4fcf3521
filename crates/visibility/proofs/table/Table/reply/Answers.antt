use Rattle.std.proofs.Common.{◌≡◌, rules, Result, ℕ, true, false, List, ◌∷◌, sym, refl, ap, subst, subst₂}
use Rattle.visibility.specs.declared.refusal.Refusal.{Refusal}
use Rattle.visibility.specs.declared.call.Call.{Call}
use Rattle.visibility.specs.declared.call.Call.TheVariants.{Shut, Open}
use Rattle.visibility.specs.declared.call.Answer.{Answer}
use Rattle.visibility.specs.declared.call.Answer.TheVariants.{Count, Seen, Written}
use Rattle.visibility.specs.Histories.{Stands}
use Rattle.visibility.specs.Replies.{Space, Replied}
use Rattle.visibility.specs.States.{world_of, state_of}
use Rattle.visibility.proofs.Histories.{answered, answered_is, after_fill, after_shows, after_turn}
use Rattle.visibility.proofs.Replies.{after_bitmap}
use Rattle.visibility.proofs.table.Table.reply.Goals as goal

pub returns-in-Fill-clause-after : goal.returns-in-Fill-clause-after
returns-in-Fill-clause-after g c = λ h st.
    let t = c.args.self.now in
    let both = after_fill _ h (state_of t) (state_of c.fill.new.self) c.in-Fill.a c.fill.result st c.fill.ensures.value in
    subst (λ (x : Call). Stands (world_of g.M.Map g.S.Stabber t) (x ∷ h) (state_of c.fill.new.self)) (sym c.in-Fill.is) both.0

pub returns-in-Shows-clause-value : goal.returns-in-Shows-clause-value
returns-in-Shows-clause-value g c = λ h st xs.
    let t = c.args.self.now in
    let keep : Space = record { doorways = xs; bytes = c.args.bytes.now } in
    let both = after_shows _ h (state_of t) c.in-Shows.a c.in-Shows.b c.shows.result st c.shows.ensures in
    let is : answered Seen c.shows.result ≡ c.map-in-Shows.result = answered_is Seen c.shows.result c.map-in-Shows.result (search rules) in
    subst₂ (λ (x : Call) (r : Result Answer Refusal). Replied false (world_of g.M.Map g.S.Stabber t) h x r keep keep) (sym c.in-Shows.is) is (both.1, refl)

pub returns-in-Shut : goal.returns-in-Shut
returns-in-Shut g c =
    let t = c.args.self.now in
    let w = world_of g.M.Map g.S.Stabber t in
    let keep : List ℕ → Space = λ xs. record { doorways = xs; bytes = c.args.bytes.now } in
    let both = λ (h : List Call) (st : Stands w h (state_of t)).
    after_turn w (g.met.S.Stabber.prefix t.stabber) h (Shut c.in-Shut.k) c.in-Shut.k true refl (λ a x. x) (λ a x. x)
    (state_of t) (state_of c.shut.new.self) c.shut.result st c.shut.ensures.value in
    let is : answered Count c.shut.result ≡ c.map-in-Shut.result = answered_is Count c.shut.result c.map-in-Shut.result (search rules) in
    record {
      value = λ h st xs. subst₂ (λ (x : Call) (r : Result Answer Refusal). Replied false w h x r (keep xs) (keep xs)) (sym c.in-Shut.is) is ((both h st).1, refl);
      after = λ h st. subst (λ (x : Call). Stands w (x ∷ h) (state_of c.shut.new.self)) (sym c.in-Shut.is) (both h st).0;
      map = c.shut.ensures.owns.0;
      lets = ap g.S.Stabber.lets c.shut.ensures.owns.1;
    }

pub returns-in-Open : goal.returns-in-Open
returns-in-Open g c =
    let t = c.args.self.now in
    let w = world_of g.M.Map g.S.Stabber t in
    let keep : List ℕ → Space = λ xs. record { doorways = xs; bytes = c.args.bytes.now } in
    let both = λ (h : List Call) (st : Stands w h (state_of t)).
    after_turn w (g.met.S.Stabber.prefix t.stabber) h (Open c.in-Open.k) c.in-Open.k false refl (λ a x. x) (λ a x. x)
    (state_of t) (state_of c.«open».new.self) c.«open».result st c.«open».ensures.value in
    let is : answered Count c.«open».result ≡ c.map-in-Open.result = answered_is Count c.«open».result c.map-in-Open.result (search rules) in
    record {
      value = λ h st xs. subst₂ (λ (x : Call) (r : Result Answer Refusal). Replied false w h x r (keep xs) (keep xs)) (sym c.in-Open.is) is ((both h st).1, refl);
      after = λ h st. subst (λ (x : Call). Stands w (x ∷ h) (state_of c.«open».new.self)) (sym c.in-Open.is) (both h st).0;
      map = c.«open».ensures.owns.0;
      lets = ap g.S.Stabber.lets c.«open».ensures.owns.1;
    }

pub returns-in-Bitmap-clause-value : goal.returns-in-Bitmap-clause-value
returns-in-Bitmap-clause-value g c = λ h st xs.
    let t = c.args.self.now in
    let keep : Space = record { doorways = xs; bytes = c.args.bytes.now } in
    let full : Space = record { doorways = xs; bytes = c.bitmap.new.space } in
    let is : answered Written c.bitmap.result ≡ c.map-in-Bitmap.result = answered_is Written c.bitmap.result c.map-in-Bitmap.result (search rules) in
    let after = after_bitmap _ h (state_of t) st c.bitmap.result c.args.bytes.now c.bitmap.new.space c.bitmap.ensures.value c.bitmap.ensures.after c.bitmap.ensures.format in
    subst₂ (λ (x : Call) (r : Result Answer Refusal). Replied false (world_of g.M.Map g.S.Stabber t) h x r keep full) (sym c.in-Bitmap.is) is (after, refl)
