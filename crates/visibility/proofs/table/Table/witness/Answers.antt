use Rattle.std.proofs.Common.{◌≡◌, ℕ, List, ◌++◌, drop, [], length, None, ap, ◌∙◌, subst, subst₂, Bool, Err, Option, sym, refl, arith}
use Rattle.visibility.specs.Questions.{due, asked_all}
use Rattle.visibility.specs.Sets.{only, marks}
use Rattle.visibility.specs.Witnesses.{leads, ahead, no_witness, Told, Witnessed}
use Rattle.visibility.specs.declared.refusal.Refusal.{Refusal}
use Rattle.visibility.specs.declared.refusal.Refusal.TheVariants.{NoLine}
use Rattle.visibility.specs.Worlds.{meant}
use Rattle.visibility.specs.States.{world_of}
use Rattle.visibility.proofs.Orders.{searched}
use Rattle.visibility.proofs.Grounds.{witness_free, witness_found}
use Rattle.visibility.proofs.table.Table.witness.Goals as goal

pub returns-in-Some-clause-value : goal.returns-in-Some-clause-value
returns-in-Some-clause-value g c =
    let t = c.args.self.now in
    let s = t.stabber in
    let w = meant g.M.Map g.S.Stabber t.map s in
    let shut = marks t.closed in
    let ts = due w shut (only c.args.a) c.args.a [] [] in
    let f = g.S.Sharp.line (asked_all g.S.Sharp.lined s (ahead (leads w c.args.b) ts)) in
    let o = no_witness w c.args.a c.args.b (length c.args.space.now) in
    let n : c.room_count-rooms.result ≡ g.M.Map.rooms t.map = c.room_count-rooms.ensures in
    let some = g.met.M.Map.inhabited t.map in
    let h : o ≡ None = witness_free w c.args.a c.args.b (length c.args.space.now) (omega arith) (omega arith) c.if-a-b.false (omega arith) in
    let e : c.new-deck.result.map.now ≡ t.map = ap (λ b. b.now) c.new-deck.ensures.0 in
    let k : c.new-deck.result.shut.now ≡ t.closed = ap (λ b. b.now) c.new-deck.ensures.1 in
    let told : Told w shut c.args.a c.args.b f c.first_walk-found.result =
    subst₂ (λ (m : g.row.M.Denot) (xs : List Bool). let v = meant g.M.Map g.S.Stabber m s in Told v (marks xs) c.args.a c.args.b (g.S.Sharp.line (asked_all g.S.Sharp.lined s (ahead (leads v c.args.b) (due v (marks xs) (only c.args.a) c.args.a [] [])))) c.first_walk-found.result) e k c.first_walk-found.ensures.value in
    witness_found w shut c.args.a c.args.b f o c.args.space.now c.in-Some.walk c.len-doorways.result _ h
    (subst (Told w shut c.args.a c.args.b f) c.in-Some.is told)
    (λ p e. g.met.S.Sharp.separates _ p c.in-Some.walk.line e)
    c.len-doorways.ensures.value
    (ap (λ (v : List ℕ). v ++ drop c.len-doorways.result c.args.space.now) (c.copy_from_slice.ensures.after ∙ c.as_slice.ensures.value))

pub returns-in-None-clause-value : goal.returns-in-None-clause-value
returns-in-None-clause-value g c =
    let t = c.args.self.now in
    let s = t.stabber in
    let w = meant g.M.Map g.S.Stabber t.map s in
    let shut = marks t.closed in
    let f = g.S.Sharp.line (asked_all g.S.Sharp.lined s (ahead (leads w c.args.b) (due w shut (only c.args.a) c.args.a [] []))) in
    let o = no_witness w c.args.a c.args.b (length c.args.space.now) in
    let n : c.room_count-rooms.result ≡ g.M.Map.rooms t.map = c.room_count-rooms.ensures in
    let some = g.met.M.Map.inhabited t.map in
    let h : o ≡ None = witness_free w c.args.a c.args.b (length c.args.space.now) (omega arith) (omega arith) c.if-a-b.false (omega arith) in
    let e : c.new-deck.result.map.now ≡ t.map = ap (λ b. b.now) c.new-deck.ensures.0 in
    let k : c.new-deck.result.shut.now ≡ t.closed = ap (λ b. b.now) c.new-deck.ensures.1 in
    let told : Told w shut c.args.a c.args.b f c.first_walk-found.result =
    subst₂ (λ (m : g.row.M.Denot) (xs : List Bool). let v = meant g.M.Map g.S.Stabber m s in Told v (marks xs) c.args.a c.args.b (g.S.Sharp.line (asked_all g.S.Sharp.lined s (ahead (leads v c.args.b) (due v (marks xs) (only c.args.a) c.args.a [] [])))) c.first_walk-found.result) e k c.first_walk-found.ensures.value in
    let none = subst (Told w shut c.args.a c.args.b f) c.in-None.is told in
    subst (λ (g : Option Refusal). Witnessed w shut c.args.a c.args.b f g (Err NoLine) c.args.space.now c.args.space.now) (sym h) (refl, none, refl)

pub returns-then-a-rooms-clause-order : goal.returns-then-a-rooms-clause-order
returns-then-a-rooms-clause-order g c =
    let t = c.args.self.now in
    searched (world_of g.M.Map g.S.Stabber t) (g.met.M.Map.inside t.map) (g.met.S.Stabber.prefix t.stabber) (g.met.S.Stabber.stabbed t.stabber) (marks t.closed) c.args.a

pub returns-then-a-b-clause-order : goal.returns-then-a-b-clause-order
returns-then-a-b-clause-order g c =
    let t = c.args.self.now in
    searched (world_of g.M.Map g.S.Stabber t) (g.met.M.Map.inside t.map) (g.met.S.Stabber.prefix t.stabber) (g.met.S.Stabber.stabbed t.stabber) (marks t.closed) c.args.a

pub returns-then-space-rooms-clause-order : goal.returns-then-space-rooms-clause-order
returns-then-space-rooms-clause-order g c =
    let t = c.args.self.now in
    searched (world_of g.M.Map g.S.Stabber t) (g.met.M.Map.inside t.map) (g.met.S.Stabber.prefix t.stabber) (g.met.S.Stabber.stabbed t.stabber) (marks t.closed) c.args.a

pub returns-in-Some-clause-order : goal.returns-in-Some-clause-order
returns-in-Some-clause-order g c =
    let t = c.args.self.now in
    searched (world_of g.M.Map g.S.Stabber t) (g.met.M.Map.inside t.map) (g.met.S.Stabber.prefix t.stabber) (g.met.S.Stabber.stabbed t.stabber) (marks t.closed) c.args.a

pub returns-in-None-clause-order : goal.returns-in-None-clause-order
returns-in-None-clause-order g c =
    let t = c.args.self.now in
    searched (world_of g.M.Map g.S.Stabber t) (g.met.M.Map.inside t.map) (g.met.S.Stabber.prefix t.stabber) (g.met.S.Stabber.stabbed t.stabber) (marks t.closed) c.args.a
