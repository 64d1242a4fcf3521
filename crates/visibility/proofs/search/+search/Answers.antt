use Rattle.std.proofs.Common.{◌≡◌, ◌+◌, ◌≤◌, Bool, true, false, List, [], ◌∷◌, ◌++◌, length, set, sym, refl, ap, ◌∙◌, arith}
use Rattle.std.proofs.lemmas.List.{length-set, length-append}
use Rattle.visibility.specs.declared.trail.Trail.{Trail}
use Rattle.visibility.specs.Sets.{marks, free}
use Rattle.visibility.specs.Trips.{Trip}
use Rattle.visibility.proofs.Turns.{turn_at, turn_ended, turn_none, turn_no, turn_yes, turn_fewer, turn_past}
use Rattle.visibility.proofs.search.+search.Invariants.{setting}
use Rattle.visibility.proofs.search.+search.Goals as goal
use Rattle.visibility.proofs.search.+search.Goals.{in-Some, then-visit, else-visit, in_default}

pub loop-k-init : goal.loop-k-init
loop-k-init g t c =
    let r = c.args.trail.now in
    let o = setting g c.args.deck.now.map.now c.args.deck.now.shut.now c.args.here c.args.stabber.now c.args.visitor.now r.entered r.doors.items r.path.items in
    (c.begin-k.ensures.1, turn_past o 0 c.begin-k.result _ _ _ _ _ (refl, refl, refl, refl, refl) c.begin-k.ensures)

pub step-requires : goal.step-requires
step-requires g t c =
    let r = c.args.trail.now in
    let o = setting g c.args.deck.now.map.now c.args.deck.now.shut.now c.args.here c.args.stabber.now c.args.visitor.now r.entered r.doors.items r.path.items in
    let k = c.loop-k.k in
    let s = c.loop-k.stabber in
    let v = c.loop-k.visitor in
    let x = c.loop-k.trail in
    let was = c.loop-k.invariant.1 in
    let long : g.M.Map.rooms c.args.deck.now.map.now ≤ length x.entered = omega (arith, ap length was.0, c.requires.entered) in
    let fewer = turn_fewer o k s v x.entered x.doors.items x.path.items was c.in-Some.room c.in-Some.quad c.in-Some.ensures long in
    (omega (arith, fewer, ap length was.1, c.requires.doors), omega (arith, fewer, ap length was.2, c.requires.path))

pub search-requires : goal.search-requires
search-requires g t c κs within =
    let r = c.args.trail.now in
    let o = setting g c.args.deck.now.map.now c.args.deck.now.shut.now c.args.here c.args.stabber.now c.args.visitor.now r.entered r.doors.items r.path.items in
    let k = c.loop-k.k in
    let s = c.loop-k.stabber in
    let v = c.loop-k.visitor in
    let x = c.loop-k.trail in
    let was = c.loop-k.invariant.1 in
    let n = g.M.Map.rooms c.args.deck.now.map.now in
    let b = c.in-Some.room in
    let long : n ≤ length x.entered = omega (arith, ap length was.0, c.requires.entered) in
    let fewer = turn_fewer o k s v x.entered x.doors.items x.path.items was b c.in-Some.quad c.in-Some.ensures long in
    let same = ap (λ (xs : List Bool). free n (marks (set xs b true))) c.step.ensures.entered in
    let wide : n ≤ length (set c.step.new.self.entered b true) = omega (arith, length-set c.step.new.self.entered b true, ap length c.step.ensures.entered) in
    let doors = ap length c.step.ensures.doors ∙ length-append x.doors.items (k ∷ []) in
    let path = ap length c.step.ensures.path ∙ length-append x.path.items (c.in-Some.quad ∷ []) in
    (omega (arith, fewer, same), (within.0, (within.1.0, (within.1.1, (wide, (omega (arith, fewer, same, doors, ap length was.1, c.requires.doors), (omega (arith, fewer, same, path, ap length was.2, c.requires.path), c.requires.index)))))))

pub loop-k-preserved : goal.loop-k-preserved
loop-k-preserved g t c =
    let r = c.args.trail.now in
    let o = setting g c.args.deck.now.map.now c.args.deck.now.shut.now c.args.here c.args.stabber.now c.args.visitor.now r.entered r.doors.items r.path.items in
    let k = c.loop-k.k in
    let s = c.loop-k.stabber in
    let v = c.loop-k.visitor in
    let x = c.loop-k.trail in
    let was = c.loop-k.invariant.1 in
    let at = turn_at o (k + 1) in
    let long : g.M.Map.rooms c.args.deck.now.map.now ≤ length x.entered = omega (arith, ap length was.0, c.requires.entered) in
    let more = sym c.has_ended.ensures ∙ c.if-has_ended.false in (
      c.after-k.ensures.1,
      turn_past o (k + 1) c.after-k.result _ _ _ _ _ (elim c.match-onward.branch [
        | in-Some w ↦
            let walk : Trip = record { doors = w.as_slice.result.now; room = w.in-Some.room; path = w.as_slice-in-Some.result.now } in
            let doors : walk.doors ≡ x.doors.items ++ k ∷ [] = w.as_slice.ensures.value ∙ w.step.ensures.doors in
            let path : walk.path ≡ x.path.items ++ w.in-Some.quad ∷ [] = w.as_slice-in-Some.ensures.value ∙ w.step.ensures.path in
            elim w.if-visit.branch [
              | then-visit y ↦
                  let b = w.in-Some.room in
                  let entered : set w.step.new.self.entered b true ≡ set x.entered b true = ap (λ (xs : List Bool). set xs b true) w.step.ensures.entered in
                  let back : y.search.new.trail.entered ≡ set w.step.new.self.entered b true = ap (λ (z : Trail). z.entered) y.search.ensures.trail in
                  at _ _ _ _ _ _ _ _ _ _ (w.stabber-is ∙ y.stabber-is) (w.visitor-is ∙ y.visitor-is)
                  (ap (λ (z : Trail). z.entered) w.trail-is ∙ w.back.ensures.entered ∙ ap (λ (z : Trail). z.entered) y.trail-is ∙ ap (λ (xs : List Bool). set xs b false) back)
                  (ap (λ (z : Trail). z.doors.items) w.trail-is ∙ w.back.ensures.doors x.doors.items k (ap (λ (z : Trail). z.doors.items) y.trail-is ∙ ap (λ (z : Trail). z.doors.items) y.search.ensures.trail ∙ w.step.ensures.doors))
                  (ap (λ (z : Trail). z.path.items) w.trail-is ∙ w.back.ensures.path x.path.items w.in-Some.quad (ap (λ (z : Trail). z.path.items) y.trail-is ∙ ap (λ (z : Trail). z.path.items) y.search.ensures.trail ∙ w.step.ensures.path))
                  (turn_yes o k s v x.entered x.doors.items x.path.items was b w.in-Some.quad w.in-Some.ensures more walk doors refl path
                  long (sym w.visit.ensures.value ∙ y.if-visit.true)
                  w.visit.new.stabber y.search.new.stabber w.visit.new.self y.search.new.visitor (set w.step.new.self.entered b true) w.step.new.self.doors.items w.step.new.self.path.items
                  w.visit.ensures.stabber w.visit.ensures.after entered w.step.ensures.doors w.step.ensures.path
                  y.search.ensures.lets y.search.ensures.toured)
              | else-visit y ↦
                  at _ _ _ _ _ _ _ _ _ _ (w.stabber-is ∙ y.stabber-is ∙ w.visit.ensures.stabber) (w.visitor-is ∙ y.visitor-is ∙ w.visit.ensures.after)
                  (ap (λ (z : Trail). z.entered) w.trail-is ∙ w.back.ensures.entered ∙ ap (λ (z : Trail). z.entered) y.trail-is ∙ w.step.ensures.entered)
                  (ap (λ (z : Trail). z.doors.items) w.trail-is ∙ w.back.ensures.doors x.doors.items k (ap (λ (z : Trail). z.doors.items) y.trail-is ∙ w.step.ensures.doors))
                  (ap (λ (z : Trail). z.path.items) w.trail-is ∙ w.back.ensures.path x.path.items w.in-Some.quad (ap (λ (z : Trail). z.path.items) y.trail-is ∙ w.step.ensures.path))
                  (turn_no o k s v x.entered x.doors.items x.path.items was w.in-Some.room w.in-Some.quad w.in-Some.ensures more walk doors refl path
                  (sym w.visit.ensures.value ∙ y.if-visit.false))
            ]
        | in_default w ↦
            at _ _ _ _ _ _ _ _ _ _ w.stabber-is w.visitor-is (ap (λ (z : Trail). z.entered) w.trail-is) (ap (λ (z : Trail). z.doors.items) w.trail-is) (ap (λ (z : Trail). z.path.items) w.trail-is)
            (turn_none o k s v x.entered x.doors.items x.path.items was w.in_default.ensures)
      ]) c.after-k.ensures,
    )

pub returns-then-has_ended-clause-toured : goal.returns-then-has_ended-clause-toured
returns-then-has_ended-clause-toured g t c =
    let r = c.args.trail.now in
    let o = setting g c.args.deck.now.map.now c.args.deck.now.shut.now c.args.here c.args.stabber.now c.args.visitor.now r.entered r.doors.items r.path.items in
    let k = c.loop-k.k in
    let s = c.loop-k.stabber in
    let v = c.loop-k.visitor in
    let x = c.loop-k.trail in
    let was = c.loop-k.invariant.1 in
    turn_ended o k s v x.entered x.doors.items x.path.items was (sym c.has_ended.ensures ∙ c.if-has_ended.true) (length (g.M.Map.doorways c.args.deck.now.map.now)) (omega arith)
