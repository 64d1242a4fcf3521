-- The step that computes is the step of a walk.
use Rattle.std.proofs.Common.{◌≡◌, ℕ, zero, suc, ◌<◌, Bool, true, false, cond, eqb, List, [], ◌∷◌, Some, None, Option, unwrap_or, sym, refl, ap, ◌∙◌, subst, inl, inr, ⊎_elim, arith}
use Rattle.std.specs.List.{slice_get, AllByRecursion}
use Rattle.std.proofs.lemmas.Bool.{cases_Bool, eqb-true, eq-eqb, ne_eqb, cond-true, cond-false}
use Rattle.plane.specs.declared.quad.Quad.{Quad}
use Rattle.maps.specs.declared.doorway.Doorway.{Doorway}
use Rattle.visibility.specs.Sets.{Numbers}
use Rattle.visibility.specs.Worlds.{World, Inside}
use Rattle.visibility.specs.Walks.{Leaves, Follows, forward, backward}
use Rattle.visibility.specs.Steps.{leave, fresh, through, onward}

pub all_nth : {X : Type 0} (P : X → Type 0) (xs : List X) (k : ℕ) (x : X) → AllByRecursion P xs → slice_get xs k ≡ Some x → P x
all_nth P [] k x h e = let z : ◌≡◌ {A = ℕ} 0 1 = cc in absurd (omega arith)
all_nth P (y ∷ ys) zero x h e = let z : y ≡ x = cc in subst P z h.0
all_nth P (y ∷ ys) (suc k) x h e = all_nth P ys k x h.1 e

never : {X : Type 0} {Y : Type 0} (x : X) → None ≡ Some x → Y
never x e = let z : ◌≡◌ {A = ℕ} 0 1 = cc in absurd (omega arith)

unless_parts : {X : Type 0} (t : Bool) (o : Option X) (x : X) → cond t None o ≡ Some x → (t ≡ false) × (o ≡ Some x)
unless_parts true o x h = never x h
unless_parts false o x h = (refl, h)

fresh_parts : (e : Numbers) (o : Option (ℕ × Quad)) (s : ℕ × Quad) → fresh e o ≡ Some s → (o ≡ Some s) × (e s.0 ≡ false)
fresh_parts e None s h = never s h
fresh_parts e (Some r) s h =
    let u = unless_parts (e r.0) (Some r) s h in
    let same : r ≡ s = ap (λ (o : Option (ℕ × Quad)). unwrap_or o r) u.1 in
    (u.1, subst (λ (x : ℕ × Quad). e x.0 ≡ false) same u.0)

through_parts :
    (e : Numbers) (a : ℕ) (o : Option Doorway) (s : ℕ × Quad)
    → through e a o ≡ Some s → (d : Doorway) × (o ≡ Some d) × (fresh e (leave d a) ≡ Some s)
through_parts e a None s h = never s h
through_parts e a (Some d) s h = (d, refl, h)

-- a doorway that leaves a room is near or far to it
leave_leaves : (d : Doorway) (a b : ℕ) (q : Quad) → leave d a ≡ Some (b, q) → Leaves d a b q
leave_leaves d a b q h =
    ⊎_elim
    (λ (t : eqb d.near a ≡ true).
    let s : (d.far, forward d) ≡ (b, q) =
    ap (λ (o : Option (ℕ × Quad)). unwrap_or o (b, q)) (sym (cond-true (eqb d.near a) _ _ t) ∙ h) in
    inl (eqb-true _ _ t, ap (λ (x : ℕ × Quad). x.0) s, sym (ap (λ (x : ℕ × Quad). x.1) s)))
    (λ (f : eqb d.near a ≡ false).
    let u = unless_far d a (b, q) (sym (cond-false (eqb d.near a) _ _ f) ∙ h) in
    inr (eqb-true _ _ u.0, ap (λ (x : ℕ × Quad). x.0) u.1, sym (ap (λ (x : ℕ × Quad). x.1) u.1)))
    (cases_Bool (eqb d.near a))
  where
    unless_far :
        (d : Doorway) (a : ℕ) (s : ℕ × Quad) → cond (eqb d.far a) (Some (d.near, backward d)) None ≡ Some s
        → (eqb d.far a ≡ true) × ((d.near, backward d) ≡ s)
    unless_far d a s h =
        ⊎_elim
        (λ (t : eqb d.far a ≡ true).
        (t, ap (λ (o : Option (ℕ × Quad)). unwrap_or o s) (sym (cond-true (eqb d.far a) _ _ t) ∙ h)))
        (λ (f : eqb d.far a ≡ false). never s (sym (cond-false (eqb d.far a) _ _ f) ∙ h))
        (cases_Bool (eqb d.far a))

leaves_leave : (d : Doorway) (a b : ℕ) (q : Quad) → Leaves d a b q → leave d a ≡ Some (b, q)
leaves_leave d a b q h =
    ⊎_elim
    (λ (l : (d.near ≡ a) × (d.far ≡ b) × (q ≡ forward d)).
    let t = eq-eqb d.near a l.0 in
    cond-true (eqb d.near a) _ _ t ∙ ap (λ x. Some (x, forward d)) l.1 ∙ ap (λ x. Some (b, x)) (sym l.2))
    (λ (r : (d.far ≡ a) × (d.near ≡ b) × (q ≡ backward d)).
    let f = ne_eqb d.near a (λ (e : d.near ≡ a). d.apart (e ∙ sym r.0)) in
    let t = eq-eqb d.far a r.0 in
    cond-false (eqb d.near a) _ _ f ∙ cond-true (eqb d.far a) _ _ t
    ∙ ap (λ x. Some (x, backward d)) r.1 ∙ ap (λ x. Some (b, x)) (sym r.2))
    h

-- the two say the same
pub step_follows :
    (w : World) (shut e : Numbers) (a k b : ℕ) (q : Quad)
    → onward w.doorways shut e a k ≡ Some (b, q) → (shut k ≡ false) × Follows w e a k b q
step_follows w shut e a k b q h =
    let u = unless_parts (shut k) (through e a (slice_get w.doorways k)) (b, q) h in
    let v = through_parts e a (slice_get w.doorways k) (b, q) u.1 in
    let f = fresh_parts e (leave v.0 a) (b, q) v.2 in
    (u.0, (v.0, v.1, leave_leaves v.0 a b q f.0, f.1))

pub follows_step :
    (w : World) (shut e : Numbers) (a k b : ℕ) (q : Quad)
    → shut k ≡ false → Follows w e a k b q → onward w.doorways shut e a k ≡ Some (b, q)
follows_step w shut e a k b q o f =
    cond-false (shut k) _ _ o
    ∙ ap (through e a) f.1
    ∙ ap (fresh e) (leaves_leave f.0 a b q f.2)
    ∙ cond-false (e b) _ _ f.3

-- and the step stays in the world
pub follows_inside : (w : World) (e : Numbers) (a k b : ℕ) (q : Quad) → Inside w → Follows w e a k b q → b < w.rooms
follows_inside w e a k b q inside f =
    let within = all_nth _ w.doorways k f.0 inside f.1 in
    ⊎_elim
    (λ (l : (f.0.near ≡ a) × (f.0.far ≡ b) × (q ≡ forward f.0)). subst (λ x. x < w.rooms) l.1 within.1)
    (λ (r : (f.0.far ≡ a) × (f.0.near ≡ b) × (q ≡ backward f.0)). subst (λ x. x < w.rooms) r.1 within.0)
    f.2

pub leave_inside :
    (n : ℕ) (d : Doorway) (a b : ℕ) (q : Quad) → (d.near < n) × (d.far < n) → leave d a ≡ Some (b, q) → b < n
leave_inside n d a b q h e =
    ⊎_elim
    (λ (l : (d.near ≡ a) × (d.far ≡ b) × (q ≡ forward d)). subst (λ x. x < n) l.1 h.1)
    (λ (r : (d.far ≡ a) × (d.near ≡ b) × (q ≡ backward d)). subst (λ x. x < n) r.1 h.0)
    (leave_leaves d a b q e)
