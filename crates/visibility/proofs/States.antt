-- Calls that are refused, and calls that are granted.
use Rattle.std.proofs.Common.{◌≡◌, ℕ, zero, suc, ◌+◌, ◌-◌, ◌<◌, ◌≤◌, Bool, true, false, cond, eqb, ltb, List, [], ◌∷◌, length, get_or, set, Some, None, Ok, Err, Option, sym, refl, ap, ◌∙◌, subst, ⊎_elim, arith}
use mathlib.Core.Path.{fun_ext}
use mathlib.Core.Bool.{beq}
use Rattle.std.specs.List.{slice_get}
use Rattle.std.proofs.lemmas.List.{get_or-set_same, get_or-set_other}
use Rattle.std.proofs.lemmas.Option.{slice_get_past}
use Rattle.std.proofs.lemmas.Bool.{cases_Bool, cases_eq, cases_lt, lt-ltb, le-ltb, eq-eqb, ne_eqb, cond-true, cond-false}
use Rattle.visibility.specs.declared.refusal.Refusal.{Refusal}
use Rattle.visibility.specs.declared.refusal.Refusal.TheVariants.{NoSuchRoom, NoSuchDoorway, Already}
use Rattle.visibility.specs.Limits.{most_rooms}
use Rattle.visibility.specs.Sets.{Numbers, marks, with, number, Exactly}
use Rattle.visibility.specs.States.{State, ByGround, place, no_room, no_turn, Fills}
use Rattle.visibility.specs.Walks.{TrueRow}
use Rattle.visibility.specs.Worlds.{World, Inside}
use Rattle.visibility.proofs.Fillings.{walk_inside}
use Rattle.visibility.proofs.Numbers.{number_wide}

module _ {X : Type 0} (o : Option Refusal) (s t : State) (P : X → Type 0) where
  pub refused : (e : Refusal) → o ≡ Some e → t ≡ s → ByGround o (Err e) s t P
  refused e h same = subst (λ (v : Option Refusal). ByGround v (Err e) s t P) (sym h) (refl, same)

  pub granted : (x : X) → o ≡ None → P x → ByGround o (Ok x) s t P
  granted x h p = subst (λ (v : Option Refusal). ByGround v (Ok x) s t P) (sym h) p

pub true_row_inside : (w : World) → Inside w → (shut : Numbers) (a b : ℕ) → a < w.rooms → TrueRow w shut a b → b < w.rooms
true_row_inside w inside shut a b l t = walk_inside w inside a t.0 b t.1 l t.2

-- all bits of a true row count its rooms
count_rooms :
    (w : World) → Inside w → w.rooms ≤ most_rooms → (shut : Numbers) (a : ℕ) (r : Numbers)
    → a < w.rooms → Exactly r (TrueRow w shut a) → number most_rooms r ≡ number w.rooms r
count_rooms w inside few shut a r l h =
    let d : ℕ = most_rooms - w.rooms in
    let z : most_rooms ≡ d + w.rooms = omega arith in
    ap (λ n. number n r) z
    ∙ number_wide w.rooms d r
    (λ x past. ⊎_elim
    (λ (t : r x ≡ true). let i = true_row_inside w inside shut a x l ((h x).0 t) in absurd (omega arith))
    (λ (f : r x ≡ false). f)
    (cases_Bool (r x)))

pub fill_refused : (w : World) (a : ℕ) → w.rooms ≤ a → no_room w a ≡ Some NoSuchRoom
fill_refused w a h = cond-false (ltb a w.rooms) _ _ (le-ltb a w.rooms h)

pub fill_granted :
    (w : World) → Inside w → w.rooms ≤ most_rooms → (s t : State) (a n : ℕ) (r : Numbers) → a < w.rooms
    → t.shut ≡ s.shut → t.filled ≡ with s.filled a
    → ((x : ℕ) → (x ≡ a → ⊥) → t.shows x ≡ s.shows x)
    → t.shows a ≡ r → Exactly r (TrueRow w s.shut a) → n ≡ number most_rooms r
    → ByGround (no_room w a) (Ok n) s t (Fills w s a t)
fill_granted w inside few s t a n r l hs hf ho hr exact hn =
    granted (no_room w a) s t (Fills w s a t) n (cond-true (ltb a w.rooms) _ _ (lt-ltb a w.rooms l))
    record {
      shut = hs;
      filled = hf;
      other = ho;
      true_row = subst (λ (v : Numbers). Exactly v (TrueRow w s.shut a)) (sym hr) exact;
      count = hn ∙ count_rooms w inside few s.shut a r l exact ∙ ap (number w.rooms) (sym hr);
    }

pub nth_none : {X : Type 0} (xs : List X) (k : ℕ) → slice_get xs k ≡ None → length xs ≤ k
nth_none [] k h = omega arith
nth_none (x ∷ xs) zero h = let z : ◌≡◌ {A = ℕ} 0 1 = cc in absurd (omega arith)
nth_none (x ∷ xs) (suc k) h = let l = nth_none xs k h in omega arith

pub nth_some : {X : Type 0} (xs : List X) (k : ℕ) (x : X) → slice_get xs k ≡ Some x → k < length xs
nth_some xs k x h =
    ⊎_elim
    (λ (l : k < length xs). l)
    (λ (past : length xs ≤ k).
    let gone : None ≡ Some x = sym (slice_get_past xs k past) ∙ h in
    let z : ◌≡◌ {A = ℕ} 0 1 = cc in
    absurd (omega arith))
    (cases_lt k (length xs))

pub marks_place : (xs : List Bool) (k : ℕ) (v : Bool) → k < length xs → marks (set xs k v) ≡ place (marks xs) k v
marks_place xs k v l =
    fun_ext
    (λ x. ⊎_elim
    (λ (e : x ≡ k).
    subst (λ (y : ℕ). get_or (set xs k v) y false ≡ cond (eqb y k) v (get_or xs y false)) (sym e)
    (get_or-set_same xs k v false l ∙ sym (cond-true (eqb k k) _ _ (eq-eqb k k refl))))
    (λ (ne : x ≡ k → ⊥). get_or-set_other xs k x v false ne ∙ sym (cond-false (eqb x k) _ _ (ne_eqb x k ne)))
    (cases_eq x k))

pub turn_missing : (w : World) (s : State) (k : ℕ) (v : Bool) → length w.doorways ≤ k → no_turn w s k v ≡ Some NoSuchDoorway
turn_missing w s k v h = cond-false (ltb k (length w.doorways)) _ _ (le-ltb k (length w.doorways) h)

module _ (w : World) (s : State) (k : ℕ) (v : Bool) (l : k < length w.doorways) where
  pub turn_already : beq (s.shut k) v ≡ true → no_turn w s k v ≡ Some Already
  turn_already h =
      cond-true (ltb k (length w.doorways)) _ _ (lt-ltb k (length w.doorways) l) ∙ cond-true (beq (s.shut k) v) _ _ h

  pub turn_free : beq (s.shut k) v ≡ false → no_turn w s k v ≡ None
  turn_free h =
      cond-true (ltb k (length w.doorways)) _ _ (lt-ltb k (length w.doorways) l) ∙ cond-false (beq (s.shut k) v) _ _ h
