-- The rooms that the due questions show are the true row.
use Rattle.std.proofs.Common.{◌≡◌, ℕ, zero, suc, ◌<◌, ◌≤◌, Bool, true, false, cond, eqb, ◌⊎◌, List, [], ◌∷◌, ◌++◌, length, pos, Some, None, Option, sym, refl, ap, ◌∙◌, subst, ap₂, inl, inr, ⊎_elim, arith}
use Rattle.std.specs.List.{range_with_len}
use Rattle.std.proofs.lemmas.List.{append-nil, append_assoc}
use Rattle.std.proofs.lemmas.Option.{slice_get_past}
use Rattle.std.proofs.lemmas.Bool.{cases_Bool, cases_lt, eqb-true, eq-eqb, or_cases, or_left, or_right}
use Rattle.plane.specs.declared.quad.Quad.{Quad}
use Rattle.plane.specs.Limits.{Path}
use Rattle.plane.specs.Separation.{Stabbed}
use Rattle.visibility.specs.Sets.{Numbers, none, only, with, free}
use Rattle.visibility.specs.Worlds.{World, Inside, Lawful}
use Rattle.visibility.specs.Walks.{Follows, Goes, Walk, Open, TrueRow}
use Rattle.visibility.specs.Steps.{onward}
use Rattle.visibility.specs.Questions.{Rest, tried, rest, due, shown_all}
use Rattle.visibility.specs.Trips.{Trip}
use Rattle.visibility.specs.Orders.{In, without_last}
use Rattle.visibility.proofs.Members.{in_joined, joined_in, in_counting}
use Rattle.visibility.proofs.Numbers.{free_with}
use Rattle.visibility.proofs.Questions.{trip}
use Rattle.visibility.proofs.Steps.{step_follows, follows_step, follows_inside}

-- what is shown was shown before, or a walk that is let through leads there
pub shown_in :
    (w : World) (r : Numbers) (ts : List Trip) (b : ℕ) → shown_all w r ts b ≡ true
    → (r b ≡ true) ⊎ ((t : Trip) × In t ts × (w.lets t.path ≡ true) × (t.room ≡ b))
shown_in w r [] b h = inl h
shown_in w r (t ∷ ts) b h =
    ⊎_elim
    (λ (before : cond (w.lets t.path) (with r t.room) r b ≡ true).
    ⊎_elim
    (λ (y : w.lets t.path ≡ true).
    ⊎_elim
    (λ (e : eqb b t.room ≡ true). inr (t, inl refl, y, sym (eqb-true _ _ e)))
    (λ (o : r b ≡ true). inl o)
    (or_cases (eqb b t.room) (r b) (subst (λ (c : Bool). cond c (with r t.room) r b ≡ true) y before)))
    (λ (n : w.lets t.path ≡ false). inl (subst (λ (c : Bool). cond c (with r t.room) r b ≡ true) n before))
    (cases_Bool (w.lets t.path)))
    (λ (s : (t : Trip) × In t ts × (w.lets t.path ≡ true) × (t.room ≡ b)). inr (s.0, inr s.1, s.2, s.3))
    (shown_in w (cond (w.lets t.path) (with r t.room) r) ts b h)

pub shown_kept : (w : World) (r : Numbers) (ts : List Trip) (b : ℕ) → r b ≡ true → shown_all w r ts b ≡ true
shown_kept w r [] b h = h
shown_kept w r (t ∷ ts) b h =
    shown_kept w (cond (w.lets t.path) (with r t.room) r) ts b
    (⊎_elim
    (λ (y : w.lets t.path ≡ true).
    subst (λ (c : Bool). cond c (with r t.room) r b ≡ true) (sym y) (or_right (eqb b t.room) (r b) h))
    (λ (n : w.lets t.path ≡ false). subst (λ (c : Bool). cond c (with r t.room) r b ≡ true) (sym n) h)
    (cases_Bool (w.lets t.path)))

pub in_shown :
    (w : World) (r : Numbers) (ts : List Trip) (t : Trip) → In t ts → w.lets t.path ≡ true
    → shown_all w r ts t.room ≡ true
in_shown w r [] t h y = absurd h
in_shown w r (u ∷ ts) t h y =
    ⊎_elim
    (λ (e : u ≡ t).
    subst (λ (v : Trip). shown_all w r (v ∷ ts) t.room ≡ true) (sym e)
    (shown_kept w (cond (w.lets t.path) (with r t.room) r) ts t.room
    (subst (λ (c : Bool). cond c (with r t.room) r t.room ≡ true) (sym y)
    (or_left (eqb t.room t.room) (r t.room) (eq-eqb _ _ refl)))))
    (λ (m : In t ts). in_shown w (cond (w.lets u.path) (with r u.room) r) ts t m y)
    h

-- the front of a path that is let through is let through
pub lets_front : (w : World) → Lawful w → (p s : List Quad) → w.lets (p ++ s) ≡ true → w.lets p ≡ true
lets_front w lawful p [] h = subst (λ (v : List Quad). w.lets v ≡ true) (append-nil p) h
lets_front w lawful p (q ∷ s) h =
    lawful p q
    (lets_front w lawful (p ++ q ∷ []) s (subst (λ (v : List Quad). w.lets v ≡ true) (sym (append_assoc p (q ∷ []) s)) h))

-- a question is about an open walk whose part before the last doorway is let through
abbrev pub Continues : World → Numbers → Numbers → ℕ → List ℕ → List Quad → Trip → Type 0
Continues w shut e a ks p t =
    (k : ℕ) × (js : List ℕ) × (q : Quad) × (s : List Quad)
    × Goes w e a (k ∷ js) t.room (q ∷ s) × Open shut (k ∷ js)
    × (t.doors ≡ ks ++ k ∷ js) × (t.path ≡ p ++ q ∷ s) × (w.lets (p ++ without_last (q ∷ s)) ≡ true)

tried_continues :
    (w : World) (shut : Numbers) (r : Rest)
    (ih : (e : Numbers) (a : ℕ) (ks : List ℕ) (p : List Quad) (t : Trip) → w.lets p ≡ true → In t (r e a ks p) → Continues w shut e a ks p t)
    (e : Numbers) (a : ℕ) (ks : List ℕ) (p : List Quad) (t : Trip) (k : ℕ) (o : Option (ℕ × Quad)) → w.lets p ≡ true
    → o ≡ onward w.doorways shut e a k → In t (tried w r e ks p k o)
    → (c : Continues w shut e a ks p t) × (c.0 ≡ k)
tried_continues w shut r ih e a ks p t k None before o h = absurd h
tried_continues w shut r ih e a ks p t k (Some (b, q)) before o h =
    let f = step_follows w shut e a k b q (sym o) in
    let more = λ (v : Bool). In t (cond v (r (with e b) b (ks ++ k ∷ []) (p ++ q ∷ [])) []) in
    ⊎_elim
    (λ (here : trip ks k p b q ≡ t).
    subst (λ (u : Trip). (c : Continues w shut e a ks p u) × (c.0 ≡ k)) here
    ((k, [], q, [], (b, f.1, refl), (f.0, tt), refl, refl, subst (λ (v : List Quad). w.lets v ≡ true) (sym (append-nil p)) before), refl))
    (λ (later : more (w.lets (p ++ q ∷ []))).
    ⊎_elim
    (λ (y : w.lets (p ++ q ∷ []) ≡ true).
    let m = ih (with e b) b (ks ++ k ∷ []) (p ++ q ∷ []) t y (subst more y later) in (
      (
        k,
        m.0 ∷ m.1,
        q,
        m.2 ∷ m.3,
        (b, f.1, m.4),
        (f.0, m.5),
        m.6 ∙ append_assoc ks (k ∷ []) (m.0 ∷ m.1),
        m.7 ∙ append_assoc p (q ∷ []) (m.2 ∷ m.3),
        subst (λ (v : List Quad). w.lets v ≡ true) (append_assoc p (q ∷ []) (without_last (m.2 ∷ m.3))) m.8,
      ),
      refl,
    ))
    (λ (no_way : w.lets (p ++ q ∷ []) ≡ false). absurd (subst more no_way later))
    (cases_Bool (w.lets (p ++ q ∷ []))))
    h

pub rest_continues :
    (w : World) (shut : Numbers) (n : ℕ) (e : Numbers) (a : ℕ) (ks : List ℕ) (p : List Quad) (t : Trip) → w.lets p ≡ true
    → In t (rest w shut n e a ks p) → Continues w shut e a ks p t
unfolding rest
rest_continues w shut zero e a ks p t before h = absurd h
rest_continues w shut (suc n) e a ks p t before h =
    let m = joined_in _ t (range_with_len 0 (length w.doorways)) h in
    (tried_continues w shut (rest w shut n) (rest_continues w shut n) e a ks p t m.0 (onward w.doorways shut e a m.0) before refl m.2).0

-- the questions after one doorway begin with it
pub tried_begins :
    (w : World) (shut : Numbers) (n : ℕ) (e : Numbers) (a : ℕ) (ks : List ℕ) (p : List Quad) (t : Trip) (k : ℕ) → w.lets p ≡ true
    → In t (tried w (rest w shut n) e ks p k (onward w.doorways shut e a k)) → (js : List ℕ) × (t.doors ≡ ks ++ k ∷ js)
tried_begins w shut n e a ks p t k before h =
    let c = tried_continues w shut (rest w shut n) (rest_continues w shut n) e a ks p t k (onward w.doorways shut e a k) before refl h in
    (c.0.1, c.0.6 ∙ ap (λ (x : ℕ). ks ++ x ∷ c.0.1) c.1)

pub lets_shorter : (w : World) → Lawful w → (p s : List Quad) → w.lets (p ++ s) ≡ true → w.lets (p ++ without_last s) ≡ true
lets_shorter w lawful p [] h = h
lets_shorter w lawful p (q ∷ []) h = subst (λ (v : List Quad). w.lets v ≡ true) (sym (append-nil p)) (lawful p q h)
lets_shorter w lawful p (q ∷ r ∷ s) h =
    subst (λ (v : List Quad). w.lets v ≡ true) (append_assoc p (q ∷ []) (without_last (r ∷ s)))
    (lets_shorter w lawful (p ++ q ∷ []) (r ∷ s) (subst (λ (v : List Quad). w.lets v ≡ true) (sym (append_assoc p (q ∷ []) (r ∷ s))) h))

-- a doorway that may follow is one of the list
follows_below :
    (w : World) (e : Numbers) (a k b : ℕ) (q : Quad) → Follows w e a k b q → k < length w.doorways
follows_below w e a k b q f =
    ⊎_elim
    (λ (l : k < length w.doorways). l)
    (λ (past : length w.doorways ≤ k).
    let gone : None ≡ Some f.0 = sym (slice_get_past w.doorways k past) ∙ f.1 in
    let z : ◌≡◌ {A = ℕ} 0 1 = cc in
    absurd (omega arith))
    (cases_lt k (length w.doorways))

-- what follows a step that may be taken is due
follows_rest :
    (w : World) (shut : Numbers) (n : ℕ) (e : Numbers) (a : ℕ) (ks : List ℕ) (p : List Quad) (t : Trip) (k c : ℕ) (q : Quad)
    → shut k ≡ false → Follows w e a k c q → In t (tried w (rest w shut n) e ks p k (Some (c, q)))
    → In t (rest w shut (suc n) e a ks p)
unfolding rest
follows_rest w shut n e a ks p t k c q o f m =
    in_joined (λ j. tried w (rest w shut n) e ks p j (onward w.doorways shut e a j)) t (range_with_len 0 (length w.doorways)) k
    (in_counting 0 (length w.doorways) k (omega arith) (omega (arith, follows_below w e a k c q f)))
    (subst (λ (v : Option (ℕ × Quad)). In t (tried w (rest w shut n) e ks p k v)) (sym (follows_step w shut e a k c q o f)) m)

-- a question from its parts
abbrev made : List ℕ → ℕ → List Quad → Trip
made d b v = record { doors = d; room = b; path = v }

-- each open walk that is not empty, and let through up to its last doorway, is asked about
module _ (w : World) (inside : Inside w) (lawful : Lawful w) (shut : Numbers) where
  pub goes_rest :
      (n : ℕ) (e : Numbers) (a : ℕ) (ks : List ℕ) (p : List Quad) (k : ℕ) (js : List ℕ) (b : ℕ) (s : List Quad)
      → free w.rooms e ≤ n → Goes w e a (k ∷ js) b s → Open shut (k ∷ js) → w.lets (p ++ without_last s) ≡ true
      → In (made (ks ++ k ∷ js) b (p ++ s)) (rest w shut (suc n) e a ks p)
  goes_rest n e a ks p k js b [] l g o y = absurd g
  goes_rest n e a ks p k [] b (q ∷ []) l g o y =
      follows_rest w shut n e a ks p (made (ks ++ k ∷ []) b (p ++ q ∷ [])) k g.0 q o.0 g.1
      (inl (ap (λ (x : ℕ). made (ks ++ k ∷ []) x (p ++ q ∷ [])) g.2))
  goes_rest n e a ks p k [] b (q ∷ r ∷ s) l g o y = absurd g.2
  goes_rest n e a ks p k (j ∷ js) b (q ∷ []) l g o y = absurd g.2
  goes_rest zero e a ks p k (j ∷ js) b (q ∷ r ∷ s) l g o y =
      absurd (omega (arith, free_with w.rooms e g.0 (follows_inside w e a k g.0 q inside g.1) g.1.3))
  goes_rest (suc n) e a ks p k (j ∷ js) b (q ∷ r ∷ s) l g o y =
      let c = g.0 in
      let fewer = free_with w.rooms e c (follows_inside w e a k c q inside g.1) g.1.3 in
      let y' : w.lets ((p ++ q ∷ []) ++ without_last (r ∷ s)) ≡ true =
      subst (λ (v : List Quad). w.lets v ≡ true) (sym (append_assoc p (q ∷ []) (without_last (r ∷ s)))) y in
      let front : w.lets (p ++ q ∷ []) ≡ true = lets_front w lawful (p ++ q ∷ []) (without_last (r ∷ s)) y' in
      let m = goes_rest n (with e c) c (ks ++ k ∷ []) (p ++ q ∷ []) j js b (r ∷ s) (omega (arith, fewer)) g.2 o.1 y' in
      let same : made ((ks ++ k ∷ []) ++ j ∷ js) b ((p ++ q ∷ []) ++ r ∷ s) ≡ made (ks ++ k ∷ j ∷ js) b (p ++ q ∷ r ∷ s) =
      ap₂ (λ (d : List ℕ) (v : List Quad). made d b v) (append_assoc ks (k ∷ []) (j ∷ js)) (append_assoc p (q ∷ []) (r ∷ s)) in
      follows_rest w shut (suc n) e a ks p (made (ks ++ k ∷ j ∷ js) b (p ++ q ∷ r ∷ s)) k c q o.0 g.1
      (inr (subst (λ (v : Bool). In (made (ks ++ k ∷ j ∷ js) b (p ++ q ∷ r ∷ s)) (cond v (rest w shut (suc n) (with e c) c (ks ++ k ∷ []) (p ++ q ∷ [])) [])) (sym front)
      (subst (λ (t : Trip). In t (rest w shut (suc n) (with e c) c (ks ++ k ∷ []) (p ++ q ∷ []))) same m)))

  -- so the search from a room shows its true row
  pub shown_true :
      (a b : ℕ) (ks : List ℕ) → w.lets [] ≡ true
      → shown_all w (with none a) (due w shut (only a) a ks []) b ≡ true → TrueRow w shut a b
  unfolding rest
  shown_true a b ks empty h =
      ⊎_elim
      (λ (here : with none a b ≡ true).
      ⊎_elim
      (λ (e : eqb b a ≡ true). ([], [], sym (eqb-true _ _ e), tt, empty))
      (λ (no_way : false ≡ true). let z : ◌≡◌ {A = ℕ} 0 1 = cc in absurd (omega arith))
      (or_cases (eqb b a) false here))
      (λ (s : (t : Trip) × In t (due w shut (only a) a ks []) × (w.lets t.path ≡ true) × (t.room ≡ b)).
      let c = rest_continues w shut (suc (free w.rooms (only a))) (only a) a ks [] s.0 empty s.1 in (
        c.0 ∷ c.1,
        c.2 ∷ c.3,
        subst (λ (x : ℕ). Walk w a (c.0 ∷ c.1) x (c.2 ∷ c.3)) s.3 c.4,
        c.5,
        subst (λ (v : List Quad). w.lets v ≡ true) c.7 s.2,
      ))
      (shown_in w (with none a) (due w shut (only a) a ks []) b h)

  pub true_shown :
      (a b : ℕ) (ks : List ℕ) → TrueRow w shut a b
      → shown_all w (with none a) (due w shut (only a) a ks []) b ≡ true
  unfolding rest
  true_shown a b ks t = walk_shown a b ks t.0 t.1 t.2 t.3 t.4
    where
      walk_shown :
          (a b : ℕ) (ks js : List ℕ) (s : List Quad) → Walk w a js b s → Open shut js → w.lets s ≡ true
          → shown_all w (with none a) (due w shut (only a) a ks []) b ≡ true
      walk_shown a b ks [] [] g o y =
          shown_kept w (with none a) (due w shut (only a) a ks []) b (or_left (eqb b a) false (eq-eqb b a (sym g)))
      walk_shown a b ks [] (q ∷ s) g o y = absurd g
      walk_shown a b ks (k ∷ js) s g o y =
          let y' : w.lets (without_last s) ≡ true = lets_shorter w lawful [] s y in
          let m = goes_rest (free w.rooms (only a)) (only a) a ks [] k js b s (omega arith) g o y' in
          in_shown w (with none a) (due w shut (only a) a ks []) (made (ks ++ k ∷ js) b s) m y

-- every line separates the empty path, so it is let through
pub empty_let : (lets : List Quad → Bool) → ((p : List Quad) → Path p → Stabbed p → lets p ≡ true) → lets [] ≡ true
empty_let lets stabbed = stabbed [] (omega arith, tt) ((pos 1, pos 0, pos 0), (λ (e : pos 1 ≡ pos 0) _. let z : ◌≡◌ {A = ℕ} 0 1 = cc in absurd (omega arith)), tt)
