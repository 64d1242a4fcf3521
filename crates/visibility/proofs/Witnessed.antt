-- The search for a room ends at the first due walk that leads there, and that is the first walk of all.
use Rattle.std.proofs.Common.{◌≡◌, IfSome, ℕ, ◌<◌, Bool, true, false, eqb, ◌⊎◌, List, [], ◌∷◌, length, is_some, Some, None, fold, Option, sym, refl, ap, ◌∙◌, subst, inl, inr, ⊎_elim, arith}
use mathlib.Core.Path.{fun_ext}
use Rattle.std.proofs.lemmas.Bool.{cases_Bool, cond-true, cond-false, eqb-true, eq-eqb, and_parts, and_from, and_left, and_right, true≢false}
use Rattle.plane.specs.First.{first}
use Rattle.plane.specs.declared.quad.Quad.{Quad}
use Rattle.plane.specs.Separation.{Coefficients}
use Rattle.visibility.specs.declared.quest.Found.{Found}
use Rattle.visibility.specs.declared.quest.Quest.{Quest}
use Rattle.visibility.specs.Orders.{In, Before, Rising, InOrder}
use Rattle.visibility.specs.Questions.{visited, toured, asked_all}
use Rattle.visibility.specs.Quests.{kept, quested}
use Rattle.visibility.specs.Sets.{Numbers}
use Rattle.visibility.specs.Trips.{Trip}
use Rattle.visibility.specs.Walks.{Walk, Open, TrueRow}
use Rattle.visibility.specs.Witnesses.{leads, ahead, until, FirstWalk, Told}
use Rattle.visibility.specs.Worlds.{World, Inside, Lawful}
use Rattle.visibility.proofs.Paths.{walk_short}
use Rattle.visibility.proofs.Questions.{ended_stays}
use Rattle.visibility.proofs.TrueRows.{lets_shorter}

module _ {S : Type 0} (lets : S → List Quad → Bool) (lined : S → List Quad → S) (line : S → List Quad → Option Coefficients) (sharp : (s : S) (p : List Quad) → is_some (line s p) ≡ lets s p) (steady : (s : S) (p q : List Quad) → lets (lined s p) q ≡ lets s q) (w : World) where
  abbrev told : Quest → S → Trip → Quest
  told v s t = quested v (line s t.path) t

  abbrev ended : Quest → Bool
  ended v = is_some v.found

  -- how the search ends: no walk leads to the goal, or the first that does is kept
  pub record Missed (s : S) (v : Quest) (ts : List Trip) : Type 0 where
    pub none : first (leads w v.goal) ts ≡ None
    pub after : toured lined told ended s v ts ≡ (asked_all lined s (until (leads w v.goal) ts), v)

  pub record Caught (s : S) (v : Quest) (ts : List Trip) : Type 0 where
    pub trip : Trip
    pub line_is : Coefficients
    pub found : first (leads w v.goal) ts ≡ Some trip
    pub its_line : line (asked_all lined s (ahead (leads w v.goal) ts)) trip.path ≡ Some line_is
    pub after : toured lined told ended s v ts ≡ (asked_all lined s (until (leads w v.goal) ts), kept v line_is trip.doors)

  module _ (s : S) (v : Quest) (t : Trip) (ts : List Trip) (fresh : v.found ≡ None) where
    abbrev f : Trip → Bool
    f = leads w v.goal

    -- what the visit leaves
    visit : visited lined told ended (s, v) t ≡ (lined s t.path, told v s t)
    visit = cond-false (ended v) (s, v) (lined s t.path, told v s t) (ap is_some fresh)

    -- a walk that does not lead to the goal
    passed :
        told v s t ≡ v → f t ≡ false → Missed (lined s t.path) v ts ⊎ Caught (lined s t.path) v ts
        → Missed s v (t ∷ ts) ⊎ Caught s v (t ∷ ts)
    passed still no_way next =
        let go : toured lined told ended s v (t ∷ ts) ≡ toured lined told ended (lined s t.path) v ts =
        ap (λ (x : S × Quest). fold (visited lined told ended) x ts) (visit ∙ ap (λ (y : Quest). (lined s t.path, y)) still) in
        let one : first f (t ∷ ts) ≡ first f ts = cond-false (f t) (Some t) (first f ts) no_way in
        let asks : asked_all lined (lined s t.path) (until f ts) ≡ asked_all lined s (until f (t ∷ ts)) =
        sym (ap (λ (us : List Trip). asked_all lined s (t ∷ us)) (cond-false (f t) [] (until f ts) no_way)) in
        ⊎_elim
        (λ (m : Missed (lined s t.path) v ts). inl (record {
          none = one ∙ m.none;
          after = go ∙ m.after ∙ ap (λ (x : S). (x, v)) asks;
        }))
        (λ (c : Caught (lined s t.path) v ts). inr (record {
          trip = c.trip;
          line_is = c.line_is;
          found = one ∙ c.found;
          its_line = ap (λ (us : List Trip). line (asked_all lined s us) c.trip.path) (cond-false (f t) [] (t ∷ ahead f ts) no_way) ∙ c.its_line;
          after = go ∙ c.after ∙ ap (λ (x : S). (x, kept v c.line_is c.trip.doors)) asks;
        }))
        next

    -- a walk that does
    caught : (l : Coefficients) → line s t.path ≡ Some l → told v s t ≡ kept v l t.doors → f t ≡ true → Caught s v (t ∷ ts)
    caught l found keep yes_way = record {
      trip = t;
      line_is = l;
      found = cond-true (f t) (Some t) (first f ts) yes_way;
      its_line = ap (λ (us : List Trip). line (asked_all lined s us) t.path) (cond-true (f t) [] (t ∷ ahead f ts) yes_way) ∙ found;
      after =
          ap (λ (x : S × Quest). fold (visited lined told ended) x ts) (visit ∙ ap (λ (y : Quest). (lined s t.path, y)) keep)
          ∙ ended_stays lined told ended (lined s t.path, kept v l t.doors) ts refl
          ∙ ap (λ (us : List Trip). (asked_all lined s (t ∷ us), kept v l t.doors)) (sym (cond-true (f t) [] (until f ts) yes_way));
    }

  pub quest_toured :
      (s : S) (v : Quest) (ts : List Trip) → w.lets ≡ lets s → v.found ≡ None → Missed s v ts ⊎ Caught s v ts
  quest_toured s v [] same fresh = inl (record { none = refl; after = refl })
  quest_toured s v (t ∷ ts) same fresh =
      by_line (quest_toured (lined s t.path) v ts (same ∙ sym (fun_ext (λ p. steady s t.path p))) fresh) (line s t.path) refl
    where
      let_is : w.lets t.path ≡ is_some (line s t.path)
      let_is = ap (λ (g : List Quad → Bool). g t.path) same ∙ sym (sharp s t.path)

      by_line :
          Missed (lined s t.path) v ts ⊎ Caught (lined s t.path) v ts → (o : Option Coefficients) → line s t.path ≡ o → Missed s v (t ∷ ts) ⊎ Caught s v (t ∷ ts)
      by_line next None e = passed s v t ts fresh (ap (λ (o : Option Coefficients). quested v o t) e) (and_left _ _ (let_is ∙ ap is_some e)) next
      by_line next (Some l) e =
          ⊎_elim
          (λ (y : eqb t.room v.goal ≡ true).
          inr (caught s v t ts fresh l e (ap (λ (o : Option Coefficients). quested v o t) e ∙ cond-true (eqb t.room v.goal) _ _ y)
          (and_from _ _ (let_is ∙ ap is_some e) y)))
          (λ (n : eqb t.room v.goal ≡ false).
          passed s v t ts fresh (ap (λ (o : Option Coefficients). quested v o t) e ∙ cond-false (eqb t.room v.goal) _ _ n) (and_right _ _ n) next)
          (cases_Bool (eqb t.room v.goal))

-- the first of a rising list that has f
none_has : (f : Trip → Bool) (ts : List Trip) (t : Trip) → first f ts ≡ None → In t ts → f t ≡ true → ⊥
none_has f [] t h i y = i
none_has f (u ∷ ts) t h i y =
    ⊎_elim
    (λ (e : u ≡ t). never (sym (cond-true (f u) (Some u) (first f ts) (ap f e ∙ y)) ∙ h))
    (λ (m : In t ts). ⊎_elim
    (λ (yes_way : f u ≡ true). never (sym (cond-true (f u) (Some u) (first f ts) yes_way) ∙ h))
    (λ (n : f u ≡ false). none_has f ts t (sym (cond-false (f u) (Some u) (first f ts) n) ∙ h) m y)
    (cases_Bool (f u)))
    i
  where
    never : {X : Type 0} {x : X} → Some x ≡ None → ⊥
    never e = let z : ◌≡◌ {A = ℕ} 0 1 = cc in omega arith

first_has :
    (f : Trip → Bool) (ts : List Trip) (t : Trip) → Rising ts → first f ts ≡ Some t
    → In t ts × (f t ≡ true) × ((u : Trip) → In u ts → f u ≡ true → (u ≡ t) ⊎ Before t.doors u.doors)
first_has f [] t r h = let z : ◌≡◌ {A = ℕ} 0 1 = cc in absurd (omega arith)
first_has f (x ∷ ts) t r h =
    ⊎_elim
    (λ (y : f x ≡ true).
    let e : x ≡ t = let q : Some x ≡ Some t = sym (cond-true (f x) (Some x) (first f ts) y) ∙ h in cc in
    (inl e, sym (ap f e) ∙ y, λ u i _. ⊎_elim (λ (s : x ≡ u). inl (sym s ∙ e)) (λ (m : In u ts). inr (subst (λ (z : Trip). Before z.doors u.doors) e (r.0 u m))) i))
    (λ (n : f x ≡ false).
    let k = first_has f ts t r.1 (sym (cond-false (f x) (Some x) (first f ts) n) ∙ h) in
    (inr k.0, k.1, λ u i y. ⊎_elim (λ (s : x ≡ u). absurd (true≢false (sym y ∙ sym (ap f s) ∙ n))) (λ (m : In u ts). k.2 u m y) i))
    (cases_Bool (f x))

module _ (w : World) (lawful : Lawful w) (shut : Numbers) (a b : ℕ) (apart : a ≡ b → ⊥) (ts : List Trip) (order : InOrder w shut a ts) where
  -- an open walk that is let through is one of the questions
  walk_asked :
      (ks : List ℕ) (p : List Quad) → Walk w a ks b p → Open shut ks → w.lets p ≡ true
      → In (record { doors = ks; room = b; path = p }) ts
  walk_asked [] [] g o y = absurd (apart g)
  walk_asked [] (q ∷ p) g o y = absurd g
  walk_asked (k ∷ ks) p g o y = order.all (record { doors = k ∷ ks; room = b; path = p }) (record {
    walk = g;
    all_open = o;
    not_empty = λ e. let z : ◌≡◌ {A = ℕ} 0 1 = cc in omega arith;
    after_yes = lets_shorter w lawful [] p y;
  })

  pub none_true : first (leads w b) ts ≡ None → TrueRow w shut a b → ⊥
  none_true h t =
      none_has (leads w b) ts (record { doors = t.0; room = b; path = t.1 }) h (walk_asked t.0 t.1 t.2 t.3 t.4)
      (and_from _ _ t.4 (eq-eqb b b refl))

  pub first_walk : (t : Trip) → first (leads w b) ts ≡ Some t → FirstWalk w shut a b t.doors t.path
  first_walk t h =
      let k = first_has (leads w b) ts t order.rising h in
      let y = and_parts _ _ k.1 in
      let d = order.due t k.0 in
      record {
        walk = subst (λ (x : ℕ). Walk w a t.doors x t.path) (eqb-true _ _ y.1) d.walk;
        all_open = d.all_open;
        has = y.0;
        first = λ js q g o l. ⊎_elim
            (λ e. inl (ap (λ (u : Trip). u.doors) e))
            (λ m. inr m)
            (k.2 (record { doors = js; room = b; path = q }) (walk_asked js q g o l) (and_from _ _ l (eq-eqb b b refl)));
      }

-- what a quest has when the search from a room is over
module _ {S : Type 0} (lets : S → List Quad → Bool) (lined : S → List Quad → S) (line : S → List Quad → Option Coefficients) (sharp : (s : S) (p : List Quad) → is_some (line s p) ≡ lets s p) (steady : (s : S) (p q : List Quad) → lets (lined s p) q ≡ lets s q) (w : World) (inside : Inside w) (lawful : Lawful w) (s s' : S) (same : w.lets ≡ lets s) (v v' : Quest) (fresh : v.found ≡ None) (shut : Numbers) (a : ℕ) (low : a < w.rooms) (apart : a ≡ v.goal → ⊥) (ts : List Trip) (order : InOrder w shut a ts) (end : (s', v') ≡ toured lined (λ v s t. quested v (line s t.path) t) (λ v. is_some v.found) s v ts) where
  abbrev answer : List Quad → Option Coefficients
  answer = line (asked_all lined s (ahead (leads w v.goal) ts))

  abbrev Ends : Quest → Type 0
  Ends q = Told w shut a v.goal answer q.found × IfSome q.found (λ u. length u.doors.items < w.rooms)

  missed : first (leads w v.goal) ts ≡ None → Ends v
  missed h =
      subst (λ (o : Option Found). Told w shut a v.goal answer o × IfSome o (λ u. length u.doors.items < w.rooms)) (sym fresh)
      (none_true w lawful shut a v.goal apart ts order h, tt)

  found : (t : Trip) (l : Coefficients) → first (leads w v.goal) ts ≡ Some t → answer t.path ≡ Some l → Ends (kept v l t.doors)
  found t l h its =
      let f = first_walk w lawful shut a v.goal apart ts order t h in
      ((t.path, f, its), walk_short w inside a t.doors v.goal t.path low f.walk)

  pub quest_ends : Ends v' × (s' ≡ asked_all lined s (until (leads w v.goal) ts))
  quest_ends =
      ⊎_elim
      (λ (m : Missed lets lined line sharp steady w s v ts).
      let e = end ∙ m.after in
      (subst Ends (sym (ap (λ (x : S × Quest). x.1) e)) (missed m.none), ap (λ (x : S × Quest). x.0) e))
      (λ (c : Caught lets lined line sharp steady w s v ts).
      let e = end ∙ c.after in
      (subst Ends (sym (ap (λ (x : S × Quest). x.1) e)) (found c.trip c.line_is c.found c.its_line), ap (λ (x : S × Quest). x.0) e))
      (quest_toured lets lined line sharp steady w s v ts same fresh)
