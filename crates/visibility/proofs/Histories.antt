-- Each call keeps the state as the history makes it, and answers what the history says.
use Rattle.std.proofs.Common.{◌≡◌, ℕ, ◌<◌, ◌≤◌, Bool, true, false, cond, not, ◌&&◌, ◌||◌, eqb, ltb, List, ◌∷◌, length, Some, None, Ok, Err, Option, Result, unwrap_or, sym, refl, ap, ◌∙◌, subst, inl, inr, ⊎_elim, arith, MatchResult}
use mathlib.Core.Bool.{beq}
use Rattle.std.proofs.lemmas.Bool.{cases_Bool, cases_eq, cases_lt, lt-ltb, le-ltb, eq-eqb, ne_eqb, cond-true, cond-false, or_left, or_cases, and_parts, and_from, false≢true, true≢false, or_parts}
use Rattle.maps.specs.declared.doorway.Doorway.{Doorway}
use Rattle.visibility.specs.declared.refusal.Refusal.{Refusal}
use Rattle.visibility.specs.declared.refusal.Refusal.TheVariants.{NoSuchRoom, NotFilled, NoSuchDoorway, Already}
use Rattle.visibility.specs.declared.call.Call.{Call}
use Rattle.visibility.specs.declared.call.Call.TheVariants.{Fill, Shows}
use Rattle.visibility.specs.declared.call.Answer.{Answer}
use Rattle.visibility.specs.declared.call.Answer.TheVariants.{Count, Seen}
use Rattle.visibility.specs.Histories.{turns, shut_after, SeenAfter, Apart, Current, Counts, Lost, Stands}
use Rattle.visibility.specs.Replies.{TurnAnswered, FillAnswered, ShowsAnswered}
use Rattle.visibility.specs.Sets.{Numbers, both, Exactly}
use Rattle.visibility.specs.Sights.{touches}
use Rattle.visibility.specs.States.{State, ByGround, place, no_room, no_sight, no_turn, Fills, Turns}
use Rattle.visibility.specs.Walks.{TrueRow}
use Rattle.visibility.specs.Worlds.{World, Lawful}
use Rattle.visibility.proofs.SameRows.{row_stays, row_stayed}
use Rattle.visibility.proofs.States.{fill_refused, turn_missing, turn_already, turn_free}

-- what a call gives, as an answer
abbrev pub answered : {X : Type 0} → (X → Answer) → Result X Refusal → Result Answer Refusal
answered f (Ok x) = Ok (f x)
answered f (Err e) = Err e

pub answered_is :
    {X : Type 0} (f : X → Answer) (r : Result X Refusal) (v : Result Answer Refusal)
    → MatchResult r (λ x. v ≡ Ok (f x)) (λ e. v ≡ Err e) → answered f r ≡ v
answered_is f (Ok x) v h = sym h
answered_is f (Err e) v h = sym h

-- what a call did, by its ground
module _ {X : Type 0} (o : Option Refusal) (r : Result X Refusal) (s t : State) (P : X → Type 0) (h : ByGround o r s t P) where
  pub was_refused : (e : Refusal) → o ≡ Some e → (r ≡ Err e) × (t ≡ s)
  was_refused e q = subst (λ (v : Option Refusal). ByGround v r s t P) q h

  pub was_granted : o ≡ None → MatchResult r P (λ _. ⊥)
  was_granted q = subst (λ (v : Option Refusal). ByGround v r s t P) q h

pub ok_of : {X : Type 0} (r : Result X Refusal) (P : X → Type 0) → MatchResult r P (λ _. ⊥) → (x : X) × (r ≡ Ok x) × P x
ok_of (Ok x) P h = (x, refl, h)
ok_of (Err e) P h = absurd h

module _ (w : World) (h : List Call) where
  -- a call that leaves all as it was
  pub same_stands :
      (c : Call) (s : State) → Stands w h s → shut_after w (c ∷ h) ≡ shut_after w h
      → ((a : ℕ) → a < w.rooms → (Current w (c ∷ h) a → Current w h a) × (Current w h a → Current w (c ∷ h) a))
      → Stands w (c ∷ h) s
  same_stands c s st e cur = record {
    shut = st.shut ∙ sym e;
    current = λ a l f. (cur a l).1 (st.current a l f);
    filled = λ a l k. st.filled a l ((cur a l).0 k);
    true_row = λ a l f. subst (λ (v : Numbers). Exactly (s.shows a) (TrueRow w v a)) (sym e) (st.true_row a l f);
  }

  -- fill
  fill_same :
      (a : ℕ) → w.rooms ≤ a → (x : ℕ) → x < w.rooms
      → (Current w (Fill a ∷ h) x → Current w h x) × (Current w h x → Current w (Fill a ∷ h) x)
  fill_same a past x l =
      (⊎_elim (λ (n : (x ≡ a) × (x < w.rooms)). absurd (omega (arith, n.0))) (λ (k : Current w h x). k), λ k. inr k)

  fill_stands : (s t : State) (a n : ℕ) → a < w.rooms → Stands w h s → Fills w s a t n → Stands w (Fill a ∷ h) t
  fill_stands s t a n l st f =
      let old : (x : ℕ) → (x ≡ a → ⊥) → t.filled x ≡ s.filled x =
      λ x ne. ap (λ (v : Numbers). v x) f.filled ∙ ap (λ (b : Bool). b || s.filled x) (ne_eqb x a ne) in
      let here : t.filled a ≡ true = ap (λ (v : Numbers). v a) f.filled ∙ or_left (eqb a a) (s.filled a) (eq-eqb a a refl) in
      let row : Exactly (t.shows a) (SeenAfter w h a) =
      subst (λ (v : Numbers). Exactly (t.shows a) (TrueRow w v a)) st.shut f.true_row in
      record {
        shut = f.shut ∙ st.shut;
        current = λ x i g. ⊎_elim
            (λ (e : x ≡ a). inl (e, i))
            (λ (ne : x ≡ a → ⊥). inr (st.current x i (sym (old x ne) ∙ g)))
            (cases_eq x a);
        filled = λ x i k. ⊎_elim
            (λ (e : x ≡ a). ap (λ (y : ℕ). t.filled y) e ∙ here)
            (λ (ne : x ≡ a → ⊥). old x ne ∙ st.filled x i
            (⊎_elim (λ (n : (x ≡ a) × (x < w.rooms)). absurd (ne n.0)) (λ (c : Current w h x). c) k))
            (cases_eq x a);
        true_row = λ x i g. ⊎_elim
            (λ (e : x ≡ a). subst (λ (y : ℕ). Exactly (t.shows y) (SeenAfter w h y)) (sym e) row)
            (λ (ne : x ≡ a → ⊥). subst (λ (v : Numbers). Exactly v (SeenAfter w h x)) (sym (f.other x ne)) (st.true_row x i (sym (old x ne) ∙ g)))
            (cases_eq x a);
      }

  pub after_fill :
      (s t : State) (a : ℕ) (r : Result ℕ Refusal) → Stands w h s → ByGround (no_room w a) r s t (Fills w s a t)
      → Stands w (Fill a ∷ h) t × FillAnswered w h a (answered Count r)
  after_fill s t a r st g =
      ⊎_elim
      (λ (l : a < w.rooms).
      let o : no_room w a ≡ None = cond-true (ltb a w.rooms) _ _ (lt-ltb a w.rooms l) in
      let k = ok_of r (Fills w s a t) (was_granted (no_room w a) r s t (Fills w s a t) g o) in
      let f = k.2 in (
        fill_stands s t a k.0 l st f,
        record {
          missing = λ past. absurd (omega arith);
          done = λ _. (
            k.0,
            ap (answered Count) k.1,
            (
              t.shows a,
              (λ x _. subst (λ (v : Numbers). Exactly (t.shows a) (TrueRow w v a)) st.shut f.true_row x),
              f.count,
            ),
          );
        },
      ))
      (λ (past : w.rooms ≤ a).
      let k = was_refused (no_room w a) r s t (Fills w s a t) g NoSuchRoom (fill_refused w a past) in (
        subst (Stands w (Fill a ∷ h)) (sym k.1) (same_stands (Fill a) s st refl (fill_same a past)),
        record { missing = λ _. ap (answered Count) k.0; done = λ l. absurd (omega arith) },
      ))
      (cases_lt a w.rooms)

  -- shows
  pub after_shows :
      (s : State) (a b : ℕ) (r : Result Bool Refusal) → Stands w h s
      → ByGround (no_sight w s a b) r s s (λ y. y ≡ s.shows a b)
      → Stands w (Shows a b ∷ h) s × ShowsAnswered w h a b (answered Seen r)
  after_shows s a b r st g = (
    same_stands (Shows a b) s st refl (λ x l. (λ k. k, λ k. k)),
    record {
      missing = ⊎_elim
          (λ (past : w.rooms ≤ a).
          ap (answered Seen) (was_refused (no_sight w s a b) r s s _ g NoSuchRoom (cond-false (ltb a w.rooms) _ _ (le-ltb a w.rooms past))).0)
          (λ (past : w.rooms ≤ b).
          ap (answered Seen) (was_refused (no_sight w s a b) r s s _ g NoSuchRoom
          (⊎_elim
          (λ (l : a < w.rooms).
          cond-true (ltb a w.rooms) _ _ (lt-ltb a w.rooms l) ∙ cond-false (ltb b w.rooms) _ _ (le-ltb b w.rooms past))
          (λ (m : w.rooms ≤ a). cond-false (ltb a w.rooms) _ _ (le-ltb a w.rooms m))
          (cases_lt a w.rooms))).0);
      unfilled = λ l m none_yet.
          let f : s.filled a ≡ false =
          ⊎_elim (λ (t : s.filled a ≡ true). absurd (none_yet (st.current a l t))) (λ (f : s.filled a ≡ false). f) (cases_Bool (s.filled a)) in
          ap (answered Seen) (was_refused (no_sight w s a b) r s s _ g NotFilled
          (cond-true (ltb a w.rooms) _ _ (lt-ltb a w.rooms l) ∙ cond-true (ltb b w.rooms) _ _ (lt-ltb b w.rooms m)
          ∙ cond-false (s.filled a) _ _ f)).0;
      done = λ l m cur.
          let t : s.filled a ≡ true = st.filled a l cur in
          let k = ok_of r _ (was_granted (no_sight w s a b) r s s _ g
          (cond-true (ltb a w.rooms) _ _ (lt-ltb a w.rooms l) ∙ cond-true (ltb b w.rooms) _ _ (lt-ltb b w.rooms m)
          ∙ cond-true (s.filled a) _ _ t)) in
          let row = st.true_row a l t b in
          (k.0, ap (answered Seen) k.1, (λ y. row.0 (sym k.2 ∙ y)), (λ y. k.2 ∙ row.1 y));
    },
  )

beq_same : (a b : Bool) → a ≡ b → beq a b ≡ true
beq_same true true h = refl
beq_same true false h = sym h
beq_same false true h = h
beq_same false false h = refl

beq_other : (a b : Bool) → (a ≡ b → ⊥) → beq a b ≡ false
beq_other true true h = absurd (h refl)
beq_other true false h = refl
beq_other false true h = refl
beq_other false false h = absurd (h refl)

without_parts : (f t : Bool) → (f && not t) ≡ true → (f ≡ true) × (t ≡ false)
without_parts true true h = absurd (false≢true h)
without_parts true false h = (refl, refl)
without_parts false t h = absurd (false≢true h)

without_from : (f t : Bool) → f ≡ true → t ≡ false → (f && not t) ≡ true
without_from true true a b = sym b
without_from true false a b = refl
without_from false t a b = a

-- shut and open
module _ (w : World) (lawful : Lawful w) (h : List Call) (c : Call) (k : ℕ) (v : Bool) (made : shut_after w (c ∷ h) ≡ cond (turns w h k v) (place (shut_after w h) k v) (shut_after w h)) (into : (a : ℕ) → Current w h a × (turns w h k v ≡ true → Apart w h a k) → Current w (c ∷ h) a) (out : (a : ℕ) → Current w (c ∷ h) a → Current w h a × (turns w h k v ≡ true → Apart w h a k)) where
  turn_kept : (s : State) → turns w h k v ≡ false → Stands w h s → Stands w (c ∷ h) s
  turn_kept s no_turn' st =
      same_stands w h c s st (made ∙ cond-false (turns w h k v) _ _ no_turn')
      (λ a l. (λ x. (out a x).0, λ x. into a (x, λ y. absurd (false≢true (sym no_turn' ∙ y)))))

  module _ (s t : State) (n : ℕ) (yes_turn : turns w h k v ≡ true) (st : Stands w h s) (f : Turns w s k v t n) where
    touch : Numbers
    touch = touches s.shows f.doorway.near f.doorway.far

    apart : (x : ℕ) → x < w.rooms → s.filled x ≡ true → touches s.shows f.doorway.near f.doorway.far x ≡ false → Apart w h x k
    apart x l g off d is =
        let same : f.doorway ≡ d = ap (λ (o : Option Doorway). unwrap_or o d) (sym f.is_doorway ∙ is) in
        let row = st.true_row x l g in
        let parts = or_parts (s.shows x f.doorway.near) (s.shows x f.doorway.far) off in (
          λ (y : SeenAfter w h x d.near).
              true≢false (sym ((row f.doorway.near).1 (subst (λ (e : Doorway). SeenAfter w h x e.near) (sym same) y)) ∙ parts.0),
          λ (y : SeenAfter w h x d.far).
              true≢false (sym ((row f.doorway.far).1 (subst (λ (e : Doorway). SeenAfter w h x e.far) (sym same) y)) ∙ parts.1),
        )

    met : (x : ℕ) → x < w.rooms → s.filled x ≡ true → Apart w h x k → touches s.shows f.doorway.near f.doorway.far x ≡ false
    met x l g off =
        let row = st.true_row x l g in
        let a = off f.doorway f.is_doorway in
        ⊎_elim
        (λ (y : touches s.shows f.doorway.near f.doorway.far x ≡ true).
        ⊎_elim
        (λ (z : s.shows x f.doorway.near ≡ true). absurd (a.0 ((row f.doorway.near).0 z)))
        (λ (z : s.shows x f.doorway.far ≡ true). absurd (a.1 ((row f.doorway.far).0 z)))
        (or_cases (s.shows x f.doorway.near) (s.shows x f.doorway.far) y))
        (λ (y : touches s.shows f.doorway.near f.doorway.far x ≡ false). y)
        (cases_Bool (touches s.shows f.doorway.near f.doorway.far x))

    after : shut_after w (c ∷ h) ≡ place (shut_after w h) k v
    after = made ∙ cond-true (turns w h k v) _ _ yes_turn

    turn_stands : Stands w (c ∷ h) t
    turn_stands = record {
      shut = f.shut ∙ ap (λ (z : Numbers). place z k v) st.shut ∙ sym after;
      current = λ x l g.
          let p = without_parts (s.filled x) _ (sym (f.filled x l) ∙ g) in
          into x (st.current x l p.0, λ _. apart x l p.0 p.1);
      filled = λ x l cur.
          let o = out x cur in
          let g = st.filled x l o.0 in
          f.filled x l ∙ without_from (s.filled x) _ g (met x l g (o.1 yes_turn));
      true_row = λ x l g.
          let p = without_parts (s.filled x) _ (sym (f.filled x l) ∙ g) in
          let row = st.true_row x l p.0 in
          let a = apart x l p.0 p.1 f.doorway f.is_doorway in
          let stays = row_stays w lawful (shut_after w h) k f.doorway f.is_doorway x a.0 a.1 v in
          let stayed = row_stayed w lawful (shut_after w h) k f.doorway f.is_doorway x a.0 a.1 v in
          λ b. (
            λ y. subst (λ (z : Numbers). TrueRow w z x b) (sym after)
                (stays b ((row b).0 (sym (ap (λ (z : ℕ → Numbers). z x b) f.shows) ∙ y))),
            λ y. ap (λ (z : ℕ → Numbers). z x b) f.shows
                ∙ (row b).1 (stayed b (subst (λ (z : Numbers). TrueRow w z x b) after y)),
          );
    }

    turn_counts : Counts w.rooms (Lost w h c) n
    turn_counts = (
      both s.filled (touches s.shows f.doorway.near f.doorway.far),
      (λ x l. (
        λ y.
            let p = and_parts (s.filled x) _ y in
            (st.current x l p.0, λ cur. true≢false (sym p.1 ∙ met x l p.0 ((out x cur).1 yes_turn))),
        λ lost.
            let g = st.filled x l lost.0 in
            and_from (s.filled x) _ g
            (⊎_elim
            (λ (y : touches s.shows f.doorway.near f.doorway.far x ≡ true). y)
            (λ (y : touches s.shows f.doorway.near f.doorway.far x ≡ false). absurd (lost.1 (into x (lost.0, λ _. apart x l g y))))
            (cases_Bool (touches s.shows f.doorway.near f.doorway.far x))),
      )),
      f.count,
    )

  pub after_turn :
      (s t : State) (r : Result ℕ Refusal) → Stands w h s → ByGround (no_turn w s k v) r s t (Turns w s k v t)
      → Stands w (c ∷ h) t × TurnAnswered w h c k v (answered Count r)
  after_turn s t r st g =
      let at : s.shut k ≡ shut_after w h k = ap (λ (z : Numbers). z k) st.shut in
      ⊎_elim
      (λ (l : k < length w.doorways).
      ⊎_elim
      (λ (y : beq (s.shut k) v ≡ true).
      let q = was_refused (no_turn w s k v) r s t _ g Already (turn_already w s k v l y) in
      let off : turns w h k v ≡ false =
      ap (λ (b : Bool). b && not (beq (shut_after w h k) v)) (lt-ltb k (length w.doorways) l)
      ∙ ap (λ (b : Bool). not (beq b v)) (sym at) ∙ ap not y in (
        subst (Stands w (c ∷ h)) (sym q.1) (turn_kept s off st),
        record {
          missing = λ past. absurd (omega arith);
          already = λ _ _. ap (answered Count) q.0;
          done = λ _ ne. absurd (true≢false (sym y ∙ ap (λ (b : Bool). beq b v) at ∙ beq_other (shut_after w h k) v ne));
        },
      ))
      (λ (y : beq (s.shut k) v ≡ false).
      let q = ok_of r _ (was_granted (no_turn w s k v) r s t _ g (turn_free w s k v l y)) in
      let on : turns w h k v ≡ true =
      ap (λ (b : Bool). b && not (beq (shut_after w h k) v)) (lt-ltb k (length w.doorways) l)
      ∙ ap (λ (b : Bool). not (beq b v)) (sym at) ∙ ap not y in (
        turn_stands s t q.0 on st q.2,
        record {
          missing = λ past. absurd (omega arith);
          already = λ _ e. absurd (true≢false (sym (beq_same (shut_after w h k) v e) ∙ ap (λ (b : Bool). beq b v) (sym at) ∙ y));
          done = λ _ _. (q.0, ap (answered Count) q.1, turn_counts s t q.0 on st q.2);
        },
      ))
      (cases_Bool (beq (s.shut k) v)))
      (λ (past : length w.doorways ≤ k).
      let q = was_refused (no_turn w s k v) r s t _ g NoSuchDoorway (turn_missing w s k v past) in
      let off : turns w h k v ≡ false =
      ap (λ (b : Bool). b && not (beq (shut_after w h k) v)) (le-ltb k (length w.doorways) past) in (
        subst (Stands w (c ∷ h)) (sym q.1) (turn_kept s off st),
        record {
          missing = λ _. ap (answered Count) q.0;
          already = λ l _. absurd (omega arith);
          done = λ l _. absurd (omega arith);
        },
      ))
      (cases_lt k (length w.doorways))
