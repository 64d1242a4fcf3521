-- The questions of a search are exactly the due ones, in dictionary order.
use Rattle.std.proofs.Common.{◌≡◌, ℕ, zero, suc, ◌+◌, ◌<◌, Bool, true, false, cond, List, [], ◌∷◌, ◌++◌, length, Some, None, Option, sym, refl, ◌∙◌, subst, subst₂, inl, inr, ⊎_elim, arith}
use Rattle.std.specs.List.{range_with_len, flat_map}
use Rattle.std.proofs.lemmas.Bool.{cases_Bool}
use Rattle.plane.specs.declared.quad.Quad.{Quad}
use Rattle.plane.specs.Limits.{Path}
use Rattle.plane.specs.Separation.{Stabbed}
use Rattle.visibility.specs.Orders.{In, Before, Rising, without_last, InOrder}
use Rattle.visibility.specs.Questions.{tried, rest, due, walks_from}
use Rattle.visibility.specs.Trips.{Trip}
use Rattle.visibility.specs.Sets.{Numbers, only, with, free}
use Rattle.visibility.specs.Steps.{onward}
use Rattle.visibility.specs.Walks.{Walk, Open}
use Rattle.visibility.specs.Worlds.{World, Inside, Lawful}
use Rattle.visibility.proofs.Members.{in_append, joined_in, counting_in}
use Rattle.visibility.proofs.TrueRows.{rest_continues, tried_begins, goes_rest, empty_let}

before_prefix : (ks xs ys : List ℕ) → Before xs ys → Before (ks ++ xs) (ks ++ ys)
before_prefix [] xs ys h = h
before_prefix (k ∷ ks) xs ys h = inr (refl, before_prefix ks xs ys h)

before_longer : (ks : List ℕ) (j : ℕ) (js : List ℕ) → Before ks (ks ++ j ∷ js)
before_longer [] j js = tt
before_longer (k ∷ ks) j js = inr (refl, before_longer ks j js)

rising_append :
    (xs ys : List Trip) → Rising xs → Rising ys → ((x y : Trip) → In x xs → In y ys → Before x.doors y.doors) → Rising (xs ++ ys)
rising_append [] ys rx ry cross = ry
rising_append (x ∷ xs) ys rx ry cross = (
  (λ u m. ⊎_elim (λ (i : In u xs). rx.0 u i) (λ (i : In u ys). cross x u (inl refl) i) (in_append u xs ys m)),
  rising_append xs ys rx.1 ry (λ a b i j. cross a b (inr i) j),
)

rising_joined :
    (f : ℕ → List Trip) (a n : ℕ) → ((k : ℕ) → Rising (f k))
    → ((j k : ℕ) (t u : Trip) → j < k → In t (f j) → In u (f k) → Before t.doors u.doors)
    → Rising (flat_map f (range_with_len a n))
rising_joined f a zero each cross = tt
rising_joined f a (suc n) each cross =
    rising_append (f a) (flat_map f (range_with_len (a + 1) n)) (each a) (rising_joined f (a + 1) n each cross)
    (λ x y i j.
    let m = joined_in f y (range_with_len (a + 1) n) j in
    let l = counting_in (a + 1) n m.0 m.1 in
    cross a m.0 x y (omega arith) i m.2)

module _ (w : World) (shut : Numbers) where
  tried_rising :
      (n : ℕ) (ih : (e : Numbers) (a : ℕ) (ks : List ℕ) (p : List Quad) → w.lets p ≡ true → Rising (rest w shut n e a ks p))
      (e : Numbers) (ks : List ℕ) (p : List Quad) (k : ℕ) (o : Option (ℕ × Quad)) → Rising (tried w (rest w shut n) e ks p k o)
  tried_rising n ih e ks p k None = tt
  tried_rising n ih e ks p k (Some (b, q)) =
      let more = λ (v : Bool). cond v (rest w shut n (with e b) b (ks ++ k ∷ []) (p ++ q ∷ [])) [] in
      ⊎_elim
      (λ (y : w.lets (p ++ q ∷ []) ≡ true). (
        (λ u m.
            let c = rest_continues w shut n (with e b) b (ks ++ k ∷ []) (p ++ q ∷ []) u y (subst (λ (v : Bool). In u (more v)) y m) in
            subst (Before (ks ++ k ∷ [])) (sym c.6) (before_longer (ks ++ k ∷ []) c.0 c.1)),
        subst (λ (v : Bool). Rising (more v)) (sym y) (ih (with e b) b (ks ++ k ∷ []) (p ++ q ∷ []) y),
      ))
      (λ (y : w.lets (p ++ q ∷ []) ≡ false). (
        (λ u m. absurd (subst (λ (v : Bool). In u (more v)) y m)),
        subst (λ (v : Bool). Rising (more v)) (sym y) tt,
      ))
      (cases_Bool (w.lets (p ++ q ∷ [])))

  rest_rising :
      (n : ℕ) (e : Numbers) (a : ℕ) (ks : List ℕ) (p : List Quad) → w.lets p ≡ true → Rising (rest w shut n e a ks p)
  unfolding rest
  rest_rising zero e a ks p before = tt
  rest_rising (suc n) e a ks p before =
      rising_joined (λ k. tried w (rest w shut n) e ks p k (onward w.doorways shut e a k)) 0 (length w.doorways)
      (λ k. tried_rising n (rest_rising n) e ks p k (onward w.doorways shut e a k))
      (λ j k t u l i m.
      let x = tried_begins w shut n e a ks p t j before i in
      let y = tried_begins w shut n e a ks p u k before m in
      subst₂ Before (sym x.1) (sym y.1) (before_prefix ks (j ∷ x.0) (k ∷ y.0) (inl l)))

  module _ (inside : Inside w) (lawful : Lawful w) (empty : w.lets [] ≡ true) (a : ℕ) where
    walk_due :
        (ks : List ℕ) (b : ℕ) (p : List Quad) → (ks ≡ [] → ⊥) → Walk w a ks b p → Open shut ks → w.lets (without_last p) ≡ true
        → In (record { doors = ks; room = b; path = p }) (due w shut (only a) a [] [])
    unfolding rest
    walk_due [] b p some g o y = absurd (some refl)
    walk_due (k ∷ ks) b p some g o y =
        goes_rest w inside lawful shut (free w.rooms (only a)) (only a) a [] [] k ks b p (omega arith) g o y

    pub in_order : InOrder w shut a (due w shut (only a) a [] [])
    unfolding rest
    in_order = record {
      rising = rest_rising (suc (free w.rooms (only a))) (only a) a [] [] empty;
      due = λ t m.
          let c = rest_continues w shut (suc (free w.rooms (only a))) (only a) a [] [] t empty m in
          record {
            walk = subst₂ (λ (d : List ℕ) (v : List Quad). Walk w a d t.room v) (sym c.6) (sym c.7) c.4;
            all_open = subst (Open shut) (sym c.6) c.5;
            not_empty = λ (e : t.doors ≡ []). let gone : c.0 ∷ c.1 ≡ [] = sym c.6 ∙ e in let z : ◌≡◌ {A = ℕ} 0 1 = cc in omega arith;
            after_yes = subst (λ (v : List Quad). w.lets (without_last v) ≡ true) (sym c.7) c.8;
          };
      all = λ t d. walk_due t.doors t.room t.path d.not_empty d.walk d.all_open d.after_yes;
    }

-- the questions about the walks from a room, where each path that some line separates is let through
pub searched :
    (w : World) → Inside w → Lawful w → ((p : List Quad) → Path p → Stabbed p → w.lets p ≡ true)
    → (shut : Numbers) (a : ℕ) → InOrder w shut a (walks_from w shut a)
searched w inside lawful stabbed shut a = in_order w shut inside lawful (empty_let w.lets stabbed) a
