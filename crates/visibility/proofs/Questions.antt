-- The questions that come after a walk, doorway by doorway.
use Rattle.std.proofs.Common.{◌≡◌, ℕ, zero, suc, ◌+◌, ◌-◌, ◌<◌, ◌≤◌, Bool, true, false, cond, List, [], ◌∷◌, ◌++◌, Some, None, fold, sym, refl, ap, ◌∙◌, add-one, arith}
use Rattle.std.specs.List.{range_with_len, flat_map}
use Rattle.std.proofs.lemmas.List.{flat_map_more, append_assoc}
use Rattle.std.proofs.lemmas.Bool.{cond-true}
use Rattle.plane.specs.declared.quad.Quad.{Quad}
use Rattle.visibility.specs.Sets.{Numbers, with, free}
use Rattle.visibility.specs.Worlds.{World}
use Rattle.visibility.specs.Steps.{onward}
use Rattle.visibility.specs.Questions.{Rest, tried, tries, rest, due, visited}
use Rattle.visibility.specs.Trips.{Trip}
use Rattle.visibility.proofs.Numbers.{free_with}

-- the questions after a walk, as far as the doorways below j
abbrev pub upto : World → Numbers → Numbers → ℕ → List ℕ → List Quad → ℕ → List Trip
upto w shut e a ks p j = tries w shut (rest w shut (free w.rooms e)) e a ks p j

counting_push : (a n : ℕ) → range_with_len a (suc n) ≡ range_with_len a n ++ (a + n) ∷ []
counting_push a zero = let z : a ≡ a + 0 = omega arith in ap (λ x. x ∷ []) z
counting_push a (suc n) =
    let z : a + 1 + n ≡ a + suc n = omega arith in
    ap (λ xs. a ∷ xs) (counting_push (a + 1) n ∙ ap (λ x. range_with_len (a + 1) n ++ x ∷ []) z)

pub folded_append :
    {X Y : Type 0} (f : Y → X → Y) (y : Y) (xs ys : List X) → fold f y (xs ++ ys) ≡ fold f (fold f y xs) ys
folded_append f y [] ys = refl
folded_append f y (x ∷ xs) ys = folded_append f (f y x) xs ys

-- one doorway more
pub tries_more :
    (w : World) (shut : Numbers) (r : Rest) (e : Numbers) (a : ℕ) (ks : List ℕ) (p : List Quad) (j : ℕ)
    → tries w shut r e a ks p (j + 1)
    ≡ tries w shut r e a ks p j ++ tried w r e ks p j (onward w.doorways shut e a j)
tries_more w shut r e a ks p j =
    let f : ℕ → List Trip = λ k. tried w r e ks p k (onward w.doorways shut e a k) in
    let z : 0 + j ≡ j = omega arith in
    ap (λ n. flat_map f (range_with_len 0 n)) (add-one j)
    ∙ ap (flat_map f) (counting_push 0 j ∙ ap (λ x. range_with_len 0 j ++ x ∷ []) z)
    ∙ sym (flat_map_more f [] (range_with_len 0 j) j)

-- the walk that a step makes
abbrev pub trip : List ℕ → ℕ → List Quad → ℕ → Quad → Trip
trip ks k p b q = record { doors = ks ++ k ∷ []; room = b; path = p ++ q ∷ [] }

module _ {X : Type 0} (f : X → Trip → X) (w : World) (shut e : Numbers) (a : ℕ) (ks : List ℕ) (p : List Quad) (k : ℕ) (x y : X) (was : y ≡ fold f x (upto w shut e a ks p k)) where
  -- a state that follows the questions follows those of one doorway more
  follow :
      (ts : List Trip)
      → tried w (rest w shut (free w.rooms e)) e ks p k (onward w.doorways shut e a k) ≡ ts
      → fold f y ts ≡ fold f x (upto w shut e a ks p (k + 1))
  follow ts h =
      ap (λ z. fold f z ts) was
      ∙ sym (folded_append f x (upto w shut e a ks p k) ts)
      ∙ ap (λ z. fold f x (upto w shut e a ks p k ++ z)) (sym h)
      ∙ sym (ap (fold f x) (tries_more w shut (rest w shut (free w.rooms e)) e a ks p k))

  -- no step: no question
  pub follow_none : onward w.doorways shut e a k ≡ None → y ≡ fold f x (upto w shut e a ks p (k + 1))
  follow_none h = follow [] (ap (tried w (rest w shut (free w.rooms e)) e ks p k) h)

  -- a step that is not let through: one question
  pub follow_no :
      (b : ℕ) (q : Quad) → onward w.doorways shut e a k ≡ Some (b, q) → w.lets (p ++ q ∷ []) ≡ false
      → f y (trip ks k p b q) ≡ fold f x (upto w shut e a ks p (k + 1))
  follow_no b q h no_way =
      follow (trip ks k p b q ∷ [])
      (ap (tried w (rest w shut (free w.rooms e)) e ks p k) h
      ∙ ap (λ t. trip ks k p b q ∷ cond t (rest w shut (free w.rooms e) (with e b) b (ks ++ k ∷ []) (p ++ q ∷ [])) []) no_way)

  -- a step that is let through: one question, and those after it
  pub follow_yes :
      (b : ℕ) (q : Quad) → onward w.doorways shut e a k ≡ Some (b, q) → w.lets (p ++ q ∷ []) ≡ true
      → b < w.rooms → e b ≡ false
      → fold f (f y (trip ks k p b q)) (due w shut (with e b) b (ks ++ k ∷ []) (p ++ q ∷ []))
      ≡ fold f x (upto w shut e a ks p (k + 1))
  unfolding rest
  follow_yes b q h through l new =
      follow (trip ks k p b q ∷ due w shut (with e b) b (ks ++ k ∷ []) (p ++ q ∷ []))
      (ap (tried w (rest w shut (free w.rooms e)) e ks p k) h
      ∙ ap (λ t. trip ks k p b q ∷ cond t (rest w shut (free w.rooms e) (with e b) b (ks ++ k ∷ []) (p ++ q ∷ [])) []) through
      ∙ ap (λ n. trip ks k p b q ∷ rest w shut n (with e b) b (ks ++ k ∷ []) (p ++ q ∷ [])) (free_with w.rooms e b l new))

counting_split : (a m n : ℕ) → range_with_len a (m + n) ≡ range_with_len a m ++ range_with_len (a + m) n
counting_split a zero n =
    let z : a ≡ a + 0 = omega arith in let y : 0 + n ≡ n = omega arith in ap (range_with_len a) y ∙ ap (λ x. range_with_len x n) z
counting_split a (suc m) n =
    let z : a + 1 + m ≡ a + suc m = omega arith in
    let y : suc m + n ≡ suc (m + n) = omega arith in
    ap (range_with_len a) y ∙ ap (λ xs. a ∷ xs) (counting_split (a + 1) m n ∙ ap (λ x. range_with_len (a + 1) m ++ range_with_len x n) z)

joined_append : {X Y : Type 0} (f : X → List Y) (xs ys : List X) → flat_map f (xs ++ ys) ≡ flat_map f xs ++ flat_map f ys
joined_append f [] ys = refl
joined_append f (x ∷ xs) ys = ap (λ zs. f x ++ zs) (joined_append f xs ys) ∙ sym (append_assoc (f x) (flat_map f xs) (flat_map f ys))

module _ {S V : Type 0} (heard : S → List Quad → S) (told : V → S → Trip → V) (ended : V → Bool) where
  -- a visitor that has ended stays as it is
  pub ended_stays : (x : S × V) (ts : List Trip) → ended x.1 ≡ true → fold (visited heard told ended) x ts ≡ x
  ended_stays x [] e = refl
  ended_stays x (t ∷ ts) e =
      ap (λ y. fold (visited heard told ended) y ts) (cond-true (ended x.1) x (heard x.0 t.path, told x.1 x.0 t) e)
      ∙ ended_stays x ts e

  pub toured_ended :
      (w : World) (shut e : Numbers) (a : ℕ) (ks : List ℕ) (p : List Quad) (k m : ℕ) → k ≤ m → (x y : S × V)
      → y ≡ fold (visited heard told ended) x (upto w shut e a ks p k) → ended y.1 ≡ true
      → y ≡ fold (visited heard told ended) x (upto w shut e a ks p m)
  toured_ended w shut e a ks p k m l x y was end =
      let f : ℕ → List Trip = λ k. tried w (rest w shut (free w.rooms e)) e ks p k (onward w.doorways shut e a k) in
      let z : k + (m - k) ≡ m = omega arith in
      let split : upto w shut e a ks p m ≡ upto w shut e a ks p k ++ flat_map f (range_with_len (0 + k) (m - k)) =
      ap (λ n. flat_map f (range_with_len 0 n)) (sym z) ∙ ap (flat_map f) (counting_split 0 k (m - k)) ∙ joined_append f (range_with_len 0 k) (range_with_len (0 + k) (m - k)) in
      sym (ended_stays y (flat_map f (range_with_len (0 + k) (m - k))) end)
      ∙ ap (λ v. fold (visited heard told ended) v (flat_map f (range_with_len (0 + k) (m - k)))) was
      ∙ sym (folded_append (visited heard told ended) x (upto w shut e a ks p k) (flat_map f (range_with_len (0 + k) (m - k))))
      ∙ sym (ap (fold (visited heard told ended) x) split)
