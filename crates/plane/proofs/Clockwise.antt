-- The most clockwise of some lines, none of which runs to the right of a given line d.
--   Left m         m does not run to the right of d
--   Along m        m runs as d does
--   Turned m       m runs to the left of d, or against d, or has no direction
--   Clockmost xs   some proper line with the property E has all of xs on its left, and is itself not to the right of d
use Rattle.std.proofs.Common.{◌≡◌, ◌⊎◌, List, [], ◌∷◌, pos, ◌*ℤ◌, neg_ℤ, ◌≤ℤ◌, ◌<ℤ◌, ◌∙◌, inl, inr, arith}
use lib.IntN.{zero-*ℤ}
use Rattle.std.specs.List.{AllByRecursion}
use Rattle.std.proofs.ByRecursion.{All-weaker}
use Rattle.std.proofs.lemmas.Int.{by_lt_z}
use Rattle.plane.specs.Separation.{Coefficients, Proper}
use Rattle.plane.proofs.Integers.{linear, times_neg, neg_times, product_not_negative, product_positive, factor_not_negative}
use Rattle.plane.proofs.Directions.{cross, dot, cross_back, cross_four, cross_measured, dot_measured, dot_positive, cross_none, dot_none}

module _ (d : Coefficients) where
  abbrev pub Left : Coefficients → Type 0
  Left m = pos 0 ≤ℤ cross d m

  abbrev pub Along : Coefficients → Type 0
  Along m = (cross d m ≡ pos 0) × (pos 0 <ℤ dot d m)

  abbrev pub Turned : Coefficients → Type 0
  Turned m = (pos 0 <ℤ cross d m) ⊎ ((cross d m ≡ pos 0) × (dot d m ≤ℤ pos 0))

  -- what is not to the right of d runs along it or is turned from it
  along_or_turned : (m : Coefficients) → Left m → Along m ⊎ Turned m
  along_or_turned m h =
      by_lt_z (pos 0) (cross d m) (λ k. inr (inl k)) λ k.
      by_lt_z (pos 0) (dot d m) (λ j. inl (omega (arith, linear), j)) λ j. inr (inr (omega (arith, linear), j))

  -- what is turned from d is not to the right of it
  turned_left : (m : Coefficients) → Turned m → Left m
  turned_left m h = omega (arith, linear)

  -- the turn from a line that is parallel to d
  cross_parallel : (m n : Coefficients) → cross d m ≡ pos 0 → dot d d *ℤ cross m n ≡ dot d m *ℤ cross d n
  cross_parallel m n e = cross_measured d m n ∙ simp (e, zero-*ℤ) (omega (arith, linear))

module _ (d : Coefficients) (proper : Proper d) where
  -- a line along d has all that is not to the right of d on its left
  along_first : (m n : Coefficients) → Along d m → Left d n → pos 0 ≤ℤ cross m n
  along_first m n a h = factor_not_negative (dot d d) (cross m n) (dot_positive d proper)
      (rw (cross_parallel d m n a.0) (product_not_negative (dot d m) (cross d n) (omega (arith, linear)) h))

  -- a line against d stands on the left of all that is not to the right of d
  against_last : (m n : Coefficients) → Left d m → cross d n ≡ pos 0 → dot d n ≤ℤ pos 0 → pos 0 ≤ℤ cross m n
  against_last m n h e k = factor_not_negative (dot d d) (cross m n) (dot_positive d proper)
      (rw (cross_back n m, times_neg, cross_parallel d n m e, ← neg_times)
      (product_not_negative (neg_ℤ (dot d n)) (cross d m) (omega (arith, linear)) h))

  -- a proper line that is parallel to d and does not run along it runs against it
  against : (m : Coefficients) → Proper m → cross d m ≡ pos 0 → dot d m ≤ℤ pos 0 → dot d m <ℤ pos 0
  against m p e k = by_lt_z (dot d m) (pos 0) (λ below. below) λ above.
      let f : dot d m ≡ pos 0 = omega (arith, linear) in
      omega (
        arith,
        linear,
        rw (e, f) at (dot_measured d m),
        product_positive (dot d d) (dot m m) (dot_positive d proper) (dot_positive m p),
      )

  -- a line against d has nothing on its left that runs to the left of d
  against_past : (m n : Coefficients) → cross d m ≡ pos 0 → dot d m <ℤ pos 0 → pos 0 <ℤ cross d n → pos 0 ≤ℤ cross m n → ⊥
  against_past m n e k h j =
      omega (
        arith,
        linear,
        cross_parallel d m n e,
        neg_times (dot d m) (cross d n),
        product_positive (neg_ℤ (dot d m)) (cross d n) (omega (arith, linear)) h,
        product_not_negative (dot d d) (cross m n) (omega (arith, linear, dot_positive d proper)) j,
      )

  -- turns add up: what is on the left of b, which is on the left of a, is on the left of a
  further : (a b c : Coefficients) → Left d a → Turned d b → Turned d c → Proper b →
      pos 0 ≤ℤ cross a b → pos 0 ≤ℤ cross b c → pos 0 ≤ℤ cross a c
  further a b c la (inl h) tc pb ab bc = factor_not_negative (cross d b) (cross a c) h
      (omega (
        arith,
        linear,
        cross_four d a b c,
        product_not_negative (cross d a) (cross b c) la bc,
        product_not_negative (cross d c) (cross a b) (turned_left d c tc) ab,
      ))
  further a b c la (inr (e, k)) (inl h) pb ab bc = absurd (against_past b c e (against b pb e k) h bc)
  further a b c la (inr (e, k)) (inr (f, j)) pb ab bc = against_last a c la f j

  module _ {X : Type 0} (line : X → Coefficients) (E : X → Type 0) where
    abbrev Clockmost : List X → Type 0
    Clockmost xs = (m : X) × E m × Left d (line m) × Proper (line m) × AllByRecursion (λ y. pos 0 ≤ℤ cross (line m) (line y)) xs

    -- either some line of a list runs along d, or all are turned from it
    some_along : (xs : List X) → AllByRecursion (λ x. E x × Left d (line x)) xs →
        ((x : X) × E x × Along d (line x)) ⊎ AllByRecursion (λ x. E x × Turned d (line x)) xs
    some_along [] h = inr tt
    some_along (x ∷ xs) ((e, h), hs) = elim (along_or_turned d (line x) h) [
      | inl a ↦ inl (x, e, a)
      | inr t ↦ elim (some_along xs hs) [ inl found ↦ inl found | inr ts ↦ inr ((e, t), ts) ]
    ]

    -- of turned lines one is most clockwise: from a proper line x on, each that is to the right of the last takes its place
    turned_clockmost : (x : X) → E x → Turned d (line x) → Proper (line x) → (xs : List X) →
        AllByRecursion (λ y. E y × Turned d (line y)) xs → Clockmost (x ∷ xs)
    turned_clockmost x e t p [] hs =
        (x, e, turned_left d (line x) t, p, (omega (arith, linear, cross_back (line x) (line x)), tt))
    turned_clockmost x e t p (y ∷ ys) ((f, s), hs) = by_lt_z (cross (line x) (line y)) (pos 0)
        (λ below.
        let q : Proper (line y) = λ g h. omega (arith, linear, cross_none (line x) (line y) g h) in
        let yx : pos 0 ≤ℤ cross (line y) (line x) = omega (arith, linear, cross_back (line x) (line y)) in
        let (m, em, lm, pm, (my, rest)) = turned_clockmost y f s q ys hs in
        (m, em, lm, pm, (further (line m) (line y) (line x) lm s t q my yx, (my, rest))))
        λ xy.
        let (m, em, lm, pm, (mx, rest)) = turned_clockmost x e t p ys hs in
        (m, em, lm, pm, (mx, (further (line m) (line x) (line y) lm t s p mx xy, rest)))

    -- of lines that are not to the right of d, the first of which is proper, one is most clockwise
    pub clockmost : (x : X) → Proper (line x) → (xs : List X) → AllByRecursion (λ y. E y × Left d (line y)) (x ∷ xs) → Clockmost (x ∷ xs)
    clockmost x p xs h = elim (some_along (x ∷ xs) h) [
      | inl (m, e, a) ↦ (
        m,
        e,
        omega (arith, linear),
        λ f g. omega (arith, linear, dot_none d (line m) f g),
        All-weaker _ _ (λ y k. along_first (line m) (line y) a k.1) (x ∷ xs) h,
      )
      | inr ((e, t), ts) ↦ turned_clockmost x e t p xs ts
    ]
