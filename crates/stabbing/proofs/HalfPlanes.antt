-- Vectors that lie in no half-plane: along some of them the value of any line falls.
use Rattle.std.proofs.Common.{◌≡◌, zero, suc, ◌⊎◌, ℤ, pos, negsuc, ◌+ℤ◌, ◌-ℤ◌, ◌*ℤ◌, neg_ℤ, ◌≤ℤ◌, ◌<ℤ◌, refl, ap, ◌∙◌, inl, inr, arith}
use lib.IntN.{zero-*ℤ}
use Rattle.std.proofs.lemmas.Int.{by_lt_z, ints}
use Rattle.plane.specs.Separation.{Coefficients, Point, Proper, value}
use Rattle.plane.proofs.Integers.{expand, linear, neg_times, product_not_negative, product_positive, square_not_negative}
use Rattle.stabbing.specs.Arrows.{Vector, arrow, turn, along, Against, rise, Climbs}

-- ---- identities

-- from P to Q the value of a line grows by its rise along the arrow
pub value_rises : (l : Coefficients) (P Q : Point) → value l Q ≡ value l P +ℤ rise l (arrow P Q)
value_rises l P Q = simp expand (omega (arith, linear))

-- the rises along three vectors balance, each weighed by the turn between the two others
rises_balance : (l : Coefficients) (u v w : Vector) →
    rise l u *ℤ turn v w +ℤ rise l v *ℤ turn w u +ℤ rise l w *ℤ turn u v ≡ pos 0
rises_balance l u v w = simp expand (omega (arith, linear))

-- the rise along v, from the rise along u and across it
rise_measured : (l : Coefficients) (u v : Vector) →
    along u u *ℤ rise l v ≡ along u v *ℤ rise l u +ℤ turn u v *ℤ (l.1 *ℤ u.0 -ℤ l.0 *ℤ u.1)
rise_measured l u v = simp expand (omega (arith, linear))

-- the numbers of a line, from its rises along two vectors
first_number : (l : Coefficients) (u v : Vector) → l.0 *ℤ turn u v ≡ rise l u *ℤ v.1 -ℤ rise l v *ℤ u.1
first_number l u v = simp expand (omega (arith, linear))

second_number : (l : Coefficients) (u v : Vector) → l.1 *ℤ turn u v ≡ rise l v *ℤ u.0 -ℤ rise l u *ℤ v.0
second_number l u v = simp expand (omega (arith, linear))

-- ---- signs

-- a factor beside one above 0 is 0 where the product is
factor_none : (a b : ℤ) → pos 0 <ℤ b → a *ℤ b ≡ pos 0 → a ≡ pos 0
factor_none (pos zero) b h e = refl
factor_none (pos (suc m)) b h e = absurd (omega (arith, linear, product_positive (pos (suc m)) b (omega (arith, ints)) h))
factor_none (negsuc m) b h e =
    absurd (omega (arith, linear, neg_times (negsuc m) b, product_positive (pos (suc m)) b (omega (arith, ints)) h))

-- of three numbers that balance, none below 0, two are 0 where the weights are above 0; the first may be 0 anyway
balanced : (x y z a b c : ℤ) → x *ℤ a +ℤ y *ℤ b +ℤ z *ℤ c ≡ pos 0 → pos 0 ≤ℤ x → pos 0 ≤ℤ y → pos 0 ≤ℤ z →
    pos 0 <ℤ b → pos 0 <ℤ c → (pos 0 <ℤ a) ⊎ (x ≤ℤ pos 0) → (x ≡ pos 0) × (y ≡ pos 0)
balanced x y z a b c e hx hy hz hb hc third = (first third, second third)
  where
    last : pos 0 ≤ℤ (z *ℤ c)
    last = product_not_negative z c hz (omega (arith, linear))

    middle : pos 0 ≤ℤ (y *ℤ b)
    middle = product_not_negative y b hy (omega (arith, linear))

    first : (pos 0 <ℤ a) ⊎ (x ≤ℤ pos 0) → x ≡ pos 0
    first (inl ha) = by_lt_z (pos 0) x
        (λ k. absurd (omega (arith, linear, last, middle, product_positive x a k ha))) λ k. omega (arith, linear)
    first (inr k) = omega (arith, linear)

    front : (pos 0 <ℤ a) ⊎ (x ≤ℤ pos 0) → pos 0 ≤ℤ (x *ℤ a)
    front (inl ha) = product_not_negative x a hx (omega (arith, linear))
    front (inr k) = let none : x ≡ pos 0 = omega (arith, linear) in rw (none, zero-*ℤ) (omega (arith, linear))

    second : (pos 0 <ℤ a) ⊎ (x ≤ℤ pos 0) → y ≡ pos 0
    second t = by_lt_z (pos 0) y
        (λ k. absurd (omega (arith, linear, last, front t, product_positive y b k hb))) λ k. omega (arith, linear)

-- a weight above 0 on one side, one below 0 on the other
opposed : (x y a b : ℤ) → a *ℤ y ≡ b *ℤ x → pos 0 ≤ℤ a → b <ℤ pos 0 → pos 0 ≤ℤ y → x ≤ℤ pos 0
opposed x y a b e ha hb hy = by_lt_z (pos 0) x
    (λ k.
    let falls = product_positive (neg_ℤ b) x (omega (arith, linear)) k in
    absurd (omega (arith, linear, product_not_negative a y ha hy, neg_times b x, falls)))
    λ k. k

-- ---- consequences

-- a line that rises along two vectors by nothing is none, unless the two are parallel
no_rise : (l : Coefficients) (u v : Vector) → pos 0 <ℤ turn u v → rise l u ≡ pos 0 → rise l v ≡ pos 0 → Proper l → ⊥
no_rise l u v h e f proper = proper
    (factor_none l.0 (turn u v) h (first_number l u v ∙ simp (e, f, zero-*ℤ)))
    (factor_none l.1 (turn u v) h (second_number l u v ∙ simp (e, f, zero-*ℤ)))

-- a line that does not fall along a vector straight against u does not rise along u
pub against : (l : Coefficients) (u v : Vector) → Against u v → Climbs l v → rise l u ≤ℤ pos 0
against l u v (e, h) k = opposed (rise l u) (rise l v) (along u u) (along u v) measured squares h k
  where
    measured : along u u *ℤ rise l v ≡ along u v *ℤ rise l u
    measured =
        rise_measured l u v
        ∙ ap (λ z. along u v *ℤ rise l u +ℤ z *ℤ (l.1 *ℤ u.0 -ℤ l.0 *ℤ u.1)) e
        ∙ simp zero-*ℤ (omega (arith, linear))

    squares : pos 0 ≤ℤ along u u
    squares = omega (arith, linear, square_not_negative u.0, square_not_negative u.1)

-- a line that falls along none of three vectors around, or of two on either side of a direction along which it does not
-- rise either, is none
pub in_no_half_plane : (l : Coefficients) (u v w : Vector) → Proper l →
    pos 0 <ℤ turn u v → pos 0 <ℤ turn w u → (pos 0 <ℤ turn v w) ⊎ (rise l u ≤ℤ pos 0) →
    Climbs l u → Climbs l v → Climbs l w → ⊥
in_no_half_plane l u v w proper uv wu third lu lv lw =
    let none = balanced _ _ _ (turn v w) (turn w u) (turn u v) (rises_balance l u v w) lu lv lw wu uv third in
    no_rise l u v uv none.0 none.1 proper
