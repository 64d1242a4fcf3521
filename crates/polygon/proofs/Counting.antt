-- Counting: what one set maps into another, apart, is no more than that other.
use Rattle.std.proofs.Common.{◌≡◌, ℕ, zero, suc, ◌+◌, ◌<◌, ◌≤◌, Bool, true, false, not, ◌&&◌, eqb, ◌⊎◌, sym, refl, ap, ◌∙◌, inl, inr, arith}
use Rattle.std.proofs.lemmas.Bool.{cases_Bool, cases_eq, eq-eqb, ne_eqb, and_from, and_left, and_right, not_from_true, not_from_false}

one : Bool → ℕ
one true = 1
one false = 0

pub count : (ℕ → Bool) → ℕ → ℕ
count p zero = 0
count p (suc n) = one (p n) + count p n

module _ (p : ℕ → Bool) where
  pub count_none : count p 0 ≡ 0
  unfolding count
  count_none = refl

  count_suc : (n : ℕ) → count p (suc n) ≡ one (p n) + count p n
  unfolding count
  count_suc n = refl

  pub count_yes : (n : ℕ) → p n ≡ true → count p (suc n) ≡ 1 + count p n
  unfolding one
  count_yes n e = count_suc n ∙ ap (λ b. one b + count p n) e

  pub count_no : (n : ℕ) → p n ≡ false → count p (suc n) ≡ count p n
  unfolding one
  count_no n e = count_suc n ∙ ap (λ b. one b + count p n) e ∙ zero_first (count p n)
    where
      zero_first : (m : ℕ) → 0 + m ≡ m
      zero_first m = omega arith

-- p without q
pub without : (ℕ → Bool) → ℕ → ℕ → Bool
without p q x = p x && not (eqb x q)

module _ (p : ℕ → Bool) (q : ℕ) where
  without_same : without p q q ≡ false
  unfolding without
  without_same = and_right (p q) (not (eqb q q)) (not_from_true (eqb q q) (eq-eqb q q refl))

  pub without_other : (x : ℕ) → (x ≡ q → ⊥) → p x ≡ true → without p q x ≡ true
  unfolding without
  without_other x d e = and_from (p x) (not (eqb x q)) e (not_from_false (eqb x q) (ne_eqb x q d))

  without_false : (x : ℕ) → p x ≡ false → without p q x ≡ false
  unfolding without
  without_false x e = and_left (p x) (not (eqb x q)) e

  same_count : (n : ℕ) → n ≤ q → count (without p q) n ≡ count p n
  same_count zero h = count_none (without p q) ∙ sym (count_none p)
  same_count (suc n) h = go (cases_Bool (p n)) (same_count n (omega arith))
    where
      go : (p n ≡ true) ⊎ (p n ≡ false) → count (without p q) n ≡ count p n → count (without p q) (suc n) ≡ count p (suc n)
      go (inl e) more = count_yes (without p q) n (without_other n (λ s. omega arith) e) ∙ ap (λ m. 1 + m) more ∙ sym (count_yes p n e)
      go (inr e) more = count_no (without p q) n (without_false n e) ∙ more ∙ sym (count_no p n e)

  pub one_less : (n : ℕ) → q < n → p q ≡ true → 1 + count (without p q) n ≡ count p n
  one_less zero h e = absurd (omega arith)
  one_less (suc n) h e = go (cases_eq q n) (cases_Bool (p n)) (λ l. one_less n l e)
    where
      go : (q ≡ n) ⊎ (q ≡ n → ⊥) → (p n ≡ true) ⊎ (p n ≡ false) → (q < n → 1 + count (without p q) n ≡ count p n) → 1 + count (without p q) (suc n) ≡ count p (suc n)
      go (inl s) b more =
          let gone : without p q n ≡ false = ap (without p q) (sym s) ∙ without_same in
          let here : p n ≡ true = ap p (sym s) ∙ e in
          omega (arith, count_no (without p q) n gone, same_count n (omega arith), count_yes p n here)
      go (inr d) (inl t) more = omega (arith, count_yes (without p q) n (without_other n (λ x. d (sym x)) t), count_yes p n t, more (omega arith))
      go (inr d) (inr f) more = omega (arith, count_no (without p q) n (without_false n f), count_no p n f, more (omega arith))

abbrev Into : (ℕ → Bool) → (ℕ → Bool) → (ℕ → ℕ) → ℕ → ℕ → Type 0
Into p r f n k = (i : ℕ) → i < k → p i ≡ true → (f i < n) × (r (f i) ≡ true)

abbrev Apart : (ℕ → Bool) → (ℕ → ℕ) → ℕ → Type 0
Apart p f k = (i j : ℕ) → i < j → j < k → p i ≡ true → p j ≡ true → f i ≡ f j → ⊥

pub pigeons : (p : ℕ → Bool) (f : ℕ → ℕ) (n k : ℕ) (r : ℕ → Bool) → Into p r f n k → Apart p f k → count p k ≤ count r n
pigeons p f n zero r into apart = omega (arith, count_none p)
pigeons p f n (suc k) r into apart = go (cases_Bool (p k)) (pigeons p f n k)
  where
    go : (p k ≡ true) ⊎ (p k ≡ false) → ((r' : ℕ → Bool) → Into p r' f n k → Apart p f k → count p k ≤ count r' n) → count p (suc k) ≤ count r n
    go (inl e) more =
        let here = into k (omega arith) e in
        let less = more (without r (f k)) (λ i h t. ((into i (omega arith) t).0, without_other r (f k) (f i) (apart i k h (omega arith) t e) (into i (omega arith) t).1)) (λ i j h l. apart i j h (omega arith)) in
        omega (arith, count_yes p k e, less, one_less r (f k) n here.0 here.1)
    go (inr e) more = omega (arith, count_no p k e, more r (λ i h t. into i (omega arith) t) (λ i j h l. apart i j h (omega arith)))

-- a set and the rest
pub both_count : (p : ℕ → Bool) (n : ℕ) → count p n + count (λ x. not (p x)) n ≡ n
both_count p zero = omega (arith, count_none p, count_none (λ x. not (p x)))
both_count p (suc n) = go (cases_Bool (p n)) (both_count p n)
  where
    go : (p n ≡ true) ⊎ (p n ≡ false) → count p n + count (λ x. not (p x)) n ≡ n → count p (suc n) + count (λ x. not (p x)) (suc n) ≡ suc n
    go (inl e) more = omega (arith, count_yes p n e, count_no (λ x. not (p x)) n (not_from_true (p n) e))
    go (inr e) more = omega (arith, count_no p n e, count_yes (λ x. not (p x)) n (not_from_false (p n) e))
