-- Filled marks that are taken away, one by one.
use Rattle.std.proofs.Common.{◌≡◌, ℕ, ◌+◌, ◌<◌, ◌≤◌, Bool, true, false, cond, not, ◌&&◌, List, length, set, sym, refl, ap, ◌∙◌, subst, ⊎_elim, arith}
use Rattle.std.proofs.lemmas.List.{get_or-set_same, get_or-set_other}
use Rattle.std.proofs.lemmas.Bool.{cases_eq, false≢true}
use Rattle.visibility.specs.Sets.{Numbers, number, marks, both, without}
use Rattle.visibility.proofs.Numbers.{number_more, number_none}

-- of the numbers below a, those of `touch` were taken from `old`, and there were `count` of them
abbrev pub Unfilling : Numbers → Numbers → ℕ → ℕ → List Bool → Type 0
Unfilling old touch a count xs =
    (count ≤ a)
    × (count ≡ number a (both old touch))
    × ((i : ℕ) → i < a → marks xs i ≡ without old touch i)
    × ((i : ℕ) → a ≤ i → marks xs i ≡ old i)

pub unfilling_none : (touch : Numbers) (xs : List Bool) → Unfilling (marks xs) touch 0 0 xs
unfilling_none touch xs = (omega arith, sym (number_none (both (marks xs) touch)), λ i l. absurd (omega arith), λ i l. refl)

gone : (o t : Bool) → (o && t) ≡ true → (o && not t) ≡ false
gone true true h = refl
gone true false h = absurd (false≢true h)
gone false t h = refl

kept : (o t : Bool) → (o && t) ≡ false → o ≡ (o && not t)
kept true true h = h
kept true false h = refl
kept false t h = refl

module _ (old touch : Numbers) (a count : ℕ) (xs : List Bool) (was : Unfilling old touch a count xs) where
  -- what the test of row a says
  pub unfilling_test : (b : Bool) → b ≡ both (marks xs) touch a → b ≡ both old touch a
  unfilling_test b h = h ∙ ap (λ (o : Bool). o && touch a) (was.3 a (omega arith))

  pub unfilling_yes : a < length xs → both old touch a ≡ true → Unfilling old touch (a + 1) (count + 1) (set xs a false)
  unfilling_yes l h =
      let more = number_more a (both old touch) ∙ ap (λ (b : Bool). cond b 1 0 + number a (both old touch)) h in (
        omega (arith, was.0),
        omega (arith, more, was.1),
        λ i j. ⊎_elim
            (λ (e : i ≡ a).
            subst (λ (n : ℕ). marks (set xs a false) n ≡ without old touch n) (sym e)
            (get_or-set_same xs a false false l ∙ sym (gone (old a) (touch a) h)))
            (λ (ne : i ≡ a → ⊥). get_or-set_other xs a i false false ne ∙ was.2 i (omega arith))
            (cases_eq i a),
        λ i j. get_or-set_other xs a i false false (λ (e : i ≡ a). omega arith) ∙ was.3 i (omega arith),
      )

  pub unfilling_no : both old touch a ≡ false → Unfilling old touch (a + 1) count xs
  unfilling_no h =
      let more = number_more a (both old touch) ∙ ap (λ (b : Bool). cond b 1 0 + number a (both old touch)) h in (
        omega (arith, was.0),
        omega (arith, more, was.1),
        λ i j. ⊎_elim
            (λ (e : i ≡ a).
            subst (λ (n : ℕ). marks xs n ≡ without old touch n) (sym e) (was.3 a (omega arith) ∙ kept (old a) (touch a) h))
            (λ (ne : i ≡ a → ⊥). was.2 i (omega arith))
            (cases_eq i a),
        λ i j. was.3 i (omega arith),
      )

pub unfilling_at :
    (old touch : Numbers) (a count m : ℕ) (xs ys : List Bool)
    → m ≡ count → ys ≡ xs → Unfilling old touch a count xs → Unfilling old touch a m ys
unfilling_at old touch a count m xs ys hm hx h =
    (omega (arith, hm, h.0), hm ∙ h.1, λ i l. ap (λ (v : List Bool). marks v i) hx ∙ h.2 i l, λ i l. ap (λ (v : List Bool). marks v i) hx ∙ h.3 i l)
