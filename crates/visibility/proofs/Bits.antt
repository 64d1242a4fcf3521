-- The bits of a row's bytes.
use Rattle.std.proofs.Common.{◌≡◌, ℕ, zero, suc, ◌+◌, ◌-◌, ◌/◌, ◌%◌, ◌^◌, ◌<◌, ◌≤◌, ◌||◌, eqb, List, length, get_or, replicate, sym, refl, ap, ◌∙◌, subst, ⊎_elim, one-mul, arith}
use mathlib.Core.Path.{fun_ext}
use native.Mathlib.Nat.{div-eq_of_lt, zero-div}
use lib.Bits.{bit_or, or_zero_r, shifted_even}
use Rattle.std.proofs.lemmas.Nat.{pow-add, pow_below, shl-shr, or_shr, or_mod, one_shl, mod_below}
use Rattle.std.proofs.lemmas.Bool.{cases_eq, cases_lt, eq-eqb, ne_eqb}
use Rattle.std.proofs.lemmas.List.{get_or-set_same, get_or-set_other}
use Rattle.visibility.specs.Bits.{bit, shown, marked}
use Rattle.visibility.specs.Sets.{none, with}

zeros : (n i : ℕ) → ◌≡◌ {A = ℕ} (get_or (replicate n 0) i 0) 0
zeros zero i = refl
zeros (suc n) zero = refl
zeros (suc n) (suc i) = zeros n i

-- bytes of 0 show no room
pub shown_zeros : (n : ℕ) → shown (replicate n 0) ≡ none
shown_zeros n = fun_ext (λ b. ap (λ v. bit v (7 - b % 8)) (zeros n (b / 8)) ∙ ap (λ v. eqb (v % 2) 1) (zero-div (2 ^ (7 - b % 8))))

-- bit i of a power of two
power_above : (i d : ℕ) → 2 ^ (suc d + i) / 2 ^ i % 2 ≡ 0
power_above i d =
    ap (λ v. v / 2 ^ i % 2) (pow-add 2 (suc d) i)
    ∙ ap (λ v. v % 2) (shl-shr (2 ^ suc d) i)
    ∙ ap (λ v. v % 2) (sym (one-mul (2 ^ suc d)))
    ∙ shifted_even 1 d

power_same : (i : ℕ) → 2 ^ i / 2 ^ i % 2 ≡ 1
power_same i = ap (λ v. v / 2 ^ i % 2) (sym (one-mul (2 ^ i))) ∙ ap (λ v. v % 2) (shl-shr 1 i)

power_other : (i j : ℕ) → (i ≡ j → ⊥) → 2 ^ j / 2 ^ i % 2 ≡ 0
power_other i j ne =
    ⊎_elim
    (λ (l : i < j).
    let d : ℕ = j - suc i in
    let e : j ≡ suc d + i = omega arith in
    subst (λ (n : ℕ). 2 ^ n / 2 ^ i % 2 ≡ 0) (sym e) (power_above i d))
    (λ (l : j ≤ i).
    let s : j < i = omega arith in
    ap (λ v. v % 2) (div-eq_of_lt (pow_below j i s)))
    (cases_lt i j)

or_one : (u : ℕ) → u < 2 → bit_or u 1 ≡ 1
or_one zero l = refl
or_one (suc zero) l = refl
or_one (suc (suc u)) l = absurd (omega arith)

-- bit i of a byte in which bit j was set
bit_of_or : (v i j : ℕ) → bit (bit_or v (2 ^ j)) i ≡ (eqb i j || bit v i)
bit_of_or v i j =
    let split : bit_or v (2 ^ j) / 2 ^ i % 2 ≡ bit_or (v / 2 ^ i % 2) (2 ^ j / 2 ^ i % 2) =
    ap (λ n. n % 2) (or_shr v (2 ^ j) i) ∙ or_mod (v / 2 ^ i) (2 ^ j / 2 ^ i) 1 in
    ⊎_elim
    (λ (e : i ≡ j).
    ap (λ n. eqb n 1)
    (split
    ∙ ap (λ n. bit_or (v / 2 ^ i % 2) n) (subst (λ (n : ℕ). 2 ^ n / 2 ^ i % 2 ≡ 1) e (power_same i))
    ∙ or_one (v / 2 ^ i % 2) (mod_below (v / 2 ^ i) 2 (omega arith)))
    ∙ ap (λ t. t || bit v i) (sym (eq-eqb i j e)))
    (λ (ne : i ≡ j → ⊥).
    ap (λ n. eqb n 1)
    (split ∙ ap (λ n. bit_or (v / 2 ^ i % 2) n) (power_other i j ne) ∙ or_zero_r (v / 2 ^ i % 2))
    ∙ ap (λ t. t || bit v i) (sym (ne_eqb i j ne)))
    (cases_eq i j)

-- a room's bit that was set shows the room too
pub shown_marked : (xs : List ℕ) (b : ℕ) → b / 8 < length xs → shown (marked xs b) ≡ with (shown xs) b
shown_marked xs b h =
    fun_ext
    (λ x. ⊎_elim
    (λ (e : x / 8 ≡ b / 8).
    let same : get_or (marked xs b) (x / 8) 0 ≡ bit_or (get_or xs (x / 8) 0) (2 ^ (7 - b % 8)) =
    subst (λ (n : ℕ). get_or (marked xs b) n 0 ≡ bit_or (get_or xs n 0) (2 ^ (7 - b % 8))) (sym e)
    (get_or-set_same xs (b / 8) _ 0 h
    ∙ ap (λ n. bit_or (get_or xs (b / 8) 0) n) (one_shl (7 - b % 8) 8 (omega arith))) in
    ap (λ v. bit v (7 - x % 8)) same
    ∙ bit_of_or (get_or xs (x / 8) 0) (7 - x % 8) (7 - b % 8)
    ∙ ap (λ t. t || shown xs x)
    (⊎_elim
    (λ (y : x ≡ b). eq-eqb (7 - x % 8) (7 - b % 8) (ap (λ n. 7 - n % 8) y) ∙ sym (eq-eqb x b y))
    (λ (ne : x ≡ b → ⊥).
    ne_eqb (7 - x % 8) (7 - b % 8) (λ y. ne (omega arith)) ∙ sym (ne_eqb x b ne))
    (cases_eq x b)))
    (λ (ne : x / 8 ≡ b / 8 → ⊥).
    ap (λ v. bit v (7 - x % 8)) (get_or-set_other xs (b / 8) (x / 8) _ 0 ne)
    ∙ ap (λ t. t || shown xs x) (sym (ne_eqb x b (λ y. ne (ap (λ n. n / 8) y)))))
    (cases_eq (x / 8) (b / 8)))
