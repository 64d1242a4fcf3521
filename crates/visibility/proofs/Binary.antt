-- Binary numbers and their bits, and the bytes of a row.
use Rattle.std.proofs.Common.{◌≡◌, ℕ, zero, suc, ◌+◌, ◌-◌, ◌*◌, ◌/◌, ◌%◌, ◌^◌, ◌<◌, ◌≤◌, Bool, true, false, cond, ◌&&◌, eqb, List, get_or, sym, refl, ap, ◌∙◌, subst, add-zero, mul-one, div-one, mul_left_comm, arith}
use native.Mathlib.Nat.{div-eq_of_lt}
use Rattle.std.proofs.lemmas.Nat.{pow-add, shr-shr, shr_below, shl_whole, mod_below}
use Rattle.std.proofs.lemmas.Bool.{lt-ltb, le-ltb}
use Rattle.visibility.specs.Bits.{bit, shown}
use Rattle.visibility.specs.Bitmaps.{binary, below, octet}
use Rattle.visibility.specs.Sets.{Numbers}

digit_le : (b : Bool) → cond b 1 0 ≤ 1
digit_le true = omega arith
digit_le false = omega arith

digit_is : (b : Bool) → eqb (cond b 1 0) 1 ≡ b
digit_is true = refl
digit_is false = refl

digit_of : (x : ℕ) → x < 2 → cond (eqb x 1) 1 0 ≡ x
digit_of zero l = refl
digit_of (suc zero) l = refl
digit_of (suc (suc x)) l = absurd (omega arith)

-- a binary number depends on its digits alone
pub binary_same : (m : ℕ) (s t : Numbers) → ((i : ℕ) → i < m → s i ≡ t i) → binary m s ≡ binary m t
unfolding binary
binary_same zero s t h = refl
binary_same (suc m) s t h =
    let here : s m ≡ t m = h m (omega arith) in
    let front : binary m s ≡ binary m t = binary_same m s t (λ i l. h i (omega arith)) in
    rw (here, front)

-- without its last j digits
binary_cut : (m j : ℕ) (s : Numbers) → binary (j + m) s / 2 ^ j ≡ binary m s
unfolding binary
binary_cut m zero s = let z : 0 + m ≡ m = omega arith in ap (λ (k : ℕ). binary k s / 1) z ∙ div-one (binary m s)
binary_cut m (suc j) s =
    let z : suc j + m ≡ suc (j + m) = omega arith in
    let y : 1 + j ≡ suc j = omega arith in
    let one = digit_le (s (j + m)) in
    let half : (2 * binary (j + m) s + cond (s (j + m)) 1 0) / 2 ≡ binary (j + m) s = omega arith in
    ap (λ (k : ℕ). binary k s / 2 ^ suc j) z
    ∙ ap (λ (k : ℕ). binary (suc (j + m)) s / 2 ^ k) (sym y)
    ∙ sym (shr-shr (binary (suc (j + m)) s) 1 j)
    ∙ ap (λ (x : ℕ). x / 2 ^ j) half
    ∙ binary_cut m j s

pub binary_below : (m : ℕ) (s : Numbers) → binary m s < 2 ^ m
unfolding binary
binary_below zero s = omega arith
binary_below (suc m) s =
    let z : 1 + m ≡ suc m = omega arith in
    let twice : 2 ^ suc m ≡ 2 * 2 ^ m = ap (λ (k : ℕ). 2 ^ k) (sym z) ∙ pow-add 2 1 m in
    let one = digit_le (s m) in
    let front = binary_below m s in
    omega arith

-- digit i of a byte is its bit 7 − i
pub bit_binary : (s : Numbers) (i : ℕ) → i < 8 → bit (binary 8 s) (7 - i) ≡ s i
unfolding binary
bit_binary s i l =
    let z : 8 ≡ 7 - i + suc i = omega arith in
    let one = digit_le (s i) in
    let last : (2 * binary i s + cond (s i) 1 0) % 2 ≡ cond (s i) 1 0 = omega arith in
    ap (λ (v : ℕ). eqb (v % 2) 1) (ap (λ (k : ℕ). binary k s / 2 ^ (7 - i)) z ∙ binary_cut (suc i) (7 - i) s)
    ∙ ap (λ (v : ℕ). eqb v 1) last
    ∙ digit_is (s i)

-- the first m digits of a byte
byte_front : (v m : ℕ) → v < 256 → m ≤ 8 → binary m (λ i. bit v (7 - i)) ≡ v / 2 ^ (8 - m)
unfolding binary
byte_front v zero h l = sym (div-eq_of_lt h)
byte_front v (suc m) h l =
    let z : 8 - m ≡ 7 - m + 1 = omega arith in
    let y : 7 - m ≡ 8 - suc m = omega arith in
    let x = v / 2 ^ (7 - m) in
    let whole : 2 * (x / 2) + x % 2 ≡ x = omega arith in
    ap (λ (n : ℕ). 2 * n + cond (bit v (7 - m)) 1 0)
    (byte_front v m h (omega arith) ∙ ap (λ (k : ℕ). v / 2 ^ k) z ∙ sym (shr-shr v (7 - m) 1))
    ∙ ap (λ (n : ℕ). 2 * (x / 2) + n) (digit_of (x % 2) (mod_below x 2 (omega arith)))
    ∙ whole
    ∙ ap (λ (k : ℕ). v / 2 ^ k) y

-- digits that are 0 at the end
binary_zeros : (m j : ℕ) (s : Numbers) → ((i : ℕ) → m ≤ i → i < j + m → s i ≡ false) → binary (j + m) s ≡ binary m s * 2 ^ j
unfolding binary
binary_zeros m zero s h = let z : 0 + m ≡ m = omega arith in ap (λ (k : ℕ). binary k s) z ∙ sym (mul-one (binary m s))
binary_zeros m (suc j) s h =
    let z : suc j + m ≡ suc (j + m) = omega arith in
    let y : 1 + j ≡ suc j = omega arith in
    let twice : 2 ^ suc j ≡ 2 * 2 ^ j = ap (λ (k : ℕ). 2 ^ k) (sym y) ∙ pow-add 2 1 j in
    let front : binary (j + m) s ≡ binary m s * 2 ^ j = binary_zeros m j s (λ i a b. h i a (omega arith)) in
    let here : s (j + m) ≡ false = h (j + m) (omega arith) (omega arith) in
    ap (λ (k : ℕ). binary k s) z
    ∙ ap (λ (b : Bool). 2 * binary (j + m) s + cond b 1 0) here
    ∙ add-zero (2 * binary (j + m) s)
    ∙ ap (λ (n : ℕ). 2 * n) front
    ∙ mul_left_comm 2 (binary m s) (2 ^ j)
    ∙ ap (λ (n : ℕ). binary m s * n) (sym twice)

-- byte k of a row of n pixels is the row's own byte, with its spare bits made 0
pub octet_masked :
    (xs : List ℕ) (n k spare : ℕ) → get_or xs k 0 < 256 → 8 * k < n → spare ≡ 8 * k + 8 - n
    → (get_or xs k 0 / 2 ^ spare * 2 ^ spare) % 256 ≡ octet n (shown xs) k
unfolding octet
octet_masked xs n k spare h l e =
    let v = get_or xs k 0 in
    let m : ℕ = 8 - spare in
    let z : 8 ≡ spare + m = omega arith in
    let y : 8 - m ≡ spare = omega arith in
    let wide : 8 ≡ m + spare = omega arith in
    let same : (i : ℕ) → i < m → below n (shown xs) (8 * k + i) ≡ bit v (7 - i) =
    λ i a.
    let place : (8 * k + i) / 8 ≡ k = omega arith in
    let turn : (8 * k + i) % 8 ≡ i = omega arith in
    ap (λ (b : Bool). b && shown xs (8 * k + i)) (lt-ltb (8 * k + i) n (omega arith))
    ∙ ap (λ (j : ℕ). bit (get_or xs j 0) (7 - (8 * k + i) % 8)) place
    ∙ ap (λ (j : ℕ). bit v (7 - j)) turn in
    let past : (i : ℕ) → m ≤ i → i < spare + m → below n (shown xs) (8 * k + i) ≡ false =
    λ i a b. ap (λ (t : Bool). t && shown xs (8 * k + i)) (le-ltb (8 * k + i) n (omega arith)) in
    shl_whole (v / 2 ^ spare) m spare 8 (shr_below v m spare (subst (λ (j : ℕ). v < 2 ^ j) wide h)) (omega arith)
    ∙ ap (λ (j : ℕ). v / 2 ^ j * 2 ^ spare) (sym y)
    ∙ ap (λ (j : ℕ). j * 2 ^ spare) (sym (byte_front v m h (omega arith)) ∙ sym (binary_same m _ _ same))
    ∙ sym (binary_zeros m spare (λ i. below n (shown xs) (8 * k + i)) past)
    ∙ ap (λ (j : ℕ). binary j (λ i. below n (shown xs) (8 * k + i))) (sym z)
