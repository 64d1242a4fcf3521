-- Sets of numbers: one more element, and how many are left.
use Rattle.std.proofs.Common.{◌≡◌, ℕ, zero, suc, ◌+◌, ◌<◌, ◌≤◌, Bool, true, false, cond, not, ◌||◌, eqb, ◌≢◌, List, length, get_or, set, replicate, sym, refl, ap, ◌∙◌, subst, ⊎_elim, add-one, arith}
use mathlib.Core.Path.{fun_ext}
use Rattle.std.proofs.lemmas.Bool.{cases_eq, eq-eqb, ne_eqb, cases_Bool}
use Rattle.std.proofs.lemmas.List.{get_or-set_same, get_or-set_other}
use Rattle.visibility.specs.Sets.{Numbers, none, only, with, number, free, marks}

-- the mark that is set is the element that is added
pub marks_set : (xs : List Bool) (b : ℕ) → b < length xs → marks (set xs b true) ≡ with (marks xs) b
marks_set xs b h =
    fun_ext
    (λ x. ⊎_elim
    (λ e. subst (λ (y : ℕ). get_or (set xs b true) y false ≡ (eqb y b || get_or xs y false)) (sym e)
    (get_or-set_same xs b true false h ∙ ap (λ t. t || get_or xs b false) (sym (eq-eqb b b refl))))
    (λ ne. get_or-set_other xs b x true false ne ∙ ap (λ t. t || get_or xs x false) (sym (ne_eqb x b ne)))
    (cases_eq x b))

-- how many of the numbers below n are in a set depends on those alone
pub number_same : (n : ℕ) (s t : Numbers) → ((x : ℕ) → x < n → s x ≡ t x) → number n s ≡ number n t
unfolding number
number_same zero s t h = refl
number_same (suc n) s t h =
    let here : s n ≡ t n = h n (omega arith) in
    let below : number n s ≡ number n t = number_same n s t (λ x l. h x (omega arith)) in
    rw (here, below)

-- an element less, and one fewer
pub number_less :
    (n : ℕ) (s t : Numbers) (b : ℕ) → b < n → s b ≡ true → t b ≡ false → ((x : ℕ) → x ≢ b → s x ≡ t x)
    → number n s ≡ suc (number n t)
unfolding number
number_less zero s t b l hs ht same = absurd (omega arith)
number_less (suc n) s t b l hs ht same =
    ⊎_elim
    (λ (e : b ≡ n).
    let sn : s n ≡ true = subst (λ x. s x ≡ true) e hs in
    let tn : t n ≡ false = subst (λ x. t x ≡ false) e ht in
    let below : number n s ≡ number n t = number_same n s t (λ x h. same x (omega arith)) in
    rw (sn, tn, below) (omega arith))
    (λ (ne : b ≡ n → ⊥).
    let here : s n ≡ t n = same n (omega arith) in
    let below : number n s ≡ suc (number n t) = number_less n s t b (omega arith) hs ht same in
    rw (here, below) (omega arith))
    (cases_eq b n)

-- entering a room leaves one fewer to enter
pub free_with : (n : ℕ) (e : Numbers) (b : ℕ) → b < n → e b ≡ false → free n e ≡ suc (free n (with e b))
free_with n e b l h =
    number_less n (λ x. not (e x)) (λ x. not (with e b x)) b l
    (ap not h)
    (ap (λ t. not (t || e b)) (eq-eqb b b refl))
    (λ x ne. ap (λ t. not (t || e x)) (sym (ne_eqb x b ne)))

pub number_more : (n : ℕ) (s : Numbers) → number (n + 1) s ≡ cond (s n) 1 0 + number n s
unfolding number
number_more n s = ap (λ m. number m s) (add-one n)

pub number_none : (s : Numbers) → number 0 s ≡ 0
unfolding number
number_none s = refl

pub number_le : (n : ℕ) (s : Numbers) → number n s ≤ n
unfolding number
number_le zero s = omega arith
number_le (suc n) s =
    let h = number_le n s in
    let one : cond (s n) 1 0 ≤ 1 =
    ⊎_elim
    (λ (t : s n ≡ true). subst (λ (v : Bool). cond v 1 0 ≤ 1) (sym t) (omega arith))
    (λ (f : s n ≡ false). subst (λ (v : Bool). cond v 1 0 ≤ 1) (sym f) (omega arith))
    (cases_Bool (s n)) in
    omega arith

-- numbers that are in no set count nothing
pub number_wide : (n d : ℕ) (s : Numbers) → ((x : ℕ) → n ≤ x → s x ≡ false) → number (d + n) s ≡ number n s
unfolding number
number_wide n zero s h = let z : 0 + n ≡ n = omega arith in ap (λ m. number m s) z
number_wide n (suc d) s h =
    let z : suc d + n ≡ suc (d + n) = omega arith in
    ap (λ m. number m s) z
    ∙ ap (λ (v : Bool). cond v 1 0 + number (d + n) s) (h (d + n) (omega arith))
    ∙ (let y : 0 + number (d + n) s ≡ number (d + n) s = omega arith in y)
    ∙ number_wide n d s h

falses : (n i : ℕ) → get_or (replicate n false) i false ≡ false
falses zero i = refl
falses (suc n) zero = refl
falses (suc n) (suc i) = falses n i

pub marks_none : (n : ℕ) → marks (replicate n false) ≡ none
marks_none n = fun_ext (λ x. falses n x)

-- marking one place of none leaves just that
pub marks_only : (xs : List Bool) (a : ℕ) → marks xs ≡ none → a < length xs → marks (set xs a true) ≡ only a
marks_only xs a h l =
    marks_set xs a l ∙ ap (λ (s : Numbers). with s a) h
    ∙ fun_ext (λ x. ⊎_elim
    (λ (t : eqb x a ≡ true). ap (λ (b : Bool). b || false) t ∙ sym t)
    (λ (f : eqb x a ≡ false). ap (λ (b : Bool). b || false) f ∙ sym f)
    (cases_Bool (eqb x a)))
