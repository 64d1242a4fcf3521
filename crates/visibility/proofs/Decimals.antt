-- The decimal numerals of numbers below 1,000.
use Rattle.std.proofs.Common.{◌≡◌, ℕ, ◌+◌, ◌/◌, ◌%◌, ◌<◌, ◌≤◌, List, [], ◌∷◌, ◌++◌, decimal, sym, ap, ◌∙◌, subst, ⊎_elim, arith}
use Rattle.std.proofs.lemmas.Fmt.{decimal_digit, decimal_step}
use Rattle.std.proofs.lemmas.Bool.{cases_lt}
use Rattle.visibility.specs.Decimals.{Numeral}

pub one_digit : (n : ℕ) → n < 10 → decimal n ≡ (48 + n % 10) ∷ []
one_digit n h = let e : 48 + n ≡ 48 + n % 10 = omega arith in decimal_digit n h ∙ ap (λ (d : ℕ). d ∷ []) e

pub two_digits : (n : ℕ) → 10 ≤ n → n < 100 → decimal n ≡ (48 + n / 10 % 10) ∷ (48 + n % 10) ∷ []
two_digits n l h =
    decimal_step n l (omega arith) ∙ ap (λ (ds : List ℕ). ds ++ (48 + n % 10) ∷ []) (one_digit (n / 10) (omega arith))

pub three_digits : (n : ℕ) → 100 ≤ n → n < 1000 → decimal n ≡ (48 + n / 100) ∷ (48 + n / 10 % 10) ∷ (48 + n % 10) ∷ []
three_digits n l h =
    let top : 48 + n / 10 / 10 % 10 ≡ 48 + n / 100 = omega arith in
    decimal_step n (omega arith) (omega arith)
    ∙ ap (λ (ds : List ℕ). ds ++ (48 + n % 10) ∷ []) (two_digits (n / 10) (omega arith) (omega arith))
    ∙ ap (λ (d : ℕ). d ∷ (48 + n / 10 % 10) ∷ (48 + n % 10) ∷ []) top

pub numeral_decimal : (n : ℕ) → 1 ≤ n → n < 1000 → Numeral (decimal n) n
numeral_decimal n l h =
    ⊎_elim
    (λ (a : n < 10).
    subst (λ (ds : List ℕ). Numeral ds n) (sym (one_digit n a))
    record { digits = ((omega arith, omega arith), tt); first = omega arith; value = omega arith })
    (λ (a : 10 ≤ n).
    ⊎_elim
    (λ (b : n < 100).
    subst (λ (ds : List ℕ). Numeral ds n) (sym (two_digits n a b))
    record {
      digits = ((omega arith, omega arith), ((omega arith, omega arith), tt));
      first = omega arith;
      value = omega arith;
    })
    (λ (b : 100 ≤ n).
    subst (λ (ds : List ℕ). Numeral ds n) (sym (three_digits n b h))
    record {
      digits = ((omega arith, omega arith), ((omega arith, omega arith), ((omega arith, omega arith), tt)));
      first = omega arith;
      value = omega arith;
    })
    (cases_lt n 100))
    (cases_lt n 10)
