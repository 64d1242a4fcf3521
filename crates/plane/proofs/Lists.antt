-- Two facts about lists: what holds of each element, and a least element.
use Rattle.std.proofs.Common.{List, [], ◌∷◌, ℤ, ◌≤ℤ◌, arith}
use lib.Signed.{≤ℤ_refl}
use Rattle.std.specs.List.{AllByRecursion}
use Rattle.std.proofs.ByRecursion.{All-weaker}
use Rattle.std.proofs.lemmas.Int.{by_lt_z}
use Rattle.plane.proofs.Integers.{linear}

-- two things that hold of each element hold together
pub all_both : {X : Type 0} (P Q : X → Type 0) (xs : List X) → AllByRecursion P xs → AllByRecursion Q xs → AllByRecursion (λ x. P x × Q x) xs
all_both P Q [] h k = tt
all_both P Q (x ∷ xs) (p, h) (q, k) = ((p, q), all_both P Q xs h k)

-- some element has the least f; it keeps what holds of each
pub least : {X : Type 0} (f : X → ℤ) (P : X → Type 0) (x : X) (xs : List X) → AllByRecursion P (x ∷ xs) →
    (m : X) × P m × AllByRecursion (λ y. f m ≤ℤ f y) (x ∷ xs)
least f P x [] (p, h) = (x, p, (≤ℤ_refl (f x), tt))
least f P x (y ∷ ys) (p, h) =
    let (m, q, low) = least f P y ys h in
    by_lt_z (f x) (f m)
    (λ below. (x, p, (≤ℤ_refl (f x), All-weaker _ _ (λ z k. omega (arith, linear)) (y ∷ ys) low)))
    λ above. (m, q, (above, low))
