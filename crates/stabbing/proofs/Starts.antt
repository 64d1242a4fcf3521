-- A line that is found from the first left post among the first crossings is the first of all.
use Rattle.std.proofs.Common.{◌≡◌, ℕ, zero, suc, ◌<◌, Bool, true, false, cond, List, [], ◌∷◌, ◌++◌, length, get_or, take, drop, Some, sym, refl, ap, ◌∙◌, subst, arith}
use Rattle.std.specs.List.{AllByRecursion}
use Rattle.std.proofs.lemmas.List.{take-append-drop}
use Rattle.plane.specs.declared.quad.Quad.{Quad}
use Rattle.plane.specs.First.{first}
use Rattle.plane.specs.Lines.{posts, through}
use Rattle.plane.specs.Separation.{Coefficients, Point, left, right}
use Rattle.plane.specs.Tests.{same_point}
use Rattle.stabbing.specs.Exact.{fan, tries}
use Rattle.std.proofs.lemmas.Option.{none-some}

pub all_take : {X : Type 0} (P : X → Type 0) (n : ℕ) (xs : List X) → AllByRecursion P xs → AllByRecursion P (take n xs)
all_take P zero xs h = tt
all_take P (suc n) [] h = tt
all_take P (suc n) (x ∷ xs) h = (h.0, all_take P n xs h.1)

posts_append : (p q : List Quad) → posts (p ++ q) ≡ posts p ++ posts q
posts_append [] q = refl
posts_append (x ∷ p) q = ap (λ (v : List Point). left x ∷ right x ∷ v) (posts_append p q)

-- what is first in a front is first in all
first_front : {X : Type 0} (t : X → Bool) (xs ys : List X) (x : X) → first t xs ≡ Some x → first t (xs ++ ys) ≡ Some x
first_front t [] ys x e = absurd (none-some x e)
first_front t (y ∷ xs) ys x e =
    elim (t y) as (λ b. cond b (Some y) (first t xs) ≡ Some x → cond b (Some y) (first t (xs ++ ys)) ≡ Some x) [
      | true ↦ λ k. k
      | false ↦ λ k. first_front t xs ys x k
    ] e

fan_append : (P : Point) (Qs Rs : List Point) → fan P (Qs ++ Rs) ≡ fan P Qs ++ fan P Rs
fan_append P [] Rs = refl
fan_append P (Q ∷ Qs) Rs =
    elim (same_point P Q) as (λ b. cond b (fan P (Qs ++ Rs)) (through P Q ∷ fan P (Qs ++ Rs)) ≡ cond b (fan P Qs) (through P Q ∷ fan P Qs) ++ fan P Rs) [
      | true ↦ fan_append P Qs Rs
      | false ↦ ap (λ (v : List Coefficients). through P Q ∷ v) (fan_append P Qs Rs)
    ]

pub start_first :
    (t : Coefficients → Bool) (path : List Quad) (n : ℕ) (d : Quad) (P : Point) (l : Coefficients) → 0 < length path
    → P ≡ left (get_or path 0 d) → first t (fan P (posts (take n path))) ≡ Some l → first t (tries (posts path) (posts path)) ≡ Some l
start_first t [] n d P l h e k = absurd (omega arith)
start_first t (q ∷ p) n d P l h e k =
    let path : List Quad = q ∷ p in
    let split : posts path ≡ posts (take n path) ++ posts (drop n path) =
    ap posts (sym (take-append-drop n path)) ∙ posts_append (take n path) (drop n path) in
    let found : first t (fan P (posts path)) ≡ Some l =
    ap (λ (v : List Point). first t (fan P v)) split
    ∙ ap (first t) (fan_append P (posts (take n path)) (posts (drop n path)))
    ∙ first_front t (fan P (posts (take n path))) (fan P (posts (drop n path))) l k in
    first_front t (fan (left q) (posts path)) (tries (right q ∷ posts p) (posts path)) l
    (subst (λ (v : Point). first t (fan v (posts path)) ≡ Some l) e found)
