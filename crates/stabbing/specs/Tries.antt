-- The first line that passes, fan by fan and point by point.
use Rattle.std.proofs.Common.{◌≡◌, Bool, true, false, cond, List, [], ◌∷◌, ◌++◌, Some, None, Option, refl}
use Rattle.std.specs.Option.{option_or}
use Rattle.plane.specs.First.{first}
use Rattle.plane.specs.Lines.{through}
use Rattle.plane.specs.Separation.{Point, Coefficients}
use Rattle.plane.specs.Tests.{same_point}
use Rattle.stabbing.specs.Exact.{fan, tries}

pub or_assoc : {X : Type 0} (a b c : Option X) → option_or (option_or a b) c ≡ option_or a (option_or b c)
or_assoc None b c = refl
or_assoc (Some x) b c = refl

module _ (t : Coefficients → Bool) where
  first_append : (xs ys : List Coefficients) → first t (xs ++ ys) ≡ option_or (first t xs) (first t ys)
  first_append [] ys = refl
  first_append (x ∷ xs) ys =
      elim (t x) as (λ b. cond b (Some x) (first t (xs ++ ys)) ≡ option_or (cond b (Some x) (first t xs)) (first t ys)) [ true ↦ refl | false ↦ first_append xs ys ]

  -- one point more
  pub fan_more : (P Q : Point) (Qs : List Point) → first t (fan P (Q ∷ Qs)) ≡ option_or (first t (fan P (Q ∷ []))) (first t (fan P Qs))
  fan_more P Q Qs =
      elim (same_point P Q) as (λ b. first t (cond b (fan P Qs) (through P Q ∷ fan P Qs)) ≡ option_or (first t (cond b [] (through P Q ∷ []))) (first t (fan P Qs))) [
        | true ↦ refl
        | false ↦ first_append (through P Q ∷ []) (fan P Qs)
      ]

  pub tries_more : (P : Point) (Ps Qs : List Point) → first t (tries (P ∷ Ps) Qs) ≡ option_or (first t (fan P Qs)) (first t (tries Ps Qs))
  tries_more P Ps Qs = first_append (fan P Qs) (tries Ps Qs)
