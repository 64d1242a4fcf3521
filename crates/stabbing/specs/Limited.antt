-- A line through two posts of a path is a line within the limits.
use Rattle.std.proofs.Common.{◌≡◌, ◌≤◌, true, false, cond, List, [], ◌∷◌, ℤ, ◌-ℤ◌, ◌*ℤ◌, nat_abs, refl, arith}
use Rattle.std.proofs.ByRecursion.{All-append}
use Rattle.std.proofs.lemmas.Int.{ints}
use Rattle.std.proofs.lemmas.Bool.Decides.{not_from_Decides}
use Rattle.std.specs.List.{AllByRecursion}
use Rattle.plane.specs.declared.quad.Quad.{Quad}
use Rattle.plane.specs.Limits.{Crosses, InLimits, PostAt}
use Rattle.plane.specs.Lines.{posts, through}
use Rattle.plane.specs.Separation.{Point, Proper}
use Rattle.plane.specs.Tests.{same_point}
use Rattle.plane.proofs.Directions.{through_proper}
use Rattle.plane.proofs.Products.{product_within}
use Rattle.plane.proofs.Tests.{same_point_decides}
use Rattle.stabbing.specs.Exact.{fan, tries}

difference_within : (x y : ℤ) → nat_abs x ≤ 100000000 → nat_abs y ≤ 100000000 → nat_abs (x -ℤ y) ≤ 200000000
difference_within x y h k = omega (arith, ints)

narrow_within : (x y : ℤ) → nat_abs x ≤ 10000 → nat_abs y ≤ 10000 → nat_abs (x -ℤ y) ≤ 20000
narrow_within x y h k = omega (arith, ints)

through_limits : (P Q : Point) → PostAt P → PostAt Q → InLimits (through P Q)
through_limits P Q (px, py) (qx, qy) = (
  narrow_within P.1 Q.1 py qy,
  narrow_within Q.0 P.0 qx px,
  difference_within (P.0 *ℤ Q.1) (Q.0 *ℤ P.1) (product_within P.0 Q.1 10000 10000 px qy) (product_within Q.0 P.1 10000 10000 qx py),
)

pub fan_limited : (P : Point) (Qs : List Point) → PostAt P → AllByRecursion PostAt Qs → AllByRecursion (λ l. Proper l × InLimits l) (fan P Qs)
fan_limited P [] h hs = tt
fan_limited P (Q ∷ Qs) h (k, ks) =
    let rest = fan_limited P Qs h ks in
    let d = same_point_decides P Q in
    elim (same_point P Q) as (λ b. (b ≡ false → P ≡ Q → ⊥) → AllByRecursion (λ l. Proper l × InLimits l) (cond b (fan P Qs) (through P Q ∷ fan P Qs))) [
      | true ↦ λ _. rest
      | false ↦ λ f. ((through_proper P Q (f refl), through_limits P Q h k), rest)
    ] (not_from_Decides _ d)

pub tries_limited : (Ps Qs : List Point) → AllByRecursion PostAt Ps → AllByRecursion PostAt Qs → AllByRecursion (λ l. Proper l × InLimits l) (tries Ps Qs)
tries_limited [] Qs hs ks = tt
tries_limited (P ∷ Ps) Qs (h, hs) ks = All-append _ (fan P Qs) (tries Ps Qs) (fan_limited P Qs h ks) (tries_limited Ps Qs hs ks)

pub posts_limited : (p : List Quad) → AllByRecursion Crosses p → AllByRecursion PostAt (posts p)
posts_limited [] h = tt
posts_limited (q ∷ p) (h, hs) = (h.0, (h.1, posts_limited p hs))
