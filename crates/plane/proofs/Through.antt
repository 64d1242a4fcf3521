-- The line that is made from two posts.
use Rattle.std.proofs.Common.{◌≡◌, ◌+◌, ◌<◌, ◌≤◌, Bool, true, false, cond, ℤ, pos, ◌-ℤ◌, nat_abs, Some, None, Ok, Err, Option, Result, refl, ap, arith, MatchResult}
use Rattle.std.proofs.lemmas.Int.{ints}
use Rattle.std.proofs.lemmas.Bool.Decides.{not_from_Decides}
use Rattle.std.specs.Option.{option_map}
use Rattle.std.specs.Result.{result_ok}
use Rattle.plane.specs.declared.line.Line.{Line}
use Rattle.plane.specs.declared.post.Post.{Post}
use Rattle.plane.specs.declared.refusal.Refusal.{Refusal}
use Rattle.plane.specs.Limits.{InLimits}
use Rattle.plane.specs.Separation.{Coefficients, Point, Proper}
use Rattle.plane.specs.Shapes.{coefficients, place}
use Rattle.plane.specs.Tests.{same_point}
use Rattle.plane.proofs.Tests.{same_point_decides}

module _ (p q : Post) (a b c : ℤ) (ea : a ≡ p.y -ℤ q.y) (eb : b ≡ q.x -ℤ p.x) (hc : nat_abs c ≤ 200000000) where
  -- a line that was made joins two different points
  apart : (l : Line) → coefficients l ≡ (a, b, c) → (t : Bool) → (t ≡ true → place p ≡ place q) → Some (coefficients l) ≡ cond t None (Some (a, b, c))
  apart l e false d = ap Some e
  apart l e true d =
      let x : p.x ≡ q.x = ap (λ (P : Point). P.0) (d refl) in
      let y : p.y ≡ q.y = ap (λ (P : Point). P.1) (d refl) in
      let la : l.a ≡ a = ap (λ (k : Coefficients). k.0) e in
      let lb : l.b ≡ b = ap (λ (k : Coefficients). k.1) e in
      let h : 0 < nat_abs l.a + nat_abs l.b = l.proper in
      absurd (omega (arith, ints))

  -- and one that was refused does not
  together : (Proper (a, b, c) → InLimits (a, b, c) → ⊥) → (t : Bool) → (t ≡ false → place p ≡ place q → ⊥) → ◌≡◌ {A = Option Coefficients} None (cond t None (Some (a, b, c)))
  together no_line true d = refl
  together no_line false d =
      absurd (no_line (λ x y. d refl (points x y)) (omega (arith, ints, p.x_within, p.y_within, q.x_within, q.y_within)))
    where
      points : a ≡ pos 0 → b ≡ pos 0 → place p ≡ place q
      points x y = let u : p.x ≡ q.x = omega (arith, ints) in let v : p.y ≡ q.y = omega (arith, ints) in cc

  pub made_through : (r : Result Line Refusal) → MatchResult r (λ l. coefficients l ≡ (a, b, c)) (λ _. Proper (a, b, c) → InLimits (a, b, c) → ⊥) → option_map coefficients (result_ok r) ≡ cond (same_point (place p) (place q)) None (Some (a, b, c))
  made_through (Ok l) e = apart l e (same_point (place p) (place q)) (same_point_decides (place p) (place q)).0
  made_through (Err _) e = together e (same_point (place p) (place q)) (not_from_Decides _ (same_point_decides (place p) (place q)))
