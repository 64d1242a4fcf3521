-- A refuted post has no line, and where each left post is refuted, the path has none: if any line separates the path, then
-- so does one through a left post.
use Rattle.std.proofs.Common.{◌≡◌, ℕ, ◌<◌, ◌≤◌, Bool, true, false, cond, List, [], ◌∷◌, length, get_or, take, Some, None, Option, refl, subst, arith}
use Rattle.std.specs.List.{AllByRecursion}
use Rattle.std.proofs.ByRecursion.{All-get_or}
use Rattle.std.proofs.lemmas.List.{get_or-take, length-take-le}
use Rattle.std.proofs.lemmas.Bool.Decides.{not_from_Decides}
use Rattle.plane.specs.declared.quad.Quad.{Quad}
use Rattle.plane.specs.First.{first}
use Rattle.plane.specs.Limits.{Crosses}
use Rattle.plane.specs.Lines.{through}
use Rattle.plane.specs.Separation.{Coefficients, Point, Stabbed, left}
use Rattle.plane.specs.Tests.{same_point, separates}
use Rattle.plane.proofs.Directions.{at_start, through_proper}
use Rattle.plane.proofs.Tests.{same_point_decides, separates_decides}
use Rattle.plane.proofs.TwoPosts.{through_left}
use Rattle.stabbing.specs.Exact.{fan, first_line}
use Rattle.stabbing.specs.Refutation.{Refuted}
use Rattle.stabbing.specs.Found.{apart, line_through_is}

-- a line that does not pass is not the first
passed_over : {X : Type 0} (b : Bool) (x : X) (o : Option X) → (b ≡ true → ⊥) → o ≡ None → cond b (Some x) o ≡ None
passed_over true x o h e = absurd (h refl)
passed_over false x o h e = e

-- no line from a refuted post passes
pub refuted_none : (p : List Quad) (P : Point) (Qs : List Point) → Refuted P p → first (λ l. separates l p) (fan P Qs) ≡ None
refuted_none p P [] refuted = refl
refuted_none p P (Q ∷ Qs) refuted =
    let t : Coefficients → Bool = λ l. separates l p in
    let l = through P Q in
    let rest = refuted_none p P Qs refuted in
    elim (same_point P Q) as (λ b. (b ≡ false → P ≡ Q → ⊥) → first t (cond b (fan P Qs) (l ∷ fan P Qs)) ≡ None) [
      | true ↦ λ _. rest
      | false ↦ λ two.
          passed_over (t l) l _ (λ e. refuted l (through_proper P Q (two refl)) (at_start P Q) ((separates_decides l p).0 e)) rest
    ] (not_from_Decides _ (same_point_decides P Q))

-- a line of the path would go through some left post
no_line : (p : List Quad) (l : Coefficients) → (p ≡ [] → ⊥) → AllByRecursion Crosses p → AllByRecursion (λ q. Refuted (left q) p) p →
    first_line p ≡ Some l → ⊥
no_line [] l not_empty h all e = not_empty refl
no_line (q ∷ p) l not_empty h all e =
    let path : List Quad = q ∷ p in
    let is = line_through_is path l h e in
    let stabbed : Stabbed path = (l, is.0, is.2) in
    let (m, refuted, (P, Q, _, _, two, parts, on)) = through_left _ path not_empty (apart path h) stabbed all in
    refuted (through P Q) (through_proper P Q two) on parts

pub all_refuted_none : (p : List Quad) → AllByRecursion Crosses p → AllByRecursion (λ q. Refuted (left q) p) p → None ≡ first_line p
unfolding first_line
all_refuted_none [] h all = refl
all_refuted_none (q ∷ p) h all =
    elim (first_line (q ∷ p)) as (λ o. first_line (q ∷ p) ≡ o → None ≡ o) [
      | None ↦ λ _. refl
      | Some l ↦ λ e. absurd (no_line (q ∷ p) l (λ f. let z : ◌≡◌ {A = ℕ} 0 1 = cc in omega arith) h all e)
    ] refl

-- what holds of each element of a front holds at its places
pub in_front : {X : Type 0} (P : X → Type 0) (xs : List X) (n i : ℕ) (d : X) → i < n → n ≤ length xs →
    AllByRecursion P (take n xs) → P (get_or xs i d)
in_front P xs n i d h k all =
    subst P (get_or-take n xs i d h) (All-get_or P (take n xs) i d (omega (arith, length-take-le n xs k)) all)
