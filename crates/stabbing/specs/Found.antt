-- Exact has a line exactly for the paths that some line separates, and its line is one within the limits.
use Rattle.std.proofs.Common.{◌≡◌, ℕ, zero, suc, ◌<◌, Bool, true, false, cond, List, [], ◌∷◌, ◌++◌, length, get_or, pos, is_some, Some, None, Decides, Option, sym, refl, ap, ◌∙◌, subst, le_of_suc-le-suc, arith}
use Rattle.std.specs.Option.{option_map}
use Rattle.std.specs.List.{AllByRecursion}
use Rattle.std.proofs.ByRecursion.{All-weaker}
use Rattle.std.proofs.lemmas.Bool.Decides.{Decides-at}
use Rattle.std.proofs.lemmas.Option.{none-some}
use Rattle.plane.specs.declared.quad.Quad.{Quad}
use Rattle.plane.specs.First.{first}
use Rattle.plane.specs.Limits.{Crosses, InLimits, Path}
use Rattle.plane.specs.Lines.{posts, through}
use Rattle.plane.specs.Separation.{Apart, Coefficients, Point, Proper, Separates, Stabbed}
use Rattle.plane.specs.Tests.{is_path, same_point, separates}
use Rattle.plane.proofs.Tests.{is_path_decides, same_point_decides, separates_decides}
use Rattle.plane.proofs.TwoPosts.{two_posts}
use Rattle.stabbing.specs.Exact.{exact_line, fan, first_line, line_through, tries}
use Rattle.stabbing.specs.Answers.{some_left, some_mapped, some_right, some_value, under}
use Rattle.stabbing.specs.Fronts.{path_front, stabbed_front}
use Rattle.stabbing.specs.Limited.{posts_limited, tries_limited}
use Rattle.stabbing.specs.Tries.{fan_more, tries_more}

-- what the first that passes is
first_is : {X : Type 0} (t : X → Bool) (P : X → Type 0) (xs : List X) (x : X) → AllByRecursion P xs → first t xs ≡ Some x → P x × (t x ≡ true)
first_is t P [] x h e = absurd (none-some x e)
first_is t P (y ∷ ys) x (h, hs) e =
    elim (t y) as (λ b. t y ≡ b → cond b (Some y) (first t ys) ≡ Some x → P x × (t x ≡ true)) [
      | true ↦ λ f k. let same : y ≡ x = cc in (subst P same h, ap t (sym same) ∙ f)
      | false ↦ λ f k. first_is t P ys x hs k
    ] refl e

module _ (t : Coefficients → Bool) where
  -- the line to a point of the fan passes
  fan_has : (P Q : Point) (Qs : List Point) (k : ℕ) → k < length Qs → get_or Qs k Q ≡ Q → same_point P Q ≡ false → t (through P Q) ≡ true → is_some (first t (fan P Qs)) ≡ true
  fan_has P Q [] k h e s f = absurd (omega arith)
  fan_has P Q (R ∷ Rs) zero h e s f =
      ap is_some (fan_more t P R Rs) ∙ some_left (first t (fan P (R ∷ []))) (first t (fan P Rs)) (ap (λ S. is_some (first t (fan P (S ∷ [])))) e ∙ rw (s, f) refl)
  fan_has P Q (R ∷ Rs) (suc k) h e s f = ap is_some (fan_more t P R Rs) ∙ some_right (first t (fan P (R ∷ []))) (first t (fan P Rs)) (fan_has P Q Rs k (le_of_suc-le-suc h) e s f)

  -- some fan has a line that passes
  tries_has : (P : Point) (Ps Qs : List Point) (k : ℕ) → k < length Ps → get_or Ps k P ≡ P → is_some (first t (fan P Qs)) ≡ true → is_some (first t (tries Ps Qs)) ≡ true
  tries_has P [] Qs k h e f = absurd (omega arith)
  tries_has P (R ∷ Rs) Qs zero h e f = ap is_some (tries_more t R Rs Qs) ∙ some_left (first t (fan R Qs)) (first t (tries Rs Qs)) (ap (λ S. is_some (first t (fan S Qs))) e ∙ f)
  tries_has P (R ∷ Rs) Qs (suc k) h e f = ap is_some (tries_more t R Rs Qs) ∙ some_right (first t (fan R Qs)) (first t (tries Rs Qs)) (tries_has P Rs Qs k (le_of_suc-le-suc h) e f)

pub line_through_is : (p : List Quad) (l : Coefficients) → AllByRecursion Crosses p → line_through p ≡ Some l → Proper l × InLimits l × Separates l p
unfolding first_line
line_through_is [] l h e =
    let P : Coefficients → Type 0 = λ k. Proper k × InLimits k × Separates k [] in
    let same : ◌≡◌ {A = Coefficients} (pos 0, pos 1, pos 0) l = cc in
    subst P same ((λ a b. let z : ◌≡◌ {A = ℕ} 0 1 = cc in omega arith), (omega arith), tt)
line_through_is (q ∷ p) l h e =
    let path : List Quad = q ∷ p in
    let limited = tries_limited (posts path) (posts path) (posts_limited path h) (posts_limited path h) in
    let is = first_is (λ k. separates k path) _ (tries (posts path) (posts path)) l limited e in
    (is.0.0, is.0.1, (separates_decides l path).0 is.1)

-- the line that Exact answers
pub exact_is : (p : List Quad) (l : Coefficients) → exact_line p ≡ Some l → Path p × Proper l × InLimits l × Separates l p
unfolding exact_line
exact_is p l e =
    let yes = under (is_path p) (line_through p) l e in
    let path = (is_path_decides p).0 yes.0 in
    let is = line_through_is p l path.1 yes.1 in
    (path, is.0, is.1, is.2)

pub apart : (p : List Quad) → AllByRecursion Crosses p → AllByRecursion Apart p
apart p h = All-weaker Crosses Apart (λ q k. k.2) p h

-- a path that some line separates has a line through two of its posts
line_through_has : (p : List Quad) → AllByRecursion Crosses p → Stabbed p → is_some (line_through p) ≡ true
unfolding first_line
line_through_has [] h s = refl
line_through_has (q ∷ p) h s =
    let path : List Quad = q ∷ p in
    let (P, Q, (j, j<, at_P), (k, k<, at_Q), two, parts) = two_posts path (λ e. let z : ◌≡◌ {A = ℕ} 0 1 = cc in omega arith) (apart path h) s in
    let differ : same_point P Q ≡ false = not_same (same_point P Q) (λ e. two ((same_point_decides P Q).0 e)) in
    tries_has (λ l. separates l path) P (posts path) (posts path) j j< (at_P P)
    (fan_has (λ l. separates l path) P Q (posts path) k k< (at_Q Q) differ ((separates_decides (through P Q) path).1 parts))
  where
    not_same : (b : Bool) → (b ≡ true → ⊥) → b ≡ false
    not_same true f = absurd (f refl)
    not_same false f = refl

pub exact_has : (p : List Quad) → Path p → Stabbed p → is_some (exact_line p) ≡ true
unfolding exact_line
exact_has p path s = ap (λ b. is_some (cond b (line_through p) None)) ((is_path_decides p).1 path) ∙ line_through_has p path.1 s

-- Exact's set: the paths with a separating line
pub exact_decides : (p : List Quad) → Decides (is_some (exact_line p)) (Path p × Stabbed p)
exact_decides p = (
  λ e. let (l, f) = some_value (exact_line p) e in let is = exact_is p l f in (is.0, (l, is.1, is.3)),
  λ h. exact_has p h.0 h.1,
)

pub exact_front : (p r : List Quad) → is_some (exact_line (p ++ r)) ≡ true → is_some (exact_line p) ≡ true
exact_front p r e = let h = (exact_decides (p ++ r)).0 e in exact_has p (path_front p r h.0) (stabbed_front p r h.1)

-- an answer that is Exact's decides as Exact does
pub decides_as_exact : {X : Type 0} (f : X → Coefficients) (o : Option X) (p : List Quad) → option_map f o ≡ exact_line p → Decides (is_some o) (Path p × Stabbed p)
decides_as_exact f o p e = Decides-at _ _ (some_mapped f o ∙ ap is_some e) (exact_decides p)

-- Exact's answer by cases: no path, a path
pub exact_no_path : (p : List Quad) → is_path p ≡ false → exact_line p ≡ None
unfolding exact_line
exact_no_path p e = rw e refl

pub exact_path : (p : List Quad) → is_path p ≡ true → exact_line p ≡ line_through p
unfolding exact_line
exact_path p e = rw e refl

-- the empty path, any other path
pub line_empty : (p : List Quad) → length p ≡ 0 → line_through p ≡ Some (pos 0, pos 1, pos 0)
line_empty [] h = refl
line_empty (q ∷ p) h = absurd (omega arith)

pub line_other : (p : List Quad) → (length p ≡ 0 → ⊥) → line_through p ≡ first_line p
line_other [] h = absurd (h refl)
line_other (q ∷ p) h = refl
