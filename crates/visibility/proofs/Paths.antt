-- The crossings of a walk are a path, so that the laws of stabbers speak of them.
use Rattle.std.proofs.Common.{◌≡◌, ℕ, suc, ◌<◌, ◌≤◌, Bool, true, not, List, [], ◌∷◌, length, is_some as option_is_some, Some, None, Option, sym, refl, ap, ◌∙◌, subst, ⊎_elim, arith}
use Rattle.std.specs.List.{AllByRecursion}
use Rattle.std.proofs.lemmas.Bool.{false≢true, eq-eqb, ne_eqb}
use Rattle.plane.specs.Limits.{Path, Crosses, InLimits}
use Rattle.plane.specs.Separation.{Point, Coefficients, Proper, Separates, Stabbed}
use Rattle.plane.specs.declared.quad.Quad.{Quad}
use Rattle.maps.specs.declared.doorway.Doorway.{Doorway}
use Rattle.visibility.specs.Limits.{most_rooms}
use Rattle.visibility.specs.Sets.{Numbers, only, with, free}
use Rattle.visibility.specs.Walks.{forward, backward, Goes, Walk, TrueRow, Lined}
use Rattle.visibility.specs.Worlds.{World, Inside}
use Rattle.visibility.proofs.Numbers.{free_with, number_le, number_less}
use Rattle.visibility.proofs.Steps.{follows_inside}

forward_crosses : (d : Doorway) → Crosses (forward d)
forward_crosses d = (
  (d.crossing.left.x_within, d.crossing.left.y_within),
  (d.crossing.right.x_within, d.crossing.right.y_within),
  λ (e : (d.crossing.left.x, d.crossing.left.y) ≡ (d.crossing.right.x, d.crossing.right.y)).
      d.crossing.apart (ap (λ (p : Point). p.0) e) (ap (λ (p : Point). p.1) e),
)

backward_crosses : (d : Doorway) → Crosses (backward d)
backward_crosses d = (
  (d.crossing.right.x_within, d.crossing.right.y_within),
  (d.crossing.left.x_within, d.crossing.left.y_within),
  λ (e : (d.crossing.right.x, d.crossing.right.y) ≡ (d.crossing.left.x, d.crossing.left.y)).
      d.crossing.apart (ap (λ (p : Point). p.0) (sym e)) (ap (λ (p : Point). p.1) (sym e)),
)

goes_cross : (w : World) (e : Numbers) (a : ℕ) (ks : List ℕ) (b : ℕ) (p : List Quad) → Goes w e a ks b p → AllByRecursion Crosses p
goes_cross w e a [] b [] g = tt
goes_cross w e a [] b (q ∷ p) g = absurd g
goes_cross w e a (k ∷ ks) b [] g = absurd g
goes_cross w e a (k ∷ ks) b (q ∷ p) g = (
  ⊎_elim
      (λ (l : (g.1.0.near ≡ a) × (g.1.0.far ≡ g.0) × (q ≡ forward g.1.0)). subst Crosses (sym l.2) (forward_crosses g.1.0))
      (λ (r : (g.1.0.far ≡ a) × (g.1.0.near ≡ g.0) × (q ≡ backward g.1.0)). subst Crosses (sym r.2) (backward_crosses g.1.0))
      g.1.2,
  goes_cross w (with e g.0) g.0 ks b p g.2,
)

-- a walk is no longer than there are rooms to enter
goes_short :
    (w : World) → Inside w → (e : Numbers) (a : ℕ) (ks : List ℕ) (b : ℕ) (p : List Quad) → Goes w e a ks b p
    → length p ≤ free w.rooms e
goes_short w inside e a [] b [] g = omega arith
goes_short w inside e a [] b (q ∷ p) g = absurd g
goes_short w inside e a (k ∷ ks) b [] g = absurd g
goes_short w inside e a (k ∷ ks) b (q ∷ p) g =
    let rest = goes_short w inside (with e g.0) g.0 ks b p g.2 in
    let fewer = free_with w.rooms e g.0 (follows_inside w e a k g.0 q inside g.1) g.1.3 in
    omega (arith, rest, fewer)

goes_doors : (w : World) (e : Numbers) (a : ℕ) (ks : List ℕ) (b : ℕ) (p : List Quad) → Goes w e a ks b p → length ks ≡ length p
goes_doors w e a [] b [] g = refl
goes_doors w e a [] b (q ∷ p) g = absurd g
goes_doors w e a (k ∷ ks) b [] g = absurd g
goes_doors w e a (k ∷ ks) b (q ∷ p) g = ap suc (goes_doors w (with e g.0) g.0 ks b p g.2)

-- so it has fewer doorways than the world has rooms
pub walk_short :
    (w : World) → Inside w → (a : ℕ) (ks : List ℕ) (b : ℕ) (p : List Quad) → a < w.rooms → Walk w a ks b p → length ks < w.rooms
walk_short w inside a ks b p l g =
    let one = number_less w.rooms (λ _. true) (λ x. not (only a x)) a l refl (ap not (eq-eqb a a refl))
    (λ x ne. sym (ap not (ne_eqb x a ne))) in
    omega (arith, goes_doors w (only a) a ks b p g, goes_short w inside (only a) a ks b p g, one, number_le w.rooms (λ _. true))

pub walk_path :
    (w : World) → Inside w → w.rooms ≤ most_rooms → (a : ℕ) (ks : List ℕ) (b : ℕ) (p : List Quad) → Walk w a ks b p → Path p
walk_path w inside few a ks b p g =
    let short = goes_short w inside (only a) a ks b p g in
    let bound = number_le w.rooms (λ x. not (only a x)) in
    (omega (arith, short, bound, few), goes_cross w (only a) a ks b p g)

-- no room that an open walk with a line reaches is missing from the true row
pub lined_true :
    (w : World) → Inside w → w.rooms ≤ most_rooms → ((p : List Quad) → Path p → Stabbed p → w.lets p ≡ true)
    → (shut : Numbers) (a b : ℕ) → Lined w shut a b → TrueRow w shut a b
lined_true w inside few stabbed shut a b l =
    (l.0, l.1, l.2, l.3, stabbed l.1 (walk_path w inside few a l.0 b l.1 l.2) l.4)

pub true_lined :
    (w : World) → ((p : List Quad) → w.lets p ≡ true → Stabbed p) → (shut : Numbers) (a b : ℕ) → TrueRow w shut a b → Lined w shut a b
true_lined w sharp shut a b t = (t.0, t.1, t.2, t.3, sharp t.1 t.4)

is_some : {X : Type 0} (o : Option X) → option_is_some o ≡ true → (x : X) × (o ≡ Some x)
is_some None h = absurd (false≢true h)
is_some (Some x) h = (x, refl)

-- a sharp stabber lets through only what has a line
pub sharp_stabbed :
    (lets : List Quad → Bool) (line : List Quad → Option Coefficients)
    → ((p : List Quad) → option_is_some (line p) ≡ lets p)
    → ((p : List Quad) (l : Coefficients) → line p ≡ Some l → Proper l × InLimits l × Separates l p)
    → (p : List Quad) → lets p ≡ true → Stabbed p
sharp_stabbed lets line sharp separates p y =
    let o = is_some (line p) (sharp p ∙ y) in
    let s = separates p o.0 o.1 in
    (o.0, s.0, s.2)
