-- The arrows between a post and the posts of a crossing.
use Rattle.std.proofs.Common.{◌≡◌, pos, ◌≤ℤ◌, sym, subst, arith}
use Rattle.plane.specs.declared.quad.Quad.{Quad}
use Rattle.plane.specs.Separation.{Coefficients, Parts, Point, left, right, value}
use Rattle.plane.proofs.Integers.{linear}
use Rattle.stabbing.specs.Arrows.{Climbs, Vector, arrow}
use Rattle.stabbing.proofs.HalfPlanes.{value_rises}

module _ (l : Coefficients) where
  -- a line climbs from a point where it is 0 to one where it is 0 or above
  pub to_left : (P L : Point) (v : Vector) → value l P ≡ pos 0 → pos 0 ≤ℤ value l L → v ≡ arrow P L → Climbs l v
  to_left P L v on h v_is = subst (Climbs l) (sym v_is) (omega (arith, linear, value_rises l P L))

  -- and from one where it is 0 or below
  pub from_right : (P R : Point) (v : Vector) → value l P ≡ pos 0 → value l R ≤ℤ pos 0 → v ≡ arrow R P → Climbs l v
  from_right P R v on h v_is = subst (Climbs l) (sym v_is) (omega (arith, linear, value_rises l R P))

  -- and from the one to the other
  pub from_right_to_left : (R L : Point) (v : Vector) → value l R ≤ℤ pos 0 → pos 0 ≤ℤ value l L → v ≡ arrow R L → Climbs l v
  from_right_to_left R L v h k v_is = subst (Climbs l) (sym v_is) (omega (arith, linear, value_rises l R L))

  -- a crossing that it parts, told of the crossing's posts
  pub parted : (q : Quad) (L R : Point) → L ≡ left q → R ≡ right q → Parts l q → (pos 0 ≤ℤ value l L) × (value l R ≤ℤ pos 0)
  parted q L R e f parts = (subst (λ P. pos 0 ≤ℤ value l P) (sym e) parts.0, subst (λ P. value l P ≤ℤ pos 0) (sym f) parts.1)
