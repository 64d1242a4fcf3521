-- Each test of specs/Tests.antt decides its condition.
use Rattle.std.proofs.Common.{◌≡◌, ℕ, ◌+◌, ◌≤◌, Bool, true, false, cond, not, ◌&&◌, leb, List, [], ◌∷◌, length, ℤ, pos, negsuc, ◌≤ℤ◌, is_some, Some, Decides, Option, sym, refl, ap, ap₂, arith}
use borrow.Author.Differences.{true_is_le, le_out}
use lib.IntN.{pos-ne-negsuc}
use lib.Signed.{le_z}
use Rattle.std.specs.List.{list_all, position_from}
use Rattle.std.proofs.lemmas.Int.{ints}
use Rattle.std.proofs.lemmas.Bool.{leb-true, le-leb, eqb-true, eq-eqb, false≢true}
use Rattle.std.proofs.lemmas.Bool.Decides.{Decides-and, Decides-not, Decides-like}
use Rattle.std.proofs.ByRecursion.{Decides-by_and}
use Rattle.plane.specs.declared.quad.Quad.{Quad}
use Rattle.plane.specs.Limits.{PostAt, Crosses, Path}
use Rattle.plane.specs.Separation.{Point, Coefficients, Parts, Separates, value, left, right}
use Rattle.plane.specs.Tests.{parts, separates, same_number, same_point, is_post, crosses, all_cross, is_path}

decides_int_le : (a b : ℤ) → Decides (le_z a b) (a ≤ℤ b)
decides_int_le a b = (λ e. omega (arith, ints), λ h. sym (true_is_le a b (le_out a b h)))

decides_leb : (m n : ℕ) → Decides (leb m n) (m ≤ n)
decides_leb m n = (leb-true m n, le-leb m n)

pub same_number_decides : (m n : ℤ) → Decides (same_number m n) (m ≡ n)
same_number_decides (pos m) (pos n) = (λ e. ap pos (eqb-true m n e), λ e. eq-eqb m n (cc))
same_number_decides (pos m) (negsuc n) = (λ e. absurd (false≢true e), λ e. absurd (pos-ne-negsuc m n e))
same_number_decides (negsuc m) (pos n) = (λ e. absurd (false≢true e), λ e. absurd (pos-ne-negsuc n m (sym e)))
same_number_decides (negsuc m) (negsuc n) = (λ e. ap negsuc (eqb-true m n e), λ e. eq-eqb m n (cc))

pub same_point_decides : (P Q : Point) → Decides (same_point P Q) (P ≡ Q)
same_point_decides P Q =
    Decides-like _ (λ e. ap₂ (λ x y. (x, y)) e.0 e.1) (λ e. (ap (λ (R : Point). R.0) e, ap (λ (R : Point). R.1) e))
    (Decides-and _ _ (same_number_decides P.0 Q.0) (same_number_decides P.1 Q.1))

pub parts_decides : (l : Coefficients) (q : Quad) → Decides (parts l q) (Parts l q)
parts_decides l q = Decides-and _ _ (decides_int_le (pos 0) (value l (left q))) (decides_int_le (value l (right q)) (pos 0))

pub separates_decides : (l : Coefficients) (p : List Quad) → Decides (separates l p) (Separates l p)
separates_decides l p = Decides-by_and (parts l) (Parts l) (separates l) (parts_decides l) refl (λ _ _. refl) p

-- a line that does not separate a path fails the test
pub not_separates : (l : Coefficients) (p : List Quad) → (Separates l p → ⊥) → false ≡ separates l p
not_separates l p no_line = fails (separates l p) λ e. no_line ((separates_decides l p).0 e)
  where
    fails : (b : Bool) → (b ≡ true → ⊥) → false ≡ b
    fails true f = absurd (f refl)
    fails false f = refl

is_post_decides : (p : Point) → Decides (is_post p) (PostAt p)
is_post_decides p = Decides-and _ _ (decides_leb _ _) (decides_leb _ _)

pub crosses_decides : (q : Quad) → Decides (crosses q) (Crosses q)
crosses_decides q =
    Decides-like _ (λ h. (h.0.0, h.0.1, h.1)) (λ h. ((h.0, h.1), h.2))
    (Decides-and _ _ (Decides-and _ _ (is_post_decides (left q)) (is_post_decides (right q))) (Decides-not _ (same_point_decides (left q) (right q))))

pub is_path_decides : (p : List Quad) → Decides (is_path p) (Path p)
is_path_decides p = Decides-and _ _ (decides_leb (length p) 511) (Decides-by_and crosses Crosses all_cross crosses_decides refl (λ _ _. refl) p)

-- there is a place that fails a test exactly when not all pass it
pub fails_somewhere : {X : Type 0} (t : X → Bool) (i : ℕ) (xs : List X) → is_some (position_from (λ x. not (t x)) i xs) ≡ not (list_all t xs)
fails_somewhere t i [] = refl
fails_somewhere t i (x ∷ xs) = one_more (t x) (list_all t xs) _ (fails_somewhere t (i + 1) xs)
  where
    one_more : (b s : Bool) (o : Option ℕ) → is_some o ≡ not s → is_some (cond (not b) (Some i) o) ≡ not (b && s)
    one_more true s o h = h
    one_more false s o h = refl
