-- Whatever goes post by post goes doorway by doorway.
use Rattle.std.proofs.Common.{◌≡◌, Bool, true, false, cond, List, [], ◌∷◌, Some, None, Option, sym, refl, ap, ◌∙◌}
use Rattle.std.specs.Option.{option_or}
use Rattle.plane.specs.declared.quad.Quad.{Quad}
use Rattle.plane.specs.First.{first}
use Rattle.plane.specs.Lines.{posts}
use Rattle.plane.specs.Separation.{Point, Coefficients, left, right}
use Rattle.stabbing.specs.Exact.{fan, tries}
use Rattle.stabbing.specs.Tries.{or_assoc, fan_more, tries_more}
use Rattle.stabbing.proofs.Scan.{Scans}

or_none : {X : Type 0} (a : Option X) → option_or a None ≡ a
or_none None = refl
or_none (Some x) = refl

module _ (t : Coefficients → Bool) where
  -- a single line: l is the line k, unless its two points are the same
  pub one_line : (same : Bool) (k l : Coefficients) → Some l ≡ cond same None (Some k) → first t (cond same [] (k ∷ [])) ≡ cond (t l) (Some l) None
  one_line true k l e = cc
  one_line false k l e = let same : l ≡ k = cc in ap (λ m. cond (t m) (Some m) None) (sym same)

-- whatever goes post by post goes crossing by crossing
pub record ByPost (G : List Point → Option Coefficients) (f : Point → Option Coefficients) : Type 0 where
  pub none : G [] ≡ None
  pub more : (Q : Point) (Qs : List Point) → G (Q ∷ Qs) ≡ option_or (f Q) (G Qs)

module _ {G : List Point → Option Coefficients} {f : Point → Option Coefficients} (by : ByPost G f) where
  one_crossing : (q : Quad) → G (posts (q ∷ [])) ≡ option_or (f (left q)) (f (right q))
  one_crossing q =
      by.more (left q) (right q ∷ []) ∙ ap (option_or (f (left q))) (by.more (right q) [] ∙ ap (option_or (f (right q))) by.none ∙ or_none (f (right q)))

  -- the crossing's posts are L and R, and there was an answer at the first
  pub at_left : (L : Point) (q : Quad) (l : Coefficients) → L ≡ left q → Some l ≡ f L → Some l ≡ G (posts (q ∷ []))
  at_left L q l e h = ap (λ o. option_or o (f (right q))) (h ∙ ap f e) ∙ sym (one_crossing q)

  -- or there was none
  pub at_right : (L R : Point) (q : Quad) (o : Option Coefficients) → L ≡ left q → R ≡ right q → None ≡ f L → o ≡ f R → o ≡ G (posts (q ∷ []))
  at_right L R q o e e' h k = k ∙ ap f e' ∙ ap (λ m. option_or m (f (right q))) (h ∙ ap f e) ∙ sym (one_crossing q)

  pub post_scans : Scans {X = Quad} (λ p. G (posts p))
  post_scans = record {
    none = by.none;
    more = λ q p.
        by.more (left q) (right q ∷ posts p)
        ∙ ap (option_or (f (left q))) (by.more (right q) (posts p))
        ∙ sym (or_assoc (f (left q)) (f (right q)) (G (posts p)))
        ∙ ap (λ o. option_or o (G (posts p))) (sym (one_crossing q));
  }

pub fan_by_post : (t : Coefficients → Bool) (P : Point) → ByPost (λ Qs. first t (fan P Qs)) (λ Q. first t (fan P (Q ∷ [])))
fan_by_post t P = record { none = refl; more = fan_more t P }

pub tries_by_post : (t : Coefficients → Bool) (Qs : List Point) → ByPost (λ Ps. first t (tries Ps Qs)) (λ P. first t (fan P Qs))
tries_by_post t Qs = record { none = refl; more = λ P Ps. tries_more t P Ps Qs }
