-- The posts of a path, asked one after the other.
use Rattle.std.proofs.Common.{◌≡◌, ℕ, suc, ◌+◌, ◌<◌, Bool, true, false, cond, List, [], ◌∷◌, ◌++◌, get_or, length, take, drop, is_some, MatchOption, Some, None, Option, slice_get, sym, refl, ap, ◌∙◌, add-one, drop-cons}
use Rattle.std.proofs.lemmas.Bool.{false≢true}
use Rattle.std.proofs.lemmas.Option.{none-some}
use Rattle.std.specs.Bool.{then_some}
use Rattle.std.specs.Option.{option_map, option_or}
use Rattle.std.proofs.lemmas.List.{take-append-drop}
use Rattle.plane.specs.declared.line.Line.{Line}
use Rattle.plane.specs.declared.quad.Quad.{Quad}
use Rattle.plane.specs.First.{first}
use Rattle.plane.specs.Lines.{posts}
use Rattle.plane.specs.Separation.{Coefficients, Point, left, right}
use Rattle.plane.specs.Shapes.{coefficients}
use Rattle.plane.specs.Tests.{separates}
use Rattle.stabbing.specs.Asked.{first_answer, from_point, joined}
use Rattle.stabbing.specs.Exact.{fan, first_line, tries}
use Rattle.stabbing.specs.Tries.{fan_more, or_assoc, tries_more}

-- a line that is kept where it passes
pub kept_line : (t : Coefficients → Bool) (same : Bool) (k : Coefficients) (o r : Option Line) (W : Line → Bool → Type 0) → ((x : Line) (b : Bool) → W x b → b ≡ t (coefficients x)) →
    option_map coefficients o ≡ cond same None (Some k) → MatchOption o (r ≡ None) (λ x. (b : Bool) × W x b × (r ≡ then_some b x)) →
    option_map coefficients r ≡ first t (cond same [] (k ∷ []))
kept_line t true k None r W h e m = ap (option_map coefficients) m
kept_line t false k None r W h e m = cc
kept_line t true k (Some x) r W h e m = cc
kept_line t false k (Some x) r W h e (b, w, m) =
    let same : coefficients x ≡ k = cc in
    let passes : b ≡ t k = h x b w ∙ ap t same in
    ap (option_map coefficients) m ∙ elim b as (λ v. option_map coefficients (then_some v x) ≡ cond v (Some (coefficients x)) None) [ true ↦ refl | false ↦ refl ]
    ∙ rw (passes, same) refl

module _ (f : Point → Option Coefficients) where
  pub answer_append : (Ps Qs : List Point) → first_answer f (Ps ++ Qs) ≡ option_or (first_answer f Ps) (first_answer f Qs)
  answer_append [] Qs = refl
  answer_append (P ∷ Ps) Qs = ap (option_or (f P)) (answer_append Ps Qs) ∙ sym (or_assoc (f P) (first_answer f Ps) (first_answer f Qs))

  posts_append : (p q : List Quad) → posts (p ++ q) ≡ posts p ++ posts q
  posts_append [] q = refl
  posts_append (x ∷ p) q = ap (λ (v : List Point). left x ∷ right x ∷ v) (posts_append p q)

  -- the answer of a path, from those of its two parts
  pub answer_parts : (n : ℕ) (p : List Quad) → first_answer f (posts p) ≡ option_or (first_answer f (posts (take n p))) (first_answer f (posts (drop n p)))
  answer_parts n p =
      ap (λ q. first_answer f (posts q)) (sym (take-append-drop n p)) ∙ ap (first_answer f) (posts_append (take n p) (drop n p))
      ∙ answer_append (posts (take n p)) (posts (drop n p))

-- the lines that Exact tries, post by post
module _ (p : List Quad) where
  pub fan_asked : (P : Point) (Qs : List Point) → first (λ l. separates l p) (fan P Qs) ≡ first_answer (joined p P) Qs
  fan_asked P [] = refl
  fan_asked P (Q ∷ Qs) = fan_more (λ l. separates l p) P Q Qs ∙ ap (option_or (joined p P Q)) (fan_asked P Qs)

  tries_asked : (Ps : List Point) → first (λ l. separates l p) (tries Ps (posts p)) ≡ first_answer (from_point p) Ps
  tries_asked [] = refl
  tries_asked (P ∷ Ps) = tries_more (λ l. separates l p) P Ps (posts p) ∙ ap (option_or (from_point p P)) (tries_asked Ps)

  pub line_asked : first_line p ≡ first_answer (from_point p) (posts p)
  unfolding first_line
  line_asked = tries_asked (posts p)

-- what a first post has with some of the posts is the path's line
pub start_first : (p : List Quad) (n : ℕ) (q : Quad) (P : Point) (l : Coefficients) → Some q ≡ slice_get p 0 → P ≡ left q →
    first_answer (joined p P) (posts (take n p)) ≡ Some l → first_line p ≡ Some l
start_first [] n q P l e at h = absurd (none-some q (sym e))
start_first (x ∷ rest) n q P l e at h =
    let p : List Quad = x ∷ rest in
    let same : P ≡ left x = cc in
    let f = joined p P in
    let from : from_point p P ≡ Some l = fan_asked p P (posts p) ∙ answer_parts f n p ∙ ap (λ o. option_or o (first_answer f (posts (drop n p)))) h in
    line_asked p ∙ ap (λ o. option_or o (first_answer (from_point p) (right x ∷ posts rest))) (ap (from_point p) (sym same) ∙ from)

-- and so it is the answer
pub start_found : (r : Option Line) (o : Option Coefficients) → (r ≡ None → ⊥) → ((l : Coefficients) → option_map coefficients r ≡ Some l → o ≡ Some l) → option_map coefficients r ≡ o
start_found None o some start = absurd (some refl)
start_found (Some l) o some start = sym (start (coefficients l) refl)

-- a loop over doorways of which the left posts have no answer
module _ (f : Point → Option Coefficients) (p : List Quad) (i : ℕ) (d : Quad) (h : i < length p) (so_far : first_answer f (posts (drop i p)) ≡ first_answer f (posts p)) (none : f (left (get_or p i d)) ≡ None) where
  turn : first_answer f (posts p) ≡ option_or (f (right (get_or p i d))) (first_answer f (posts (drop (i + 1) p)))
  turn =
      sym so_far ∙ ap (λ v. first_answer f (posts v)) (drop-cons p i d h) ∙ ap (λ o. option_or o (option_or (f (right (get_or p i d))) (first_answer f (posts (drop (suc i) p))))) none
      ∙ ap (λ k. option_or (f (right (get_or p i d))) (first_answer f (posts (drop k p)))) (sym (add-one i))

  -- an answer at the right post is the loop's
  pub right_found : (o : Option Coefficients) → is_some o ≡ true → o ≡ f (right (get_or p i d)) → o ≡ first_answer f (posts p)
  right_found None some e = absurd (false≢true some)
  right_found (Some x) some e = ap (λ o. option_or o (first_answer f (posts (drop (i + 1) p)))) e ∙ sym turn

  -- without one it goes on
  pub right_none : (o : Option Coefficients) → is_some o ≡ false → o ≡ f (right (get_or p i d)) → first_answer f (posts (drop (i + 1) p)) ≡ first_answer f (posts p)
  right_none None not_some e = ap (λ o. option_or o (first_answer f (posts (drop (i + 1) p)))) e ∙ sym turn
  right_none (Some x) not_some e = absurd (false≢true (sym not_some))

-- the path's line is in its front, or else in the rest
module _ (p : List Quad) (n : ℕ) where
  pub line_in_front : (r : Option Line) → (r ≡ None → ⊥) → option_map coefficients r ≡ first_answer (from_point p) (posts (take n p)) → option_map coefficients r ≡ first_line p
  line_in_front None some e = absurd (some refl)
  line_in_front (Some l) some e = ap (λ o. option_or o (first_answer (from_point p) (posts (drop n p)))) e ∙ sym (answer_parts (from_point p) n p) ∙ sym (line_asked p)

  pub line_in_rest : (o : Option Coefficients) → None ≡ first_answer (from_point p) (posts (take n p)) → o ≡ first_answer (from_point p) (posts (drop n p)) → o ≡ first_line p
  line_in_rest o none e = e ∙ ap (λ m. option_or m (first_answer (from_point p) (posts (drop n p)))) none ∙ sym (answer_parts (from_point p) n p) ∙ sym (line_asked p)
