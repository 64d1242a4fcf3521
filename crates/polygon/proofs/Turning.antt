-- A face's round from each of its places.
use Rattle.std.proofs.Common.{◌≡◌, ℕ, zero, suc, ◌+◌, ◌-◌, ◌/◌, ◌<◌, ◌≤◌, Bool, true, false, cond, not, ◌&&◌, leb, ◌⊎◌, List, [], ◌∷◌, ◌++◌, map, length, get_or, take, drop, pos, is_some, Some, None, Option, sym, refl, ap, ◌∙◌, inl, inr, add-one, arith}
use Rattle.std.proofs.lemmas.List.{length-map, length-append, take-append-drop, take-append-le, take_all, drop-take, take-map, drop-map, drop_more}
use Rattle.std.proofs.lemmas.List.Folds.{list_all-map}
use Rattle.std.proofs.lemmas.Bool.{and_from, and_parts, and_left, and_right, le-leb, cases_eq}
use Rattle.plane.specs.declared.corner.Corner.{Corner}
use Rattle.plane.specs.First.{first_place}
use Rattle.plane.specs.Lines.{through}
use Rattle.plane.specs.Separation.{Point, Coefficients}
use Rattle.plane.specs.Tests.{strictly_left, same_point}
use Rattle.plane.proofs.Tests.{fails_somewhere}
use Rattle.polygon.specs.Corners.{point, points}
use Rattle.polygon.specs.Convexity.{spot, ring, all_left, sees, around, clear, all_below, turns_left, convex}

pub left_each : (l : Coefficients) (qs : List Point) (z : Point) → all_left l qs ≡ true → (m : ℕ) → m < length qs → strictly_left l (get_or qs m z) ≡ true
left_each l [] z e m h = absurd (omega arith)
left_each l (q ∷ qs) z e zero h = (and_parts (strictly_left l q) (all_left l qs) e).0
left_each l (q ∷ qs) z e (suc m) h = left_each l qs z (and_parts (strictly_left l q) (all_left l qs) e).1 m (omega arith)

pub left_from : (l : Coefficients) (qs : List Point) (z : Point) → ((m : ℕ) → m < length qs → strictly_left l (get_or qs m z) ≡ true) → all_left l qs ≡ true
left_from l [] z h = refl
left_from l (q ∷ qs) z h = and_from (strictly_left l q) (all_left l qs) (h 0 (omega arith)) (left_from l qs z (λ m k. h (suc m) (omega arith)))

not_same : (s t : Bool) → not s ≡ not t → s ≡ t
not_same true true e = refl
not_same true false e = sym e
not_same false true e = sym e
not_same false false e = refl

pub seen : (P Q : Point) (l : Coefficients) (cs : List Corner) (o : Option ℕ) (r : Bool)
    → ◌≡◌ {A = Option Coefficients} (Some l) (cond (same_point P Q) None (Some (through P Q))) → o ≡ first_place (λ c. not (strictly_left l (point c))) cs → is_some o ≡ not r → r ≡ sees P Q (points cs)
seen P Q l cs o r e f n = go (same_point P Q) e
  where
    left : r ≡ all_left l (points cs)
    left = not_same r (all_left l (points cs)) (sym n ∙ ap is_some f ∙ fails_somewhere (λ c. strictly_left l (point c)) 0 cs ∙ ap not (sym (list_all-map (strictly_left l) point cs)))

    go : (s : Bool) → ◌≡◌ {A = Option Coefficients} (Some l) (cond s None (Some (through P Q))) → r ≡ (not s && all_left (through P Q) (points cs))
    go true q = cc
    go false q = let same : l ≡ through P Q = cc in left ∙ ap (λ x. all_left x (points cs)) same

pub around_is : (cs : List Corner) (p q : Corner) (m : ℕ) (r : Bool) → 2 ≤ length cs → p ≡ get_or cs 0 p → q ≡ get_or cs 1 q → length cs ≤ m + 2 → r ≡ sees (point p) (point q) (points (take m (drop 2 cs))) → r ≡ around (points cs)
around_is [] p q m r h a b l e = absurd (omega arith)
around_is (c ∷ []) p q m r h a b l e = absurd (omega arith)
around_is (c ∷ (d ∷ cs)) p q m r h a b l e = e ∙ (λ i. sees (point (a i)) (point (b i)) (points (take_all m cs (omega arith) i)))

-- a face's round from one of its places, cut out of its corners twice round
module _ (ps : List Point) (face : List ℕ) (cs : List Corner) (twice : take (length face + length face) (points cs) ≡ ring ps face) (i : ℕ) (inside : i < length face) (two : 2 ≤ length face) where
  abbrev n : ℕ
  n = length face

  abbrev z : Point
  z = (pos 0, pos 0)

  long : length (ring ps face) ≡ n + n
  long = length-append (map (spot ps) face) (map (spot ps) face) ∙ (λ i. length-map face (spot ps) i + length-map face (spot ps) i)

  cut_out : points (take n (drop i cs)) ≡ take n (drop i (ring ps face))
  cut_out =
      sym (take-map point n (drop i cs))
      ∙ ap (take n) (sym (drop-map point i cs))
      ∙ sym (drop-take i n (points cs))
      ∙ ap (λ l. drop i (take (i + n) l)) (sym (take-append-drop (n + n) (points cs)) ∙ ap (λ l. l ++ drop (n + n) (points cs)) twice)
      ∙ ap (drop i) (take-append-le (i + n) (ring ps face) (drop (n + n) (points cs)) (omega (arith, long)))
      ∙ drop-take i n (ring ps face)

  pub round_clear : around (points (take n (drop i cs))) ≡ clear n (ring ps face) i
  round_clear =
      let g = ring ps face in
      let e : n ≡ suc (suc (n - 2)) = omega arith in
      let s : i + 1 + 1 ≡ i + 2 = omega arith in
      ap around cut_out
      ∙ (λ j. around (take (e j) ((drop_more g i z (omega (arith, long)) ∙ ap (λ l. get_or g i z ∷ l) (drop_more g (i + 1) z (omega (arith, long)))) j)))
      ∙ ap (λ k. sees (get_or g i z) (get_or g (i + 1) z) (take (n - 2) (drop k g))) s

module _ (p : ℕ → Bool) where
  pub below_none : all_below p 0 ≡ true
  unfolding all_below
  below_none = refl

  pub below_suc : (n : ℕ) → all_below p (suc n) ≡ (all_below p n && p n)
  unfolding all_below
  below_suc n = refl

  pub below_more : (n : ℕ) → all_below p n ≡ true → p n ≡ true → all_below p (n + 1) ≡ true
  below_more n a b = ap (all_below p) (add-one n) ∙ below_suc n ∙ and_from (all_below p n) (p n) a b

  pub below_not : (n i : ℕ) → i < n → p i ≡ false → all_below p n ≡ false
  below_not zero i h e = absurd (omega arith)
  below_not (suc n) i h e = below_suc n ∙ go (cases_eq i n) (λ l. below_not n i l e)
    where
      go : (i ≡ n) ⊎ (i ≡ n → ⊥) → (i < n → all_below p n ≡ false) → (all_below p n && p n) ≡ false
      go (inl s) more = and_right (all_below p n) (p n) (ap p (sym s) ∙ e)
      go (inr d) more = and_left (all_below p n) (p n) (more (omega arith))

pub convex_is : (ps : List Point) (face : List ℕ) (r : Bool) → 3 ≤ length face → length face ≤ 16 → all_below (clear (length face) (ring ps face)) (length face) ≡ r → r ≡ convex ps face
convex_is ps face r low high is =
    let many : length (ring ps face) ≡ length face + length face = length-append (map (spot ps) face) (map (spot ps) face) ∙ (λ i. length-map face (spot ps) i + length-map face (spot ps) i) in
    let half : length (ring ps face) / 2 ≡ length face = omega (arith, many) in
    let fits : (leb 3 (length face) && leb (length face) 16) ≡ true = and_from (leb 3 (length face)) (leb (length face) 16) (le-leb 3 (length face) low) (le-leb (length face) 16 high) in
    sym is ∙ ap (λ m. all_below (clear m (ring ps face)) m) (sym half) ∙ ap (λ t. t && turns_left (ring ps face)) (sym fits)
