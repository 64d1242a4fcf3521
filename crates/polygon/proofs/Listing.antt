-- Edges and doorways listed one by one.
use Rattle.std.proofs.Common.{◌≡◌, ℕ, zero, suc, ◌+◌, ◌<◌, ◌≤◌, ltb, List, [], ◌∷◌, ◌++◌, length, get_or, take, drop, set, Some, Option, sym, refl, ap, ◌∙◌, subst, add-one, arith, length-append}
use Rattle.std.proofs.lemmas.List.{append_assoc, at_drop_more, length-take, length-drop, drop_more}
use Rattle.std.proofs.Math.Seq.{set-append_seam}
use Rattle.std.proofs.lemmas.Bool.{cond-true, cond-false, lt-ltb, le-ltb}
use Rattle.plane.specs.Separation.{Point}
use Rattle.polygon.specs.declared.edge.Edge.{Edge}
use Rattle.maps.specs.declared.passage.Passage.{Passage}
use Rattle.polygon.specs.Edges.{edge, edges_to, all_edges}
use Rattle.polygon.specs.Doorways.{shared, added, doorways, Holds}

pub edges_none : (face : List ℕ) (f : ℕ) → edges_to face f 0 ≡ []
unfolding edges_to
edges_none face f = refl

pub edges_more : (face : List ℕ) (f n : ℕ) → edges_to face f (suc n) ≡ edges_to face f n ++ edge face f n ∷ []
unfolding edges_to
edges_more face f n = refl

-- a face has as many edges as corners
pub face_edges : (face : List ℕ) (f n : ℕ) → length (edges_to face f n) ≡ n
face_edges face f zero = ap length (edges_none face f)
face_edges face f (suc n) = ap length (edges_more face f n) ∙ length-append (edges_to face f n) (edge face f n ∷ []) ∙ ap (λ m. m + 1) (face_edges face f n) ∙ add-one n

pub one_edge : (face : List ℕ) (f i : ℕ) (front : List Edge) → (front ++ edges_to face f i) ++ edge face f i ∷ [] ≡ front ++ edges_to face f (i + 1)
one_edge face f i front = append_assoc front (edges_to face f i) (edge face f i ∷ []) ∙ ap (λ l. front ++ l) (sym (edges_more face f i) ∙ ap (edges_to face f) (sym (add-one i)))

-- one face more, where s corner numbers of the rest are its own
module _ (f : ℕ) (ss rest face behind : List ℕ) (old new : List Edge) (here : face ≡ take (get_or ss f 0) rest) (later : behind ≡ drop (get_or ss f 0) rest) (told : new ≡ old ++ edges_to face f (length face)) where
  pub faces_step : (all : List Edge) → f < length ss → old ++ all_edges f (drop f ss) rest ≡ all → new ++ all_edges (f + 1) (drop (f + 1) ss) behind ≡ all
  faces_step all h inv =
      ap (λ l. l ++ all_edges (f + 1) (drop (f + 1) ss) behind) told
      ∙ append_assoc old (edges_to face f (length face)) (all_edges (f + 1) (drop (f + 1) ss) behind)
      ∙ (λ i. old ++ (edges_to (here i) f (length (here i)) ++ all_edges (f + 1) (drop (f + 1) ss) (later i)))
      ∙ ap (λ l. old ++ l) (sym (at_drop_more (λ l. all_edges f l rest) ss f 0 h))
      ∙ inv

  pub faces_many : length new + length behind ≡ length old + length rest
  faces_many =
      let s = get_or ss f 0 in
      omega (arith, ap length told, length-append old (edges_to face f (length face)), face_edges face f (length face), ap length here, ap length later, length-take s rest, length-drop s rest)

module _ (ps : List Point) (es : List Edge) where
  pub doors_none : doorways ps es 0 ≡ []
  unfolding doorways
  doors_none = refl

  pub doors_suc : (k : ℕ) → doorways ps es (suc k) ≡ added (doorways ps es k) (shared ps es k)
  unfolding doorways
  doors_suc k = refl

  pub doors_more : (k : ℕ) (o : Option Passage) → o ≡ shared ps es k → doorways ps es (k + 1) ≡ added (doorways ps es k) o
  doors_more k o e = ap (doorways ps es) (add-one k) ∙ doors_suc k ∙ ap (added (doorways ps es k)) (sym e)

module _ (space space0 : List Passage) (count : ℕ) (ds : List Passage) (so : Holds space space0 count ds) where
  pub held_more : (p : Passage) → count < 2048 → Holds (set space count p) space0 (count + 1) (added ds (Some p))
  held_more p h =
      let same : ds ++ p ∷ [] ≡ added ds (Some p) = sym (cond-true (ltb (length ds) 2048) (ds ++ p ∷ []) ds (lt-ltb (length ds) 2048 (omega (arith, so.counts)))) in
      subst (Holds (set space count p) space0 (count + 1)) same
      (record {
        counts = omega (arith, so.counts, length-append ds (p ∷ []));
        has = ap (λ l. set l count p) (so.has ∙ ap (λ l. ds ++ l) (drop_more space0 count p (omega (arith, so.room)))) ∙ ap (λ k. set (ds ++ get_or space0 count p ∷ drop (count + 1) space0) k p) so.counts ∙ set-append_seam ds _ (drop (count + 1) space0) p ∙ sym (append_assoc ds (p ∷ []) (drop (count + 1) space0));
        most = omega arith;
        room = so.room;
      })

  pub held_full : (p : Passage) → 2048 ≤ count → Holds space space0 count (added ds (Some p))
  held_full p h =
      subst (Holds space space0 count) (sym (cond-false (ltb (length ds) 2048) (ds ++ p ∷ []) ds (le-ltb (length ds) 2048 (omega (arith, so.counts))))) so
