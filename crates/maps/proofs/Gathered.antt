-- Doorways made one by one, and what they then join.
use Rattle.std.specs.Prelude.{◌≡◌, ℕ, ◌+◌, ◌<◌, true, ◌&&◌, List, [], ◌∷◌, ◌++◌, map, length, take, nat_lt, slice_index_or, refl}
use Rattle.std.proofs.Common.{sym, ap, subst, ◌∙◌}
use Rattle.std.specs.List.{AllByRecursion}
use Rattle.std.proofs.ByRecursion.{All-more}
use Rattle.std.proofs.lemmas.List.{take_more, map-append}
use Rattle.std.proofs.lemmas.Bool.{and_from, and_parts, lt-ltb}
use Rattle.maps.specs.declared.doorway.Doorway.{Doorway}
use Rattle.maps.specs.declared.passage.Passage.{Passage}
use Rattle.maps.specs.Passages.{plain, Joins, within}

within_push : (n : ℕ) (ds : List Doorway) (d : Doorway) → within n ds ≡ true → d.near < n → d.far < n → within n (ds ++ d ∷ []) ≡ true
within_push n [] d e a b = and_from _ _ (and_from _ _ (lt-ltb d.near n a) (lt-ltb d.far n b)) refl
within_push n (x ∷ ds) d e a b = let p = and_parts (nat_lt x.near n && nat_lt x.far n) (within n ds) e in and_from _ _ p.0 (within_push n ds d p.1 a b)

-- the numbers of a doorway join its rooms
joined : (n : ℕ) (d : Doorway) → d.near < n → d.far < n → Joins n (plain d)
joined n d a b =
    let c = d.crossing in
    (a, b, d.apart, ((c.left.x_within, c.left.y_within), (c.right.x_within, c.right.y_within), λ e. c.apart (ap (λ q. q.0) e) (ap (λ q. q.1) e)))

module _ (n k : ℕ) (from : List Passage) (ds : List Doorway) (z : Passage) (d : Doorway) where
  pub record Gathered : Type 0 where
    pub all : AllByRecursion (Joins n) (take (k + 1) from)
    pub same : map plain (ds ++ d ∷ []) ≡ take (k + 1) from
    pub inside : within n (ds ++ d ∷ []) ≡ true

  pub gathered : k < length from → AllByRecursion (Joins n) (take k from) → map plain ds ≡ take k from → within n ds ≡ true
      → plain d ≡ slice_index_or from k z → d.near < n → d.far < n → Gathered
  gathered f all same inside is a b =
      record {
        all = All-more (Joins n) from k z f all (subst (Joins n) is (joined n d a b));
        same = map-append plain ds (d ∷ []) ∙ (λ j. same j ++ is j ∷ []) ∙ sym (take_more from k z f);
        inside = within_push n ds d inside a b;
      }
