-- The doorways of a legal plan join its rooms, so that they make a map.
use Rattle.std.proofs.Common.{◌≡◌, ℕ, zero, suc, ◌+◌, ◌-◌, ◌<◌, ◌≤◌, ◌⊎◌, List, [], ◌∷◌, ◌++◌, length, get_or, pos, sym, ap, ◌∙◌, subst, inl, inr, add-zero, zero-add, arith}
use Rattle.std.specs.List.{AllByRecursion}
use Rattle.std.proofs.ByRecursion.{All-get_or, All-push}
use Rattle.std.proofs.lemmas.List.{length-append, get_or_append_left, get_or-append_right}
use Rattle.std.proofs.lemmas.Bool.{cases_lt, cases_eq}
use Rattle.plane.specs.Limits.{PostAt}
use Rattle.maps.specs.Passages.{Joins}
use Rattle.maps.specs.declared.passage.Passage.{Passage}
use Rattle.polygon.specs.declared.edge.Edge.{Edge}
use Rattle.polygon.specs.Convexity.{spot}
use Rattle.polygon.specs.Counterclockwise.{Convex}
use Rattle.polygon.specs.Doorways.{passage}
use Rattle.polygon.specs.Edges.{after, edge, edges_to, edge_at}
use Rattle.polygon.specs.Meshes.{Mesh, edges_from, edges_of, Face, Within, Shaped}
use Rattle.polygon.specs.Sharing.{Shares, Doors, none, skip, door}
use Rattle.polygon.proofs.Listing.{edges_more, face_edges}
use Rattle.polygon.proofs.Rounds.{ends_apart, after_inside}

-- each edge is one of a face, from one of its places
abbrev no_edge : Edge
no_edge = record { from = 0; to = 0; face = 0 }

edge_of_face : (face : List ℕ) (f n i : ℕ) → i < n → edge_at (edges_to face f n) i ≡ edge face f i
edge_of_face face f zero i h = absurd (omega arith)
edge_of_face face f (suc n) i h = ap (λ l. get_or l i no_edge) (edges_more face f n) ∙ go (cases_eq i n) (edge_of_face face f n i)
  where
    many : length (edges_to face f n) ≡ n
    many = face_edges face f n

    go : (i ≡ n) ⊎ (i ≡ n → ⊥) → (i < n → edge_at (edges_to face f n) i ≡ edge face f i) → get_or (edges_to face f n ++ edge face f n ∷ []) i no_edge ≡ edge face f i
    go (inl e) more =
        let z : i - n ≡ 0 = omega arith in
        get_or-append_right (edges_to face f n) (edge face f n ∷ []) n i no_edge many (omega arith) ∙ ap (λ k. get_or (edge face f n ∷ []) k no_edge) z ∙ ap (edge face f) (sym e)
    go (inr d) more = get_or_append_left (edges_to face f n) (edge face f n ∷ []) no_edge i (omega (arith, many)) ∙ more (omega arith)

record Place (k : ℕ) (fs : List (List ℕ)) (e : Edge) : Type 0 where
  number : ℕ
  place : ℕ
  below : number < length fs
  inside : place < length (get_or fs number [])
  is : e ≡ edge (get_or fs number []) (k + number) place

edge_place : (k : ℕ) (fs : List (List ℕ)) (j : ℕ) → j < length (edges_from k fs) → Place k fs (edge_at (edges_from k fs) j)
edge_place k [] j h = absurd (omega arith)
edge_place k (f ∷ fs) j h = go (cases_lt j (length f)) (edge_place (k + 1) fs (j - length f))
  where
    many : length (edges_to f k (length f)) ≡ length f
    many = face_edges f k (length f)

    go : (j < length f) ⊎ (length f ≤ j) → (j - length f < length (edges_from (k + 1) fs) → Place (k + 1) fs (edge_at (edges_from (k + 1) fs) (j - length f))) → Place k (f ∷ fs) (edge_at (edges_from k (f ∷ fs)) j)
    go (inl l) more =
        record {
          number = 0;
          place = j;
          below = omega arith;
          inside = l;
          is = get_or_append_left (edges_to f k (length f)) (edges_from (k + 1) fs) no_edge j (omega (arith, many)) ∙ edge_of_face f k (length f) j l ∙ ap (λ x. edge f x j) (sym (add-zero k));
        }
    go (inr l) more =
        let p = more (omega (arith, many, length-append (edges_to f k (length f)) (edges_from (k + 1) fs))) in
        let one : k + 1 + p.number ≡ k + suc p.number = omega arith in
        record {
          number = suc p.number;
          place = p.place;
          below = omega (arith, p.below);
          inside = p.inside;
          is = get_or-append_right (edges_to f k (length f)) (edges_from (k + 1) fs) (length f) j no_edge many l ∙ p.is ∙ ap (λ x. edge (get_or fs p.number []) x p.place) one;
        }

module _ (m : Mesh) (w : Within m) (shaped : Shaped m) where
  record Sure (e : Edge) : Type 0 where
    room : e.face < length m.faces
    from : PostAt (spot m.corners e.from)
    to : PostAt (spot m.corners e.to)
    apart : spot m.corners e.to ≡ spot m.corners e.from → ⊥

  sure : (j : ℕ) → j < length (edges_of m) → Sure (edge_at (edges_of m) j)
  sure j h =
      let p = edge_place 0 m.faces j h in
      let f = get_or m.faces p.number [] in
      let convex = All-get_or (Convex m.corners) m.faces p.number [] p.below shaped in
      let limits = All-get_or (Face (length m.corners)) m.faces p.number [] p.below w.numbers in
      let next = after_inside m.corners f convex.0 p.place p.inside in
      let post : (i : ℕ) → i < length f → PostAt (spot m.corners (get_or f i 0)) = λ i l. All-get_or PostAt m.corners (get_or f i 0) (pos 0, pos 0) (All-get_or (λ c. c < length m.corners) f i 0 l limits.2) w.posts in
      subst Sure (sym p.is)
      (record {
        room = omega (arith, p.below, zero-add p.number);
        from = post p.place p.inside;
        to = post (after f p.place) next;
        apart = λ e. ends_apart m.corners f convex p.place p.inside (sym e);
      })

  joins : (k q : ℕ) → k < length (edges_of m) → Shares (edges_of m) k q → Joins (length m.faces) (passage m.corners (edge_at (edges_of m) k) (edge_at (edges_of m) q).face)
  joins k q h s =
      let a = sure k h in
      (a.room, (sure q s.0).room, (λ e. omega (arith, s.2)), (a.to, a.from, a.apart))

  pub doors_join : (n : ℕ) (ds : List Passage) → n ≤ length (edges_of m) → Doors m.corners (edges_of m) n ds → AllByRecursion (Joins (length m.faces)) ds
  doors_join n ds h none = tt
  doors_join n ds h (skip k xs d s) = doors_join k xs (omega arith) d
  doors_join n ds h (door k xs q d s) = All-push (Joins (length m.faces)) xs _ (doors_join k xs (omega arith) d) (joins k q (omega arith) s)
