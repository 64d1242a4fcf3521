-- What becomes of a text that spells a plan within the limits: the plan is legal and accepted, or the first thing wrong with it is the fault.
use Rattle.std.proofs.Common.{◌≡◌, ℕ, ◌+◌, ◌-◌, ◌≤◌, List, [], ◌++◌, map, length, get_or, take, drop, replicate, pos, Ok, Err, Result, sym, refl, ap, ◌∙◌, subst, zero-add, arith}
use lib.Seq.{sets, sets-eq}
use Rattle.std.specs.List.{AllByRecursion}
use Rattle.std.proofs.ByRecursion.{All-weaker}
use Rattle.std.proofs.lemmas.List.{length-map, length-replicate, drop-replicate, take_at, length-append}
use Rattle.text.specs.declared.faults.Fault.{Fault}
use Rattle.text.specs.declared.faults.Ground.TheVariants.{Shape, Edge as EdgeTwice}
use Rattle.text.specs.Faults.{fault}
use Rattle.plane.specs.Separation.{Point}
use Rattle.maps.specs.Passages.{Joins}
use Rattle.maps.specs.declared.passage.Passage.{Passage}
use Rattle.polygon.specs.declared.counts.Counts.{Counts}
use Rattle.polygon.specs.declared.layout.Plan.{Plan}
use Rattle.polygon.specs.Chains.{once}
use Rattle.polygon.specs.Convexity.{shapely}
use Rattle.polygon.specs.Counterclockwise.{Convex}
use Rattle.polygon.specs.Doorways.{doorways}
use Rattle.polygon.specs.Layouts.{Layout}
use Rattle.polygon.specs.Meshes.{Mesh, joined, edges_of, Within, Shaped, Legal, Bent, Twice}
use Rattle.polygon.specs.Plans.{nothing, at_once, opened, opened_by, Answer, refuses, at_opened, at_shape, at_layout, planned}
use Rattle.polygon.specs.Spelling.{Spells}
use Rattle.polygon.specs.Understood.{Spaces, spaces, Long, blank, Held}
use Rattle.polygon.proofs.Joined.{doors_join}
use Rattle.polygon.proofs.Judging.{wide, convex_narrow, convex_wide, doors_narrow, shapes_was, shapes_bent, edges_same, edges_many, numbers_few}
use Rattle.polygon.proofs.Layings.{laid_complete}
use Rattle.polygon.proofs.Shared.{distinct_is, First, once_first, doors_are, doors_half}

-- the spaces after an answer
abbrev pub held_by : Answer → Spaces
held_by o = spaces o.doorways o.corners o.numbers

-- the plan that a text gives, read into blank spaces
abbrev pub plan_in : List ℕ → Spaces → Answer
plan_in t s0 = planned t (blank s0).doorways (blank s0).corners (blank s0).numbers

-- elements written over the front of equal ones
over_equal : {A : Type 0} (n : ℕ) (v : A) (xs : List A) → length xs ≤ n → sets (replicate n v) 0 xs ≡ xs ++ replicate (n - length xs) v
over_equal n v xs h =
    let room : 0 + length xs ≤ length (replicate n v) = omega (arith, length-replicate n v) in
    sets-eq xs (replicate n v) 0 room ∙ ap (λ k. xs ++ drop k (replicate n v)) (zero-add (length xs)) ∙ ap (λ l. xs ++ l) (drop-replicate (length xs) n v)

module _ (s0 : Spaces) (m : Mesh) where
  abbrev a : ℕ
  a = length s0.doorways

  abbrev b : ℕ
  b = length s0.corners

  abbrev c : ℕ
  c = length s0.numbers

  -- what the spaces hold of the plan, with zeros behind
  abbrev points_held : List Point
  points_held = wide (b - length m.corners) m.corners

  abbrev sizes_held : List ℕ
  sizes_held = map length m.faces ++ replicate (256 - length (map length m.faces)) 0

  abbrev numbers_held : List ℕ
  numbers_held = joined m.faces ++ replicate (c - length (joined m.faces)) 0

  abbrev plan_of : Plan
  plan_of = record { corners = length m.corners; faces = length m.faces; edges = length (joined m.faces) }

  abbrev none : List Passage
  none = replicate a nothing

  -- the answer, once the faces are tested
  abbrev judged : Result (Unit {0}) Fault → Answer
  judged (Ok u) = at_opened (length m.faces) (opened_by points_held (edges_of m) none).result (opened_by points_held (edges_of m) none).space points_held numbers_held
  judged (Err e) = refuses e none points_held numbers_held

  abbrev tested : Result (Unit {0}) Fault
  tested = shapely points_held 0 (map length m.faces) (joined m.faces)

  sizes_are : take (length m.faces) sizes_held ≡ map length m.faces
  sizes_are = take_at (map length m.faces) _ (length m.faces) (length-map m.faces length)

  numbers_are : take (length (joined m.faces)) numbers_held ≡ joined m.faces
  numbers_are = take_at (joined m.faces) _ (length (joined m.faces)) refl

  opens : opened points_held (take (length m.faces) sizes_held) (take (length (joined m.faces)) numbers_held) none ≡ opened_by points_held (edges_of m) none
  opens = (λ i. opened points_held (sizes_are i) (numbers_are i) none) ∙ ap (λ es. opened_by points_held es none) (edges_same 0 m.faces)

  shape_is : (r : Result (Unit {0}) Fault) → at_shape r plan_of none points_held sizes_held numbers_held ≡ judged r
  shape_is (Ok u) = ap (λ o. at_opened (length m.faces) o.result o.space points_held numbers_held) opens
  shape_is (Err e) = refl

  module _ (w : Within m) (large : Long s0) where
    few_numbers : length (joined m.faces) ≤ 4096
    few_numbers = omega (arith, numbers_few (length m.corners) m.faces w.numbers, w.faces)

    few_edges : length (edges_of m) ≤ 4096
    few_edges = omega (arith, few_numbers, edges_many 0 m.faces)

    pub planned_is : (t : List ℕ) → Spells t m → length t ≤ 60000 → plan_in t s0 ≡ judged tested
    planned_is t s few =
        let lay = laid_complete t (replicate b (pos 0, pos 0)) (replicate 256 0) (replicate c 0) m s w few in
        let p = over_equal b (pos 0, pos 0) m.corners (omega (arith, w.corners, large)) in
        let z = over_equal 256 0 (map length m.faces) (omega (arith, w.faces, length-map m.faces length)) in
        let n = over_equal c 0 (joined m.faces) (omega (arith, few_numbers, large)) in
        ap (λ (o : Layout). at_layout o.result none o.corners o.sizes o.numbers) lay
        ∙ (λ i. at_layout (Ok plan_of) none (p i) (z i) (n i))
        ∙ (λ i. at_shape (shapely points_held 0 (sizes_are i) (numbers_are i)) plan_of none points_held sizes_held numbers_held)
        ∙ shape_is tested

    abbrev doors_found : List Passage
    doors_found = doorways points_held (edges_of m) (length (edges_of m))

    abbrev pub counts_of : Counts
    counts_of = record { rooms = length m.faces; doorways = length doors_found }

    -- the answer to a legal plan
    abbrev pub accepted : Answer
    accepted = record { result = Ok counts_of; doorways = doors_found ++ drop (length doors_found) none; corners = points_held; numbers = numbers_held }

    pub held : Legal m → Held m counts_of s0 (held_by accepted)
    held l =
        let apart = l.1 in
        let doors = doors_narrow (b - length m.corners) m.corners (edges_of m) (length (edges_of m)) doors_found (doors_are (edges_of m) apart points_held few_edges) in
        let half = doors_half (edges_of m) apart points_held few_edges in
        let some = doors_join m w l.0 (length (edges_of m)) doors_found (omega arith) doors in
        let front = take_at doors_found (drop (length doors_found) none) (length doors_found) refl in
        record {
          found = doors_found;
          doors = doors;
          half = half;
          rooms = refl;
          count = refl;
          doorways = ap (λ l. doors_found ++ l) (drop-replicate (length doors_found) a nothing);
          corners = refl;
          numbers = refl;
          fits = (w.faces.0, w.faces.1, omega (arith, half, few_edges), omega (arith, length-append doors_found (drop (length doors_found) none)), subst (AllByRecursion (Joins (length m.faces))) (sym front) some);
        }

    pub data Verdict (o : Answer) : Type 0 where
      legal : Legal m → o ≡ accepted → Verdict o
      bent : (f : ℕ) → Bent m f → o.result ≡ Err (fault Shape f) → Verdict o
      twice : (f : ℕ) → Shaped m → Twice m f → o.result ≡ Err (fault EdgeTwice f) → Verdict o

    narrow : (fs : List (List ℕ)) → AllByRecursion (Convex points_held) fs → AllByRecursion (Convex m.corners) fs
    narrow fs h = All-weaker (Convex points_held) (Convex m.corners) (convex_narrow (b - length m.corners) m.corners) fs h

    first_of : (e : Fault) → First (edges_of m) (length (edges_of m)) 0 e → (f : ℕ) × Twice m f × (e ≡ fault EdgeTwice f)
    first_of e h = (_, (h.edge, omega (arith, h.below), refl, h.repeats, λ j l. h.others j (omega arith) l), h.is)

    opened_verdict : Shaped m → (r : Result (Unit {0}) Fault) → once (edges_of m) (length (edges_of m)) 0 ≡ r
        → Verdict (at_opened (length m.faces) (at_once points_held (edges_of m) r none).result (at_once points_held (edges_of m) r none).space points_held numbers_held)
    opened_verdict shaped (Ok u) is = legal (shaped, distinct_is (edges_of m) is) refl
    opened_verdict shaped (Err e) is = let h = first_of e (once_first (edges_of m) (length (edges_of m)) 0 e is) in twice h.0 shaped h.1 (ap Err h.2)

    judged_verdict : (r : Result (Unit {0}) Fault) → tested ≡ r → Verdict (judged r)
    judged_verdict (Ok u) is = opened_verdict (narrow m.faces (shapes_was points_held 0 m.faces is)) (once (edges_of m) (length (edges_of m)) 0) refl
    judged_verdict (Err e) is =
        let h = shapes_bent points_held 0 m.faces e is in
        bent h.face (h.below, narrow _ h.before, λ k. h.bent (convex_wide (b - length m.corners) m.corners (get_or m.faces h.face []) k)) (ap Err (h.is ∙ ap (fault Shape) (zero-add h.face)))

    pub verdict : (t : List ℕ) → Spells t m → length t ≤ 60000 → Verdict (plan_in t s0)
    verdict t s few = subst Verdict (sym (planned_is t s few)) (judged_verdict tested refl)
