-- The reader's answer, and what it means: which texts are accepted, and what the spaces then hold.
use Rattle.std.proofs.Common.{◌≡◌, ℕ, ◌<◌, ◌≤◌, Bool, true, false, ltb, ◌⊎◌, List, [], length, take, replicate, Ok, Err, Result, sym, refl, ap, ◌∙◌, subst, inl, inr, arith}
use Rattle.std.proofs.ByRecursion.{All-get_or}
use Rattle.std.proofs.lemmas.List.{length-take, get_or-take}
use Rattle.std.proofs.lemmas.Bool.{cases_Bool, cases_order, or_from, le-ltb}
use Rattle.text.specs.declared.faults.Fault.{Fault}
use Rattle.text.specs.declared.faults.Ground.TheVariants.{Space, Limits, Shape, Edge}
use Rattle.text.specs.Faults.{fault}
use Rattle.polygon.specs.declared.counts.Counts.{Counts}
use Rattle.polygon.specs.declared.layout.Plan.{Plan}
use Rattle.polygon.specs.Counterclockwise.{Convex}
use Rattle.polygon.specs.Edges.{edge_at}
use Rattle.polygon.specs.Layouts.{Layout, laid}
use Rattle.polygon.specs.Meshes.{Mesh, edges_of, Within, Shaped, Legal, Bent, Twice}
use Rattle.polygon.specs.Plans.{Answer, refuses, at_layout, kept, short, answered}
use Rattle.polygon.specs.Refusals as refusals
use Rattle.polygon.specs.Refusals.{Faulty}
use Rattle.polygon.specs.Sharing.{Distinct}
use Rattle.polygon.specs.Spelling.{Spells}
use Rattle.polygon.specs.Understood.{Spaces, Long, blank, Held, Misshapen, Doubled, Understood}
use Rattle.polygon.proofs.Answering.{long_enough, short_so, base}
use Rattle.polygon.proofs.Blames.{laid_blame}
use Rattle.polygon.proofs.Grounds.{shape_only, edge_only}
use Rattle.polygon.proofs.Layings.{laid_sound}
use Rattle.polygon.proofs.Readers.{no, never}
use Rattle.polygon.proofs.Verdicts.{held_by, plan_in, counts_of, accepted, held, Verdict, legal, bent, twice, verdict}

-- a plan is not bent if its faces are convex, and bent at one face only
straight : (m : Mesh) (f : ℕ) → Shaped m → Bent m f → ⊥
straight m f shaped h = h.2 (All-get_or (Convex m.corners) m.faces f [] h.0 shaped)

not_before : (m : Mesh) (f g : ℕ) → f < g → Bent m f → Bent m g → ⊥
not_before m f g l h k =
    let many : f < length (take g m.faces) = omega (arith, length-take g m.faces, h.0) in
    h.2 (subst (Convex m.corners) (get_or-take g m.faces f [] l) (All-get_or (Convex m.corners) (take g m.faces) f [] many k.1))

first_bent : (m : Mesh) (f g : ℕ) → Bent m f → Bent m g → f ≡ g
first_bent m f g h k = go (cases_order f g)
  where
    go : (f ≡ g) ⊎ ((f < g) ⊎ (g < f)) → f ≡ g
    go (inl e) = e
    go (inr (inl l)) = absurd (not_before m f g l h k)
    go (inr (inr l)) = absurd (not_before m g f l k h)

-- the same of edges that are used twice
apart : (m : Mesh) (f : ℕ) → Distinct (edges_of m) → Twice m f → ⊥
apart m f distinct h = distinct h.3.0 h.0 h.3.1 h.1 h.3.2

first_twice : (m : Mesh) (f g : ℕ) → Twice m f → Twice m g → f ≡ g
first_twice m f g h k = go (cases_order h.0 k.0)
  where
    go : (h.0 ≡ k.0) ⊎ ((h.0 < k.0) ⊎ (k.0 < h.0)) → f ≡ g
    go (inl e) = sym h.2 ∙ ap (λ x. (edge_at (edges_of m) x).face) e ∙ k.2
    go (inr (inl l)) = absurd (k.4 h.0 l h.3)
    go (inr (inr l)) = absurd (h.4 k.0 l k.3)

module _ (t : List ℕ) (s0 : Spaces) (large : Long s0) where
  abbrev plan : Answer
  plan = plan_in t s0

  abbrev lay : Layout
  lay = laid t (blank s0).corners (replicate 256 0) (blank s0).numbers

  -- an answer that is n has come from a layout
  laid_ok : (n : Counts) → plan.result ≡ Ok n → (p : Plan) × (lay.result ≡ Ok p)
  laid_ok n = go lay.result
    where
      go : (r : Result Plan Fault) → (at_layout r (blank s0).doorways lay.corners lay.sizes lay.numbers).result ≡ Ok n → (p : Plan) × (r ≡ Ok p)
      go (Ok p) e = (p, refl)
      go (Err f) e = no e

  abbrev Sound : Counts → Answer → Type 0
  Sound n o = (length t ≤ 60000) × ((m : Mesh) × Spells t m × Within m × Legal m × Held m n s0 (held_by o))

  planned_sound : (n : Counts) → plan.result ≡ Ok n → Sound n plan
  planned_sound n e =
      let p = laid_ok n e in
      let s = laid_sound t (blank s0).corners (replicate 256 0) (blank s0).numbers p.0 p.1 in
      let m = s.1.0 in
      by m s.0 s.1.1 s.1.2 plan e (verdict s0 m s.1.2 large t s.1.1 s.0)
    where
      by : (m : Mesh) → length t ≤ 60000 → Spells t m → (w : Within m) → (o : Answer) → o.result ≡ Ok n → Verdict s0 m w large o → Sound n o
      by m few s w o e (legal l is) =
          let same : counts_of s0 m w large ≡ n = cc (ap (λ x. x.result) (sym is) ∙ e) in
          let here = subst (λ x. Held m x s0 (held_by (accepted s0 m w large))) same (held s0 m w large l) in
          (few, (m, s, w, l, subst (λ (x : Answer). Held m n s0 (held_by x)) (sym is) here))
      by m few s w o e (bent f h is) = no (sym is ∙ e)
      by m few s w o e (twice f h k is) = no (sym is ∙ e)

  planned_complete : (m : Mesh) → Spells t m → Within m → Legal m → length t ≤ 60000 → (n : Counts) × (plan.result ≡ Ok n) × Held m n s0 (held_by plan)
  planned_complete m s w l few = by plan (verdict s0 m w large t s few)
    where
      by : (o : Answer) → Verdict s0 m w large o → (n : Counts) × (o.result ≡ Ok n) × Held m n s0 (held_by o)
      by o (legal k is) = (_, ap (λ x. x.result) is, subst (λ (x : Answer). Held m (counts_of s0 m w large) s0 (held_by x)) (sym is) (held s0 m w large k))
      by o (bent f h is) = absurd (straight m f l.0 h)
      by o (twice f h k is) = absurd (apart m f l.1 k)

  planned_blamed : (f : Fault) → plan.result ≡ Err f → ((60000 < length t) × (f ≡ fault Limits 60000)) ⊎ ((length t ≤ 60000) × Faulty t f)
  planned_blamed f e = go lay.result refl e
    where
      by : (m : Mesh) → Spells t m → (w : Within m) → (o : Answer) → o.result ≡ Err f → Verdict s0 m w large o → Faulty t f
      by m s w o h (legal l is) = never (sym (ap (λ x. x.result) is) ∙ h)
      by m s w o h (bent k d is) = let same : f ≡ fault Shape k = cc in refusals.bent m s w k d same
      by m s w o h (twice k d g is) = let same : f ≡ fault Edge k = cc in refusals.twice m s w d k g same

      go : (r : Result Plan Fault) → lay.result ≡ r → (at_layout r (blank s0).doorways lay.corners lay.sizes lay.numbers).result ≡ Err f → ((60000 < length t) × (f ≡ fault Limits 60000)) ⊎ ((length t ≤ 60000) × Faulty t f)
      go (Ok p) is h =
          let s = laid_sound t (blank s0).corners (replicate 256 0) (blank s0).numbers p is in
          inr (s.0, by s.1.0 s.1.1 s.1.2 plan e (verdict s0 s.1.0 s.1.2 large t s.1.1 s.0))
      go (Err g) is h = let same : g ≡ f = cc in laid_blame t f (blank s0).corners (replicate 256 0) (blank s0).numbers (is ∙ ap Err same)

  planned_bent : (k : ℕ) → length t ≤ 60000 → Misshapen t k → plan.result ≡ Err (fault Shape k)
  planned_bent k few h = by h.0 h.2 h.3 plan (verdict s0 h.0 h.2 large t h.1 few)
    where
      by : (m : Mesh) (w : Within m) → Bent m k → (o : Answer) → Verdict s0 m w large o → o.result ≡ Err (fault Shape k)
      by m w d o (legal l is) = absurd (straight m k l.0 d)
      by m w d o (bent j g is) = is ∙ ap (λ x. Err (fault Shape x)) (first_bent m j k g d)
      by m w d o (twice j l g is) = absurd (straight m k l d)

  planned_twice : (k : ℕ) → length t ≤ 60000 → Doubled t k → plan.result ≡ Err (fault Edge k)
  planned_twice k few h = by h.0 h.2 h.3 h.4 plan (verdict s0 h.0 h.2 large t h.1 few)
    where
      by : (m : Mesh) (w : Within m) → Shaped m → Twice m k → (o : Answer) → Verdict s0 m w large o → o.result ≡ Err (fault Edge k)
      by m w shaped d o (legal l is) = absurd (apart m k l.1 d)
      by m w shaped d o (bent j g is) = absurd (straight m j shaped g)
      by m w shaped d o (twice j l g is) = is ∙ ap (λ x. Err (fault Edge x)) (first_twice m j k g d)

module _ (t : List ℕ) (s0 : Spaces) where
  abbrev answer : Answer
  answer = answered t s0.doorways s0.corners s0.numbers

  abbrev small : Bool
  small = short (length s0.doorways) (length s0.corners) (length s0.numbers)

  fits : Long s0 → small ≡ false
  fits l =
      or_from (ltb (length s0.doorways) 2048) _ (le-ltb _ 2048 l.0)
      (or_from (ltb (length s0.corners) 1024) (ltb (length s0.numbers) 4096) (le-ltb _ 1024 l.1) (le-ltb _ 4096 l.2))

  tight : (Long s0 → ⊥) → small ≡ true
  tight h = go (cases_Bool small)
    where
      go : (small ≡ true) ⊎ (small ≡ false) → small ≡ true
      go (inl s) = s
      go (inr s) = absurd (h (long_enough _ _ _ s))

  abbrev here : Answer
  here = plan_in t s0

  abbrev then : Result Counts Fault → Answer
  then r = kept r here.doorways here.corners here.numbers (length s0.doorways) (length s0.corners) (length s0.numbers)

  long_so : Long s0 → answer ≡ then here.result
  long_so l = base t s0.doorways s0.corners s0.numbers (length s0.doorways) (length s0.corners) (length s0.numbers) refl refl refl (fits l)

  refused_so : small ≡ true → answer ≡ refuses (fault Space 0) s0.doorways s0.corners s0.numbers
  refused_so s = short_so t s0.doorways s0.corners s0.numbers s

  kept_ok : (r : Result Counts Fault) (n : Counts) → (then r).result ≡ Ok n → (r ≡ Ok n) × (held_by (then r) ≡ held_by here)
  kept_ok (Ok x) n e = (e, refl)
  kept_ok (Err f) n e = no e

  kept_err : (r : Result Counts Fault) (f : Fault) → (then r).result ≡ Err f → (r ≡ Err f) × (held_by (then r) ≡ blank s0)
  kept_err (Ok x) f e = never e
  kept_err (Err g) f e = (e, refl)

  sounds : (n : Counts) → answer.result ≡ Ok n → Long s0 × (length t ≤ 60000) × ((m : Mesh) × Spells t m × Within m × Legal m × Held m n s0 (held_by answer))
  sounds n e = go (cases_Bool small)
    where
      go : (small ≡ true) ⊎ (small ≡ false) → Long s0 × (length t ≤ 60000) × ((m : Mesh) × Spells t m × Within m × Legal m × Held m n s0 (held_by answer))
      go (inl s) = no (ap (λ o. o.result) (sym (refused_so s)) ∙ e)
      go (inr s) =
          let l = long_enough _ _ _ s in
          let k = kept_ok here.result n (ap (λ o. o.result) (sym (long_so l)) ∙ e) in
          let p = planned_sound t s0 l n k.0 in
          let all = ap held_by (long_so l) ∙ k.1 in
          (l, p.0, (p.1.0, p.1.1, p.1.2, p.1.3, subst (Held p.1.0 n s0) (sym all) p.1.4))

  completes : (m : Mesh) → Spells t m → Within m → Legal m → length t ≤ 60000 → Long s0 → (n : Counts) × (answer.result ≡ Ok n) × Held m n s0 (held_by answer)
  completes m s w g few l =
      let p = planned_complete t s0 l m s w g few in
      let all = long_so l ∙ ap then p.1 in
      (p.0, ap (λ o. o.result) all, subst (Held m p.0 s0) (sym (ap held_by all)) p.2)

  -- a refusal, in long spaces
  refusal : (f : Fault) → answer.result ≡ Err f → Long s0 → (here.result ≡ Err f) × (held_by answer ≡ blank s0)
  refusal f e l = let k = kept_err here.result f (ap (λ o. o.result) (sym (long_so l)) ∙ e) in (k.0, ap held_by (long_so l) ∙ k.1)

  refuses_so : (f : Fault) → Long s0 → here.result ≡ Err f → answer.result ≡ Err f
  refuses_so f l e = ap (λ o. o.result) (long_so l) ∙ ap (λ r. (then r).result) e

  blames : (f : Fault) → answer.result ≡ Err f → Long s0 → ((60000 < length t) × (f ≡ fault Limits 60000)) ⊎ ((length t ≤ 60000) × Faulty t f)
  blames f e l = planned_blamed t s0 l f (refusal f e l).0

  first_fault : (f : Fault) → answer.result ≡ Err f → length t ≤ 60000 → Long s0 → Faulty t f
  first_fault f e few l = go (blames f e l)
    where
      go : ((60000 < length t) × (f ≡ fault Limits 60000)) ⊎ ((length t ≤ 60000) × Faulty t f) → Faulty t f
      go (inl h) = absurd (omega arith)
      go (inr h) = h.1

  understood : Understood t s0 answer.result (held_by answer)
  understood =
      record {
        short = λ h. let e = refused_so (tight h) in (ap (λ o. o.result) e, ap held_by e);
        sound = sounds;
        complete = completes;
        bent = λ k few l. (λ e. shape_only t k (first_fault (fault Shape k) e few l), λ h. refuses_so (fault Shape k) l (planned_bent t s0 l k few h));
        twice = λ k few l. (λ e. edge_only t k (first_fault (fault Edge k) e few l), λ h. refuses_so (fault Edge k) l (planned_twice t s0 l k few h));
        blamed = blames;
        cleared = λ f e l. (refusal f e l).1;
      }

pub understands : (t : List ℕ) (s0 : Spaces) (r : Result Counts Fault) (s : Spaces) → r ≡ (answer t s0).result
    → s.doorways ≡ (answer t s0).doorways → s.corners ≡ (answer t s0).corners → s.numbers ≡ (answer t s0).numbers → Understood t s0 r s
understands t s0 r s e d p n =
    subst (λ (o : Answer). Understood t s0 o.result (held_by o)) (λ i. record { result = sym e i; doorways = sym d i; corners = sym p i; numbers = sym n i }) (understood t s0)
