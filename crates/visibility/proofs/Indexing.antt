-- An index is entered doorway by doorway, the last first.
use Rattle.std.proofs.Common.{◌≡◌, ℕ, ◌+◌, ◌<◌, ◌≤◌, Bool, cond, List, length, get_or, set, replicate, Some, None, Option, unwrap_or, sym, refl, ap, ◌∙◌, subst, ⊎_elim, arith}
use Rattle.std.specs.List.{slice_get}
use Rattle.std.proofs.lemmas.List.{get_or-set_same, get_or-set_other, length-set, get_or-replicate, length-replicate}
use Rattle.std.proofs.lemmas.Bool.{cases_eq, ne_eqb, cond-false, cases_Bool}
use Rattle.maps.specs.declared.doorway.Doorway.{Doorway}
use Rattle.visibility.specs.declared.index.Index.{Index}
use Rattle.visibility.specs.declared.index.Next.{Next}
use Rattle.visibility.specs.Indexes.{Aside, Passed, next_of, entered_in, Indexed}
use Rattle.visibility.specs.Sets.{Numbers}
use Rattle.visibility.specs.Steps.{leave, fresh, through, onward}
use Rattle.visibility.proofs.States.{nth_some, nth_none}

-- a doorway that has no side in the room leads nowhere from there
aside_leave : (d : Doorway) (a : ℕ) → Aside d a → leave d a ≡ None
aside_leave d a off = cond-false _ _ _ (ne_eqb d.near a off.0) ∙ cond-false _ _ _ (ne_eqb d.far a off.1)

pub aside_none :
    (ds : List Doorway) (shut e : Numbers) (a k : ℕ) → ((d : Doorway) → slice_get ds k ≡ Some d → Aside d a) → onward ds shut e a k ≡ None
aside_none ds shut e a k off =
    ⊎_elim
    (λ y. ap (λ (t : Bool). cond t None (through e a (slice_get ds k))) y)
    (λ n. ap (λ (t : Bool). cond t None (through e a (slice_get ds k))) n ∙ by (slice_get ds k) refl)
    (cases_Bool (shut k))
  where
    by : (o : Option Doorway) → slice_get ds k ≡ o → through e a o ≡ None
    by None q = refl
    by (Some d) q = ap (fresh e) (aside_leave d a (off d q))

-- below the count every doorway is there
pub missing : (ds : List Doorway) (k : ℕ) → slice_get ds k ≡ None → k < length ds → ⊥
missing ds k q l = let b = nth_none ds k q in omega arith

-- the doorways from m on are entered
pub record Entered (ds : List Doorway) (m : ℕ) (x : Index) : Type 0 where
  pub firsts : length x.first ≡ 256
  pub nexts : length x.next ≡ 2048
  pub first : (a : ℕ) → a < 256 → Passed ds a m (get_or x.first a 0)
  pub near : (k : ℕ) (d : Doorway) → m ≤ k → slice_get ds k ≡ Some d → Passed ds d.near (k + 1) (next_of x k).near
  pub far : (k : ℕ) (d : Doorway) → m ≤ k → slice_get ds k ≡ Some d → Passed ds d.far (k + 1) (next_of x k).far

module _ (ds : List Doorway) where
  pub entered_none :
      (x : Index) → x.first ≡ replicate 256 (length ds) → length x.next ≡ 2048 → Entered ds (length ds) x
  entered_none x f n = record {
    firsts = ap length f ∙ length-replicate 256 (length ds);
    nexts = n;
    first = λ a l.
        let e : get_or x.first a 0 ≡ length ds = ap (λ (v : List ℕ). get_or v a 0) f ∙ get_or-replicate 256 a (length ds) 0 l in
        (omega arith, omega arith, λ i d p q. absurd (omega arith));
    near = λ k d l q. absurd (past k d l q);
    far = λ k d l q. absurd (past k d l q);
  }
    where
      past : (k : ℕ) (d : Doorway) → length ds ≤ k → slice_get ds k ≡ Some d → ⊥
      past k d l q = let b = nth_some ds k d q in omega arith

  module _ (m : ℕ) (x : Index) (d : Doorway) (here : slice_get ds m ≡ Some d) (low : m < 2048) (in_near : d.near < 256) (in_far : d.far < 256) (was : Entered ds (m + 1) x) where
    below : m < length ds
    below = nth_some ds m d here

    same : (c : Doorway) → slice_get ds m ≡ Some c → d ≡ c
    same c q = ap (λ (o : Option Doorway). unwrap_or o c) (sym here ∙ q)

    here_first : (a : ℕ) → a < 256 → Passed ds a m (get_or (entered_in x m d).first a 0)
    here_first a l =
        ⊎_elim
        (λ (f : a ≡ d.far).
        let long : d.far < length (set x.first d.near m) = omega (arith, length-set x.first d.near m, was.firsts) in
        let e : get_or (entered_in x m d).first a 0 ≡ m =
        ap (λ (j : ℕ). get_or (entered_in x m d).first j 0) f ∙ get_or-set_same (set x.first d.near m) d.far m 0 long in
        subst (Passed ds a m) (sym e) (omega arith, omega (arith, below), λ i c p q. absurd (omega arith)))
        (λ (not_far : a ≡ d.far → ⊥).
        let past_far : get_or (entered_in x m d).first a 0 ≡ get_or (set x.first d.near m) a 0 =
        get_or-set_other (set x.first d.near m) d.far a m 0 not_far in
        ⊎_elim
        (λ (n : a ≡ d.near).
        let long : d.near < length x.first = omega (arith, was.firsts) in
        let e : get_or (entered_in x m d).first a 0 ≡ m =
        past_far ∙ ap (λ (j : ℕ). get_or (set x.first d.near m) j 0) n ∙ get_or-set_same x.first d.near m 0 long in
        subst (Passed ds a m) (sym e) (omega arith, omega (arith, below), λ i c p q. absurd (omega arith)))
        (λ (not_near : a ≡ d.near → ⊥).
        let e : get_or (entered_in x m d).first a 0 ≡ get_or x.first a 0 = past_far ∙ get_or-set_other x.first d.near a m 0 not_near in
        let old = was.first a l in
        subst (Passed ds a m) (sym e) (
          omega (arith, old.0),
          old.1,
          λ i c p q r. ⊎_elim
              (λ (s : i ≡ m).
              let t : d ≡ c = same c (subst (λ (j : ℕ). slice_get ds j ≡ Some c) s r) in
              subst (λ (z : Doorway). Aside z a) t ((λ u. not_near (sym u)), (λ u. not_far (sym u))))
              (λ (ne : i ≡ m → ⊥). old.2 i c (omega arith) q r)
              (cases_eq i m),
        ))
        (cases_eq a d.near))
        (cases_eq a d.far)

    -- what comes next after k, once that of m was set
    next :
        (room : Doorway → ℕ) (side : Next → ℕ)
        → side (record { near = get_or x.first d.near 0; far = get_or x.first d.far 0 }) ≡ get_or x.first (room d) 0 → room d < 256
        → ((k : ℕ) (c : Doorway) → m + 1 ≤ k → slice_get ds k ≡ Some c → Passed ds (room c) (k + 1) (side (next_of x k)))
        → (k : ℕ) (c : Doorway) → m ≤ k → slice_get ds k ≡ Some c → Passed ds (room c) (k + 1) (side (next_of (entered_in x m d) k))
    next room side at l old k c p q =
        let n : Next = record { near = get_or x.first d.near 0; far = get_or x.first d.far 0 } in
        let blank : Next = record { near = 0; far = 0 } in
        ⊎_elim
        (λ (s : k ≡ m).
        let t : d ≡ c = same c (subst (λ (j : ℕ). slice_get ds j ≡ Some c) s q) in
        let lt : m < length x.next = omega (arith, was.nexts) in
        let e : side (next_of (entered_in x m d) k) ≡ get_or x.first (room d) 0 =
        ap (λ (j : ℕ). side (next_of (entered_in x m d) j)) s ∙ ap side (get_or-set_same x.next m n blank lt) ∙ at in
        subst (Passed ds (room c) (k + 1)) (sym e)
        (subst (λ (j : ℕ). Passed ds (room c) (j + 1) (get_or x.first (room d) 0)) (sym s)
        (subst (λ (z : Doorway). Passed ds (room z) (m + 1) (get_or x.first (room d) 0)) t (was.first (room d) l))))
        (λ (ne : k ≡ m → ⊥).
        subst (Passed ds (room c) (k + 1)) (sym (ap side (get_or-set_other x.next m k n blank ne))) (old k c (omega arith) q))
        (cases_eq k m)

    pub entered_more : Entered ds m (entered_in x m d)
    entered_more = record {
      firsts = length-set (set x.first d.near m) d.far m ∙ length-set x.first d.near m ∙ was.firsts;
      nexts = length-set x.next m _ ∙ was.nexts;
      first = here_first;
      near = next (λ c. c.near) (λ n. n.near) refl in_near was.near;
      far = next (λ c. c.far) (λ n. n.far) refl in_far was.far;
    }

  pub entered_all : (x : Index) → Entered ds 0 x → Indexed ds x
  entered_all x e = record { first = e.first; near = λ k d q. e.near k d (omega arith) q; far = λ k d q. e.far k d (omega arith) q }
