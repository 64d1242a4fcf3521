-- A turn of the search: what holds as it comes to doorway k, and that this holds again at the next.
use Rattle.std.proofs.Common.{◌≡◌, ℕ, zero, suc, ◌+◌, ◌-◌, ◌<◌, ◌≤◌, Bool, true, false, List, [], ◌∷◌, ◌++◌, length, set, Some, None, fold, sym, ap, ◌∙◌, subst, ap₂, arith}
use mathlib.Core.Path.{fun_ext}
use Rattle.std.specs.List.{slice_get}
use Rattle.std.proofs.lemmas.List.{set-set, set-get_or}
use Rattle.std.proofs.lemmas.Bool.{cond-false}
use Rattle.plane.specs.declared.quad.Quad.{Quad}
use Rattle.maps.specs.declared.doorway.Doorway.{Doorway}
use Rattle.visibility.specs.Sets.{Numbers, with, free, marks}
use Rattle.visibility.specs.Worlds.{World, world, Inside}
use Rattle.visibility.specs.Steps.{onward}
use Rattle.visibility.specs.Indexes.{Aside, Passed}
use Rattle.visibility.specs.Questions.{due, visited, toured}
use Rattle.visibility.specs.Trips.{Trip}
use Rattle.visibility.proofs.Indexing.{aside_none}
use Rattle.visibility.proofs.Numbers.{marks_set, free_with}
use Rattle.visibility.proofs.Questions.{upto, trip, follow_none, follow_no, follow_yes, toured_ended}
use Rattle.visibility.proofs.Steps.{step_follows, follows_inside}

-- the room that comes next: it is in the world, was not entered, and entering it leaves one fewer
module _ (w : World) (inside : Inside w) (shut : Numbers) (xs : List Bool) (a k b : ℕ) (q : Quad) (h : Some (b, q) ≡ onward w.doorways shut (marks xs) a k) where
  pub room_inside : b < w.rooms
  room_inside = follows_inside w (marks xs) a k b q inside (step_follows w shut (marks xs) a k b q (sym h)).1

  pub room_new : marks xs b ≡ false
  room_new = (step_follows w shut (marks xs) a k b q (sym h)).1.3

  pub one_fewer : w.rooms ≤ length xs → free w.rooms (marks xs) ≡ suc (free w.rooms (marks (set xs b true)))
  one_fewer l =
      let i : b < w.rooms = room_inside in
      free_with w.rooms (marks xs) b i room_new
      ∙ ap (λ (s : Numbers). suc (free w.rooms s)) (sym (marks_set xs b (omega arith)))

-- where a search starts: the stabber's and the visitor's meanings, the map, the shut doorways, the room, and how all stood
pub record Setting (S V : Type 0) : Type 0 where
  pub lets : S → List Quad → Bool
  pub heard : S → List Quad → S
  pub told : V → S → Trip → V
  pub ended : V → Bool
  pub steady : (s : S) (p q : List Quad) → lets (heard s p) q ≡ lets s q
  pub rooms : ℕ
  pub doorways : List Doorway
  pub inside : (l : List Quad → Bool) → Inside (world rooms doorways l)
  pub shut : Numbers
  pub here : ℕ
  pub s₀ : S
  pub v₀ : V
  pub xs₀ : List Bool
  pub ks₀ : List ℕ
  pub p₀ : List Quad

module _ {S V : Type 0} (o : Setting S V) where
  abbrev W : World
  W = world o.rooms o.doorways (o.lets o.s₀)

  abbrev walks : ℕ → List Trip
  walks k = upto W o.shut (marks o.xs₀) o.here o.ks₀ o.p₀ k

  abbrev pub Turn : ℕ → S → V → List Bool → List ℕ → List Quad → Type 0
  Turn k s v xs ks p =
      (xs ≡ o.xs₀) × (ks ≡ o.ks₀) × (p ≡ o.p₀) × (o.lets s ≡ o.lets o.s₀)
      × ((s, v) ≡ toured o.heard o.told o.ended o.s₀ o.v₀ (walks k))

  -- the same by other names
  pub turn_at :
      (k : ℕ) (s s' : S) (v v' : V) (xs xs' : List Bool) (ks ks' : List ℕ) (p p' : List Quad)
      → s' ≡ s → v' ≡ v → xs' ≡ xs → ks' ≡ ks → p' ≡ p → Turn k s v xs ks p → Turn k s' v' xs' ks' p'
  turn_at k s s' v v' xs xs' ks ks' p p' hs hv hx hk hp h =
      (hx ∙ h.0, hk ∙ h.1, hp ∙ h.2, ap o.lets hs ∙ h.3, ap₂ (λ (x : S) (y : V). (x, y)) hs hv ∙ h.4)

  module _ (k : ℕ) (s : S) (v : V) (xs : List Bool) (ks : List ℕ) (p : List Quad) (was : Turn k s v xs ks p) where
    -- a visitor that has ended stands as after all walks
    pub turn_ended : o.ended v ≡ true → (m : ℕ) → k ≤ m → (s, v) ≡ toured o.heard o.told o.ended o.s₀ o.v₀ (walks m)
    turn_ended e m l = toured_ended o.heard o.told o.ended W o.shut (marks o.xs₀) o.here o.ks₀ o.p₀ k m l (o.s₀, o.v₀) (s, v) was.4 e

    pub turn_none : None ≡ onward o.doorways o.shut (marks xs) o.here k → Turn (k + 1) s v xs ks p
    turn_none h =
        let none' : onward o.doorways o.shut (marks o.xs₀) o.here k ≡ None =
        subst (λ (v : List Bool). onward o.doorways o.shut (marks v) o.here k ≡ None) was.0 (sym h) in (
          was.0,
          was.1,
          was.2,
          was.3,
          follow_none (visited o.heard o.told o.ended) W o.shut (marks o.xs₀) o.here o.ks₀ o.p₀ k (o.s₀, o.v₀) (s, v) was.4 none',
        )

    -- entering the next room leaves one fewer
    pub turn_fewer :
        (b : ℕ) (q : Quad) → Some (b, q) ≡ onward o.doorways o.shut (marks xs) o.here k → o.rooms ≤ length xs
        → free o.rooms (marks o.xs₀) ≡ suc (free o.rooms (marks (set xs b true)))
    turn_fewer b q h long =
        ap (λ (v : List Bool). free o.rooms (marks v)) (sym was.0) ∙ one_fewer W (o.inside (o.lets o.s₀)) o.shut xs o.here k b q h long

    module _ (b : ℕ) (q : Quad) (h : Some (b, q) ≡ onward o.doorways o.shut (marks xs) o.here k) (more : o.ended v ≡ false) (t : Trip) (doors : t.doors ≡ ks ++ k ∷ []) (room : t.room ≡ b) (path : t.path ≡ p ++ q ∷ []) where
      front : p ++ q ∷ [] ≡ o.p₀ ++ q ∷ []
      front = ap (λ v. v ++ q ∷ []) was.2

      front_doors : ks ++ k ∷ [] ≡ o.ks₀ ++ k ∷ []
      front_doors = ap (λ v. v ++ k ∷ []) was.1

      this : t ≡ trip o.ks₀ k o.p₀ b q
      this =
          ap (λ (x : List ℕ). record { doors = x; room = t.room; path = t.path }) (doors ∙ front_doors)
          ∙ ap (λ (x : ℕ). record { doors = o.ks₀ ++ k ∷ []; room = x; path = t.path }) room
          ∙ ap (λ (x : List Quad). record { doors = o.ks₀ ++ k ∷ []; room = b; path = x }) (path ∙ front)

      step : onward o.doorways o.shut (marks o.xs₀) o.here k ≡ Some (b, q)
      step = subst (λ (v : List Bool). onward o.doorways o.shut (marks v) o.here k ≡ Some (b, q)) was.0 (sym h)

      heard_same : o.lets (o.heard s t.path) ≡ o.lets o.s₀
      heard_same = fun_ext (λ x. o.steady s t.path x) ∙ was.3

      answer : o.lets s t.path ≡ o.lets o.s₀ (o.p₀ ++ q ∷ [])
      answer = ap (λ (f : List Quad → Bool). f t.path) was.3 ∙ ap (o.lets o.s₀) (path ∙ front)

      -- what the visit leaves
      visit : (o.heard s t.path, o.told v s t) ≡ visited o.heard o.told o.ended (s, v) (trip o.ks₀ k o.p₀ b q)
      visit = sym (cond-false (o.ended v) (s, v) (o.heard s t.path, o.told v s t) more) ∙ ap (visited o.heard o.told o.ended (s, v)) this

      pub turn_no : o.lets s t.path ≡ false → Turn (k + 1) (o.heard s t.path) (o.told v s t) xs ks p
      turn_no no_way =
          let not_let : W.lets (o.p₀ ++ q ∷ []) ≡ false = sym answer ∙ no_way in (
            was.0,
            was.1,
            was.2,
            heard_same,
            visit ∙ follow_no (visited o.heard o.told o.ended) W o.shut (marks o.xs₀) o.here o.ks₀ o.p₀ k (o.s₀, o.v₀) (s, v) was.4 b q step not_let,
          )

      -- what the search after the step leaves
      pub turn_yes :
          o.rooms ≤ length xs → o.lets s t.path ≡ true
          → (s₁ s' : S) (v₁ v' : V) (xs₁ : List Bool) (ks₁ : List ℕ) (p₁ : List Quad)
          → s₁ ≡ o.heard s t.path
          → v₁ ≡ o.told v s t
          → xs₁ ≡ set xs b true
          → ks₁ ≡ ks ++ k ∷ []
          → p₁ ≡ p ++ q ∷ []
          → o.lets s' ≡ o.lets s₁
          → (s', v') ≡ toured o.heard o.told o.ended s₁ v₁ (due (world o.rooms o.doorways (o.lets s₁)) o.shut (marks xs₁) b ks₁ p₁)
          → Turn (k + 1) s' v' (set xs₁ b false) ks p
      turn_yes long yes_way s₁ s' v₁ v' xs₁ ks₁ p₁ hs hv hx hk hp same after =
          let new : marks xs b ≡ false = room_new W (o.inside (o.lets o.s₀)) o.shut xs o.here k b q h in
          let new₀ : marks o.xs₀ b ≡ false = subst (λ (v : List Bool). marks v b ≡ false) was.0 new in
          let i : b < o.rooms = room_inside W (o.inside (o.lets o.s₀)) o.shut xs o.here k b q h in
          let let_in : W.lets (o.p₀ ++ q ∷ []) ≡ true = sym answer ∙ yes_way in
          let w≡ : o.lets s₁ ≡ o.lets o.s₀ = ap o.lets hs ∙ heard_same in
          let e≡ : marks xs₁ ≡ with (marks o.xs₀) b =
          ap marks hx ∙ marks_set xs b (omega arith) ∙ ap (λ (v : List Bool). with (marks v) b) was.0 in
          let back : set (set xs b true) b false ≡ xs =
          set-set xs b true false ∙ ap (λ (t : Bool). set xs b t) (sym new) ∙ set-get_or xs b false in
          let x≡ : (s₁, v₁) ≡ visited o.heard o.told o.ended (s, v) (trip o.ks₀ k o.p₀ b q) =
          ap₂ (λ (x : S) (y : V). (x, y)) hs hv ∙ visit in
          let d≡ : due (world o.rooms o.doorways (o.lets s₁)) o.shut (marks xs₁) b ks₁ p₁ ≡ due W o.shut (with (marks o.xs₀) b) b (o.ks₀ ++ k ∷ []) (o.p₀ ++ q ∷ []) =
          ap₂ (λ (f : List Quad → Bool) (e : Numbers). due (world o.rooms o.doorways f) o.shut e b ks₁ p₁) w≡ e≡
          ∙ ap₂ (λ (j : List ℕ) (v : List Quad). due W o.shut (with (marks o.xs₀) b) b j v) (hk ∙ front_doors) (hp ∙ front) in (
            ap (λ (v : List Bool). set v b false) hx ∙ back ∙ was.0,
            was.1,
            was.2,
            same ∙ w≡,
            after
                ∙ ap₂ (λ (x : S × V) (ts : List Trip). fold (visited o.heard o.told o.ended) x ts) x≡ d≡
                ∙ follow_yes (visited o.heard o.told o.ended) W o.shut (marks o.xs₀) o.here o.ks₀ o.p₀ k (o.s₀, o.v₀) (s, v) was.4 b q step let_in i new₀,
          )

  -- doorways that have no side in the room are passed over
  turn_by :
      (n k : ℕ) (s : S) (v : V) (xs : List Bool) (ks : List ℕ) (p : List Quad) → Turn k s v xs ks p
      → ((i : ℕ) (d : Doorway) → k ≤ i → i < k + n → slice_get o.doorways i ≡ Some d → Aside d o.here) → Turn (k + n) s v xs ks p
  turn_by zero k s v xs ks p was off = let e : k ≡ k + 0 = omega arith in subst (λ (m : ℕ). Turn m s v xs ks p) e was
  turn_by (suc n) k s v xs ks p was off =
      let e : k + 1 + n ≡ k + suc n = omega arith in
      let none' = aside_none o.doorways o.shut (marks xs) o.here k (λ d q. off k d (omega arith) (omega arith) q) in
      subst (λ (m : ℕ). Turn m s v xs ks p) e
      (turn_by n (k + 1) s v xs ks p (turn_none k s v xs ks p was (sym none')) (λ i d l h q. off i d (omega arith) (omega arith) q))

  pub turn_past :
      (k j : ℕ) (s : S) (v : V) (xs : List Bool) (ks : List ℕ) (p : List Quad) → Turn k s v xs ks p → Passed o.doorways o.here k j
      → Turn j s v xs ks p
  turn_past k j s v xs ks p was h =
      let e : k + (j - k) ≡ j = omega (arith, h.0) in
      subst (λ (m : ℕ). Turn m s v xs ks p) e (turn_by (j - k) k s v xs ks p was (λ i d l q r. h.2 i d l (omega arith) r))
