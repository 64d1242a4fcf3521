-- A walk is a sequence of portals that enters no cell twice.
use Rattle.std.proofs.Common.{◌≡◌, ℕ, Bool, false, eqb, List, [], ◌∷◌, sym, refl, ap, ◌∙◌, subst, inl, inr, ⊎_elim}
use Rattle.std.proofs.lemmas.Bool.{eq-eqb, ne_eqb, or_parts, or_from, true≢false}
use Rattle.plane.specs.declared.quad.Quad.{Quad}
use Rattle.visibility.specs.Orders.{In}
use Rattle.visibility.specs.Portals.{Passes, end, Once, Sequence, Sees}
use Rattle.visibility.specs.Sets.{Numbers, only, with}
use Rattle.visibility.specs.Walks.{Goes, Walk, Open, Lined}
use Rattle.visibility.specs.Worlds.{World}

-- none of the rooms was entered
abbrev New : Numbers → List ℕ → Type 0
New e rs = (r : ℕ) → In r rs → e r ≡ false

goes_passes :
    (w : World) (e : Numbers) (a : ℕ) (ks : List ℕ) (b : ℕ) (p : List Quad) → Goes w e a ks b p
    → (rs : List ℕ) × Passes w a ks rs p × (end a rs ≡ b) × Once rs × New e rs
goes_passes w e a [] b [] g = ([], tt, g, tt, λ r i. absurd i)
goes_passes w e a [] b (q ∷ p) g = absurd g
goes_passes w e a (k ∷ ks) b [] g = absurd g
goes_passes w e a (k ∷ ks) b (q ∷ p) g =
    let c = g.0 in
    let f = g.1 in
    let m = goes_passes w (with e c) c ks b p g.2 in (
      c ∷ m.0,
      ((f.0, f.1, f.2), m.1),
      m.2,
      ((λ (i : In c m.0). true≢false (sym (ap (λ (t : Bool). t) (eq-eqb c c refl)) ∙ (or_parts (eqb c c) (e c) (m.4 c i)).0)), m.3),
      λ r i. ⊎_elim (λ (s : c ≡ r). subst (λ x. e x ≡ false) s f.3) (λ (j : In r m.0). (or_parts (eqb r c) (e r) (m.4 r j)).1) i,
    )

passes_goes :
    (w : World) (e : Numbers) (a : ℕ) (ks rs : List ℕ) (b : ℕ) (p : List Quad) → Passes w a ks rs p → end a rs ≡ b → Once rs → New e rs
    → Goes w e a ks b p
passes_goes w e a [] [] b [] g l o n = l
passes_goes w e a [] [] b (q ∷ p) g l o n = absurd g
passes_goes w e a [] (r ∷ rs) b p g l o n = absurd g
passes_goes w e a (k ∷ ks) [] b p g l o n = absurd g
passes_goes w e a (k ∷ ks) (r ∷ rs) b [] g l o n = absurd g
passes_goes w e a (k ∷ ks) (r ∷ rs) b (q ∷ p) g l o n = (
  r,
  (g.0.0, g.0.1, g.0.2, n r (inl refl)),
  passes_goes w (with e r) r ks rs b p g.1 l o.1
      (λ x i. or_from (eqb x r) (e x) (ne_eqb x r (λ (s : x ≡ r). o.0 (subst (λ y. In y rs) s i))) (n x (inr i))),
)

pub walk_sequence :
    (w : World) (shut : Numbers) (a : ℕ) (ks : List ℕ) (b : ℕ) (p : List Quad) → Walk w a ks b p → Open shut ks → Sequence w shut a b ks p
walk_sequence w shut a ks b p g o =
    let m = goes_passes w (only a) a ks b p g in
    record {
      cells = m.0;
      passes = m.1;
      ends = m.2;
      once = ((λ (i : In a m.0). true≢false (sym (eq-eqb a a refl) ∙ m.4 a i)), m.3);
      all_open = o;
    }

pub sequence_walk :
    (w : World) (shut : Numbers) (a : ℕ) (ks : List ℕ) (b : ℕ) (p : List Quad) → Sequence w shut a b ks p → Walk w a ks b p
sequence_walk w shut a ks b p s =
    passes_goes w (only a) a ks s.cells b p s.passes s.ends s.once.1
    (λ r i. ne_eqb r a (λ (e : r ≡ a). s.once.0 (subst (λ x. In x s.cells) e i)))

-- so some open walk has a line exactly where the rule of the sequences says so
pub lined_sees : (w : World) (shut : Numbers) (a b : ℕ) → Lined w shut a b → Sees w shut a b
lined_sees w shut a b l = (l.0, l.1, walk_sequence w shut a l.0 b l.1 l.2 l.3, l.4)

pub sees_lined : (w : World) (shut : Numbers) (a b : ℕ) → Sees w shut a b → Lined w shut a b
sees_lined w shut a b s = (s.0, s.1, sequence_walk w shut a s.0 b s.1 s.2, s.2.all_open, s.3)
