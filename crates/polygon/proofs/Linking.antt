-- Chains of edges: what is found along one, and one edge more.
use Rattle.std.proofs.Common.{◌≡◌, ℕ, zero, suc, ◌+◌, ◌-◌, ◌%◌, ◌<◌, ◌≤◌, Bool, true, false, cond, ◌&&◌, eqb, ◌≢◌, ◌⊎◌, List, length, get_or, set, replicate, not, is_some, is_none, Some, None, Option, Ok, Err, Result, sym, refl, ap, ◌∙◌, subst, inl, inr, add-one, arith, length-set, get_or-set_other, get_or-set_same}
use Rattle.std.specs.Option.{option_map}
use Rattle.std.proofs.lemmas.Bool.{cond-true, cond-false, cases_Bool, cases_eq, eq-eqb, ne_eqb, and_left}
use Rattle.text.specs.declared.faults.Fault.{Fault}
use Rattle.text.specs.declared.faults.Ground.TheVariants.{Edge as EdgeTwice}
use Rattle.text.specs.Faults.{fault}
use Rattle.polygon.specs.declared.edge.Edge.{Edge}
use Rattle.polygon.specs.Edges.{edge_at}
use Rattle.polygon.specs.Chains.{last, latest, once, Linked}

pub get_or_nones : (n b : ℕ) → get_or {A = Option ℕ} (replicate n None) b None ≡ None
get_or_nones zero b = refl
get_or_nones (suc n) zero = refl
get_or_nones (suc n) (suc b) = get_or_nones n b

-- how many edges there are up to a link
abbrev pub upto : Option ℕ → ℕ
upto None = 0
upto (Some e) = suc e

module _ (es : List Edge) where
  abbrev rest : ℕ → ℕ
  rest k = (edge_at es k).from % 1024

  last_none : (b : ℕ) → last es b 0 ≡ None
  unfolding last
  last_none b = refl

  last_suc : (b k : ℕ) → last es b (suc k) ≡ cond (eqb (rest k) b) (Some k) (last es b k)
  unfolding last
  last_suc b k = refl

  last_here : (b k : ℕ) → rest k ≡ b → last es b (suc k) ≡ Some k
  last_here b k e = last_suc b k ∙ cond-true (eqb (rest k) b) (Some k) (last es b k) (eq-eqb (rest k) b e)

  last_on : (b k : ℕ) → (rest k ≡ b → ⊥) → last es b (suc k) ≡ last es b k
  last_on b k d = last_suc b k ∙ cond-false (eqb (rest k) b) (Some k) (last es b k) (ne_eqb (rest k) b d)

  pub last_hit : (b k e : ℕ) → last es b k ≡ Some e → (e < k) × (rest e ≡ b)
  last_hit b zero e h = cc (last_none b)
  last_hit b (suc k) e h = go (cases_eq (rest k) b) (last_hit b k e)
    where
      go : (rest k ≡ b) ⊎ (rest k ≡ b → ⊥) → (last es b k ≡ Some e → (e < k) × (rest e ≡ b)) → (e < suc k) × (rest e ≡ b)
      go (inl r) more = let same : k ≡ e = cc (last_here b k r) in (omega arith, subst (λ x. rest x ≡ b) same r)
      go (inr d) more = let m = more (sym (last_on b k d) ∙ h) in (omega (arith, m.0), m.1)

  pub latest_none : (u v : ℕ) → latest es u v 0 ≡ None
  unfolding latest
  latest_none u v = refl

  latest_suc : (u v k : ℕ) → latest es u v (suc k) ≡ cond (eqb (edge_at es k).from u && eqb (edge_at es k).to v) (Some k) (latest es u v k)
  unfolding latest
  latest_suc u v k = refl

  abbrev pub runs : ℕ → ℕ → ℕ → Bool
  runs u v k = eqb (edge_at es k).from u && eqb (edge_at es k).to v

  pub latest_here : (u v k : ℕ) → runs u v k ≡ true → latest es u v (suc k) ≡ Some k
  latest_here u v k e = latest_suc u v k ∙ cond-true (runs u v k) (Some k) (latest es u v k) e

  pub latest_on : (u v k : ℕ) → runs u v k ≡ false → latest es u v (suc k) ≡ latest es u v k
  latest_on u v k e = latest_suc u v k ∙ cond-false (runs u v k) (Some k) (latest es u v k) e

  latest_from : (u v k : ℕ) → ((edge_at es k).from ≡ u → ⊥) → latest es u v (suc k) ≡ latest es u v k
  latest_from u v k d = latest_on u v k (and_left (eqb (edge_at es k).from u) (eqb (edge_at es k).to v) (ne_eqb _ _ d))

  pub latest_hit : (u v k i : ℕ) → latest es u v k ≡ Some i → (i < k) × (runs u v i ≡ true)
  latest_hit u v zero i e = cc (latest_none u v)
  latest_hit u v (suc k) i e = go (cases_Bool (runs u v k)) (latest_hit u v k i)
    where
      go : (runs u v k ≡ true) ⊎ (runs u v k ≡ false) → (latest es u v k ≡ Some i → (i < k) × (runs u v i ≡ true)) → (i < suc k) × (runs u v i ≡ true)
      go (inl t) more = let same : k ≡ i = cc (latest_here u v k t) in (omega arith, subst (λ x. runs u v x ≡ true) same t)
      go (inr f) more = let m = more (sym (latest_on u v k f) ∙ e) in (omega (arith, m.0), m.1)

  -- the edges between the latest of a chain and here do not matter
  skip : (u v j : ℕ) → latest es u v j ≡ latest es u v (upto (last es (u % 1024) j))
  skip u v zero = sym (ap (λ l. latest es u v (upto l)) (last_none (u % 1024)))
  skip u v (suc j) = go (cases_eq (rest j) (u % 1024)) (skip u v j)
    where
      go : (rest j ≡ u % 1024) ⊎ (rest j ≡ u % 1024 → ⊥) → latest es u v j ≡ latest es u v (upto (last es (u % 1024) j)) → latest es u v (suc j) ≡ latest es u v (upto (last es (u % 1024) (suc j)))
      go (inl e) h = sym (ap (λ l. latest es u v (upto l)) (last_here (u % 1024) j e))
      go (inr d) h = latest_from u v j (λ e. d (ap (λ x. x % 1024) e)) ∙ h ∙ sym (ap (λ l. latest es u v (upto l)) (last_on (u % 1024) j d))

  -- a link of the chain along which the latest edge from u to v is looked for
  module _ (u v j : ℕ) (link goal : Option ℕ) (is : link ≡ last es (u % 1024) j) (left : latest es u v j ≡ goal) where
    from_link : latest es u v (upto link) ≡ goal
    from_link = ap (λ l. latest es u v (upto l)) is ∙ sym (skip u v j) ∙ left

    pub missed : link ≡ None → None ≡ goal
    missed n = sym (latest_none u v) ∙ ap (λ l. latest es u v (upto l)) (sym n) ∙ from_link

    module _ (e : ℕ) (here : link ≡ Some e) where
      at_link : latest es u v (suc e) ≡ goal
      at_link = ap (λ l. latest es u v (upto l)) (sym here) ∙ from_link

      pub within_reach : e < j
      within_reach = (last_hit (u % 1024) j e (sym is ∙ here)).0

      pub found : runs u v e ≡ true → Some e ≡ goal
      found a = sym (latest_here u v e a) ∙ at_link

      pub passed : runs u v e ≡ false → latest es u v e ≡ goal
      passed d = sym (latest_on u v e d) ∙ at_link

      pub shorter : (x : Option ℕ) (b : ℕ) → x ≡ last es b e → upto x < upto link
      shorter None b p = omega (arith, ap upto here)
      shorter (Some i) b p = omega (arith, ap upto here, (last_hit b e i (sym p)).0)

      pub chained : (x : Option ℕ) → x ≡ last es (rest e) e → x ≡ last es (u % 1024) e
      chained x p = p ∙ ap (λ b. last es b e) (last_hit (u % 1024) j e (sym is ∙ here)).1

  -- whether an edge was found among the first k
  pub unseen : (es0 : List Edge) (u v known k : ℕ) (r : Option Edge) (b : Bool) → known ≡ k → es0 ≡ es → r ≡ option_map (edge_at es0) (latest es0 u v known) → b ≡ is_some r → is_none (latest es u v k) ≡ not b
  unseen es0 u v known k r b e same told is =
      ap is_none ((λ i. latest (sym same i) u v (sym e i))) ∙ looked (edge_at es0) (latest es0 u v known) ∙ ap not (ap is_some (sym told) ∙ sym is)
    where
      looked : (f : ℕ → Edge) (o : Option ℕ) → is_none o ≡ not (is_some (option_map f o))
      looked f None = refl
      looked f (Some i) = refl

  pub linked_none : (heads nexts : List (Option ℕ)) → length heads ≡ 1024 → length nexts ≡ 4096 → ((b : ℕ) → get_or heads b None ≡ None) → Linked es 0 heads nexts
  linked_none heads nexts w l z = record { wide = w; long = l; first = λ b _. z b ∙ sym (last_none b); before = λ e h. absurd (omega arith) }

  module _ (k : ℕ) (heads nexts : List (Option ℕ)) (so : Linked es k heads nexts) (few : k < 4096) (b : ℕ) (is : b ≡ rest k) (small : b < 1024) where
    pub linked_more : Linked es (k + 1) (set heads b (Some k)) (set nexts k (get_or heads b None))
    linked_more =
        record {
          wide = length-set heads b (Some k) ∙ so.wide;
          long = length-set nexts k (get_or heads b None) ∙ so.long;
          first = λ c h. head c h (cases_eq c b);
          before = λ e h. next e h (cases_eq e k);
        }
      where
        in_heads : b < length heads
        in_heads = omega (arith, so.wide)

        in_nexts : k < length nexts
        in_nexts = omega (arith, so.long)

        head : (c : ℕ) → c < 1024 → (c ≡ b) ⊎ (c ≡ b → ⊥) → get_or (set heads b (Some k)) c None ≡ last es c (k + 1)
        head c h (inl e) = let lt : b < length heads = in_heads in ap (λ y. get_or (set heads b (Some k)) y None) e ∙ rw get_or-set_same (sym (last_here b k (sym is)) ∙ ap (last es b) (sym (add-one k)) ∙ ap (λ y. last es y (k + 1)) (sym e))
        head c h (inr d) = let ne : c ≢ b = d in rw get_or-set_other (so.first c h ∙ sym (last_on c k (λ e. d (sym e ∙ sym is))) ∙ ap (last es c) (sym (add-one k)))

        next : (e : ℕ) → e < k + 1 → (e ≡ k) ⊎ (e ≡ k → ⊥) → get_or (set nexts k (get_or heads b None)) e None ≡ last es (rest e) e
        next e h (inl s) = let lt : k < length nexts = in_nexts in ap (λ y. get_or (set nexts k (get_or heads b None)) y None) s ∙ rw get_or-set_same (so.first b small ∙ ap (λ y. last es y k) is ∙ ap (λ y. last es (rest y) y) (sym s))
        next e h (inr d) = let ne : e ≢ k = d in rw get_or-set_other (so.before e (omega arith))

  pub once_none : (k : ℕ) → once es 0 k ≡ Ok tt
  unfolding once
  once_none k = refl

  pub once_suc : (n k : ℕ) → once es (suc n) k ≡ cond (is_none (latest es (edge_at es k).from (edge_at es k).to k)) (once es n (k + 1)) (Err (fault EdgeTwice (edge_at es k).face))
  unfolding once
  once_suc n k = refl

  module _ (total k : ℕ) (o : Result (Unit {0}) Fault) (is : once es (total - k) k ≡ o) where
    at_suc : k < total → once es (suc (total - (k + 1))) k ≡ o
    at_suc h = let e : suc (total - (k + 1)) ≡ total - k = omega arith in ap (λ n. once es n k) e ∙ is

    pub once_more : k < total → is_none (latest es (edge_at es k).from (edge_at es k).to k) ≡ true → once es (total - (k + 1)) (k + 1) ≡ o
    once_more h z = sym (cond-true _ (once es (total - (k + 1)) (k + 1)) (Err (fault EdgeTwice (edge_at es k).face)) z) ∙ sym (once_suc (total - (k + 1)) k) ∙ at_suc h

    pub twice : k < total → is_none (latest es (edge_at es k).from (edge_at es k).to k) ≡ false → Err (fault EdgeTwice (edge_at es k).face) ≡ o
    twice h z = sym (cond-false _ (once es (total - (k + 1)) (k + 1)) (Err (fault EdgeTwice (edge_at es k).face)) z) ∙ sym (once_suc (total - (k + 1)) k) ∙ at_suc h

    pub once_all : total ≤ k → Ok tt ≡ o
    once_all h = let e : 0 ≡ total - k = omega arith in sym (once_none k) ∙ ap (λ n. once es n k) e ∙ is
