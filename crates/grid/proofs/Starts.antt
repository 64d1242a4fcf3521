-- The start of a text that begins with the heading.
use Rattle.std.proofs.Common.{◌≡◌, ℕ, ◌<◌, ◌≤◌, Bool, true, false, cond, ◌&&◌, eqb, leb, ◌⊎◌, List, [], ◌∷◌, length, get_or, drop, Ok, Err, Result, sym, refl, ◌∙◌, inl, inr, arith}
use Rattle.std.proofs.lemmas.Bool.{both_ways, le-leb, eq-eqb, eqb-true, ne_eqb, and_from, and_parts, cond-true, cond-false}
use Rattle.text.specs.declared.faults.Fault.{Fault}
use Rattle.text.specs.declared.faults.Ground.TheVariants.{Early, Heading}
use Rattle.text.specs.Faults.{fault}
use Rattle.text.specs.Bytes.{White, white}
use Rattle.text.specs.Numerals.{Ends}
use Rattle.text.proofs.Classes.{white_true, white_from_true}
use Rattle.text.specs.Headings.{spaced}
use Rattle.grid.specs.Headings.{headed}
use Rattle.grid.specs.Refusals.{Headed}
use Rattle.grid.proofs.Clashes.{clash}

module _ (t : List ℕ) (long : 2 ≤ length t) (first : get_or t 0 0 ≡ 80) (second : get_or t 1 0 ≡ 49) where
  pub headed_is : headed t ≡ spaced 2 (drop 2 t)
  headed_is =
      cond-true _ (spaced 2 (drop 2 t)) (Err (fault Heading 0))
      (and_from (leb 2 (length t)) (eqb (get_or t 0 0) 80 && eqb (get_or t 1 0) 49) (le-leb 2 (length t) long) (and_from (eqb (get_or t 0 0) 80) (eqb (get_or t 1 0) 49) (eq-eqb (get_or t 0 0) 80 first) (eq-eqb (get_or t 1 0) 49 second)))

-- a heading that is read stands there, with white space behind it
spaced_was : (bs : List ℕ) (p : ℕ) → spaced 2 bs ≡ Ok p → (p ≡ 2) × Ends bs × (0 < length bs)
spaced_was [] p e = clash cc
spaced_was (b ∷ bs) p e = go (white b) refl (sym (cond-false _ _ _ (ne_eqb (length (b ∷ bs)) 0 (omega arith))) ∙ e)
  where
    go : (w : Bool) → white b ≡ w → cond w (Ok 2) (Err (fault Heading 0)) ≡ Ok p → (p ≡ 2) × White b × (0 < length (b ∷ bs))
    go true w q = let same : ◌≡◌ {A = ℕ} p 2 = cc in (same, white_from_true b w, omega arith)
    go false w q = clash cc

pub headed_was : (t : List ℕ) (p : ℕ) → headed t ≡ Ok p → (p ≡ 2) × (t ≡ 80 ∷ (49 ∷ drop 2 t)) × Ends (drop 2 t) × (0 < length (drop 2 t))
headed_was [] p e = clash cc
headed_was (a ∷ []) p e = clash cc
headed_was (a ∷ (b ∷ bs)) p e = go (leb 2 (length (a ∷ (b ∷ bs))) && (eqb a 80 && eqb b 49)) refl e
  where
    go : (h : Bool) → (leb 2 (length (a ∷ (b ∷ bs))) && (eqb a 80 && eqb b 49)) ≡ h → cond h (spaced 2 bs) (Err (fault Heading 0)) ≡ Ok p → (p ≡ 2) × (a ∷ (b ∷ bs) ≡ 80 ∷ (49 ∷ bs)) × Ends bs × (0 < length bs)
    go true h q =
        let both = and_parts (eqb a 80) (eqb b 49) (and_parts (leb 2 (length (a ∷ (b ∷ bs)))) (eqb a 80 && eqb b 49) h).1 in
        let u = spaced_was bs p q in
        (u.0, (λ i. eqb-true a 80 both.0 i ∷ (eqb-true b 49 both.1 i ∷ bs)), u.1, u.2)
    go false h q = clash cc

pub headed_reads : (bs : List ℕ) → Ends bs → 0 < length bs → headed (80 ∷ (49 ∷ bs)) ≡ Ok 2
headed_reads [] w h = absurd (omega arith)
headed_reads (b ∷ bs) w h =
    headed_is (80 ∷ (49 ∷ (b ∷ bs))) (omega arith) refl refl
    ∙ cond-false _ _ _ (ne_eqb (length (b ∷ bs)) 0 (omega arith)) ∙ cond-true _ _ _ (white_true b w)

-- why a heading is refused
behind_it : (a b : ℕ) (bs : List ℕ) (f : Fault) → a ≡ 80 → b ≡ 49 → spaced 2 bs ≡ Err f
    → ((a ∷ (b ∷ bs) ≡ 80 ∷ (49 ∷ [])) × (f ≡ fault Early (length (a ∷ (b ∷ bs))))) ⊎ ((Headed (a ∷ (b ∷ bs)) → ⊥) × (a ∷ (b ∷ bs) ≡ 80 ∷ (49 ∷ []) → ⊥) × (f ≡ fault Heading 0))
behind_it a b [] f p q e = inl ((λ i. p i ∷ (q i ∷ [])), let same : f ≡ fault Early 2 = cc in same)
behind_it a b (c ∷ bs) f p q e = go (white c) refl (sym (cond-false _ _ _ (ne_eqb (length (c ∷ bs)) 0 (omega arith))) ∙ e)
  where
    longer : a ∷ (b ∷ (c ∷ bs)) ≡ 80 ∷ (49 ∷ []) → ⊥
    longer k = clash cc

    go : (w : Bool) → white c ≡ w → cond {A = Result ℕ Fault} w (Ok 2) (Err (fault Heading 0)) ≡ Err f
        → ((a ∷ (b ∷ (c ∷ bs)) ≡ 80 ∷ (49 ∷ [])) × (f ≡ fault Early (length (a ∷ (b ∷ (c ∷ bs)))))) ⊎ ((Headed (a ∷ (b ∷ (c ∷ bs))) → ⊥) × (a ∷ (b ∷ (c ∷ bs)) ≡ 80 ∷ (49 ∷ []) → ⊥) × (f ≡ fault Heading 0))
    go true w k = clash cc
    go false w k = inr (λ h. both_ways (white c) w (white_true c h.1), longer, let same : f ≡ fault Heading 0 = cc in same)

pub headed_fault : (t : List ℕ) (f : Fault) → headed t ≡ Err f → ((t ≡ 80 ∷ (49 ∷ [])) × (f ≡ fault Early (length t))) ⊎ ((Headed t → ⊥) × (t ≡ 80 ∷ (49 ∷ []) → ⊥) × (f ≡ fault Heading 0))
headed_fault [] f e = inr (λ h. nothing h.0, nothing, let same : f ≡ fault Heading 0 = cc in same)
  where
    nothing : {b : ℕ} {bs : List ℕ} → [] ≡ b ∷ bs → ⊥
    nothing q = clash cc
headed_fault (a ∷ []) f e = inr (λ h. single h.0, single, let same : f ≡ fault Heading 0 = cc in same)
  where
    single : {b c : ℕ} {bs : List ℕ} → a ∷ [] ≡ b ∷ (c ∷ bs) → ⊥
    single q = clash cc
headed_fault (a ∷ (b ∷ bs)) f e = go (leb 2 (length (a ∷ (b ∷ bs))) && (eqb a 80 && eqb b 49)) refl e
  where
    Goal : Type 0
    Goal = ((a ∷ (b ∷ bs) ≡ 80 ∷ (49 ∷ [])) × (f ≡ fault Early (length (a ∷ (b ∷ bs))))) ⊎ ((Headed (a ∷ (b ∷ bs)) → ⊥) × (a ∷ (b ∷ bs) ≡ 80 ∷ (49 ∷ []) → ⊥) × (f ≡ fault Heading 0))

    go : (h : Bool) → (leb 2 (length (a ∷ (b ∷ bs))) && (eqb a 80 && eqb b 49)) ≡ h → cond h (spaced 2 bs) (Err (fault Heading 0)) ≡ Err f → Goal
    go true h q =
        let both = and_parts (eqb a 80) (eqb b 49) (and_parts (leb 2 (length (a ∷ (b ∷ bs)))) (eqb a 80 && eqb b 49) h).1 in
        behind_it a b bs f (eqb-true a 80 both.0) (eqb-true b 49 both.1) q
    go false h q =
        inr (λ k. unlike h k.0, unlike h, let same : f ≡ fault Heading 0 = cc in same)
      where
        unlike : (leb 2 (length (a ∷ (b ∷ bs))) && (eqb a 80 && eqb b 49)) ≡ false → {l : List ℕ} → a ∷ (b ∷ bs) ≡ 80 ∷ (49 ∷ l) → ⊥
        unlike n w =
            let first : a ≡ 80 = cc in
            let second : b ≡ 49 = cc in
            both_ways _ n (and_from (leb 2 (length (a ∷ (b ∷ bs)))) (eqb a 80 && eqb b 49) (le-leb 2 (length (a ∷ (b ∷ bs))) (omega arith)) (and_from (eqb a 80) (eqb b 49) (eq-eqb a 80 first) (eq-eqb b 49 second)))
