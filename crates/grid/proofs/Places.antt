-- Colours by pixel, and by column and row.
use Rattle.std.proofs.Common.{◌≡◌, ℕ, zero, suc, ◌+◌, ◌*◌, ◌/◌, ◌%◌, ◌<◌, List, [], ◌∷◌, length, get_or, sym, subst, add-zero, mul_comm, zero-add, arith}
use Rattle.std.specs.List.{AllByRecursion}
use Rattle.std.proofs.lemmas.Nat.{div-add-mod', mul-add-lt, div-mul-add, mod-mul-add, div_below, mod_below}
use Rattle.grid.specs.declared.sizes.Size.{Size}
use Rattle.grid.specs.Sizes.{Roomy, across, area}
use Rattle.grid.specs.Pictures.{Colour, Legal}
use Rattle.grid.proofs.Paintings.{Right, Rights}

module _ (s : Size) where
  pub rights_from : (ps : List ℕ) (k : ℕ) → AllByRecursion (λ p. p < 2) ps → ((i : ℕ) → i < length ps → Right s (k + i) (get_or ps i 0)) → Rights s k ps
  rights_from [] k b h = tt
  rights_from (p ∷ ps) k b h =
      (b.0, subst (λ j. Right s j p) (add-zero k) (h 0 (omega arith)), rights_from ps (k + 1) b.1 (λ i l. subst (λ j. Right s j (get_or ps i 0)) (one k i) (h (suc i) (omega arith))))
    where
      one : (a b : ℕ) → a + suc b ≡ a + 1 + b
      one a b = omega arith

  pub rights_bits : (ps : List ℕ) (k : ℕ) → Rights s k ps → AllByRecursion (λ p. p < 2) ps
  rights_bits [] k h = tt
  rights_bits (p ∷ ps) k h = (h.0, rights_bits ps (k + 1) h.2)

  pub rights_at : (ps : List ℕ) (k : ℕ) → Rights s k ps → (i : ℕ) → i < length ps → Right s (k + i) (get_or ps i 0)
  rights_at [] k h i l = absurd (omega arith)
  rights_at (p ∷ ps) k h zero l = subst (λ j. Right s j p) (sym (add-zero k)) h.1
  rights_at (p ∷ ps) k h (suc i) l = subst (λ j. Right s j (get_or ps i 0)) (one k i) (rights_at ps (k + 1) h.2 i (omega arith))
    where
      one : (a b : ℕ) → a + 1 + b ≡ a + suc b
      one a b = omega arith

  pub legal_rights : (ps : List ℕ) → Legal s ps → AllByRecursion (λ p. p < 2) ps → length ps ≡ area s → Rights s 0 ps
  legal_rights ps h b n =
      rights_from ps 0 b
      (λ i l.
      let w = across s.w in
      let some : 0 < w = omega arith in
      let row : i / w < across s.h = div_below i w (across s.h) some (omega (arith, mul_comm (across s.w) (across s.h))) in
      subst (λ j. Right s j (get_or ps i 0)) (sym (zero-add i))
      (subst (λ j. Colour s (i % w) (i / w) (get_or ps j 0)) (div-add-mod' i w) (h.1 (i % w) (i / w) (mod_below i w some) row)))

  pub rights_legal : (ps : List ℕ) → Roomy s → Rights s 0 ps → length ps ≡ area s → Legal s ps
  rights_legal ps room h n = (
    room,
    λ x y l m.
        let w = across s.w in
        let inside : y * w + x < length ps = omega (arith, mul-add-lt y w x (across s.h) m l) in
        let c : Right s (y * w + x) (get_or ps (y * w + x) 0) = subst (λ j. Right s j (get_or ps (y * w + x) 0)) (zero-add (y * w + x)) (rights_at ps 0 h (y * w + x) inside) in
        subst (λ j. Colour s x j (get_or ps (y * w + x) 0)) (div-mul-add y w x l) (subst (λ j. Colour s j ((y * w + x) / w) (get_or ps (y * w + x) 0)) (mod-mul-add y w x l) c),
  )
