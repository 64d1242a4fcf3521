-- The doorway of each opening joins two rooms of the plan, by a crossing.
use Rattle.std.proofs.Common.{◌≡◌, ℕ, zero, suc, ◌+◌, ◌-◌, ◌*◌, ◌/◌, ◌<◌, ◌≤◌, true, false, cond, List, [], ◌∷◌, pos, refl, ap, ◌∙◌, add-mul, one-mul, mul_comm, arith}
use Rattle.std.specs.List.{AllByRecursion}
use Rattle.std.proofs.Math.Nat.{le-mul_of_pos_right}
use Rattle.std.proofs.lemmas.Nat.{mul-add-lt}
use Rattle.std.proofs.ByRecursion.{All-append}
use Rattle.std.proofs.lemmas.Int.{ints}
use Rattle.std.proofs.lemmas.Bool.{and_parts, eqb-true, eqb-false}
use Rattle.plane.specs.Separation.{Point}
use Rattle.maps.specs.Passages.{Joins}
use Rattle.grid.specs.declared.sizes.Size.{Size}
use Rattle.grid.specs.Doorways.{column, eastward, free, northward, opening, openings, passage_at, row}
use Rattle.grid.specs.Pixels.{odd, rule_of}
use Rattle.grid.specs.Sizes.{Roomy, area}
use Rattle.grid.proofs.Between.{rooms_above, rooms_beside, stands}

module _ (s : Size) (roomy : Roomy s) where
  wide : s.w ≤ 256
  wide = omega (arith, le-mul_of_pos_right s.w roomy.1, roomy.2)

  tall : s.h ≤ 256
  tall = omega (arith, le-mul_of_pos_right s.h roomy.0, mul_comm s.w s.h, roomy.2)

  east_joins : (i j : ℕ) → i + 1 < s.w → j < s.h → Joins (s.w * s.h) (eastward s.w i j)
  east_joins i j a b =
      let far = mul-add-lt j s.w (i + 1) s.h b a in (
        omega arith,
        omega arith,
        (λ e. omega arith),
        ((omega (arith, wide), omega (arith, tall)), (omega (arith, wide), omega (arith, tall)), λ e. let y : pos (4 * j + 3) ≡ pos (4 * j + 1) = ap (λ (p : Point). p.1) e in omega (arith, ints)),
      )

  north_joins : (i j : ℕ) → i < s.w → j + 1 < s.h → Joins (s.w * s.h) (northward s.w i j)
  north_joins i j a b =
      let near = mul-add-lt j s.w i s.h (omega arith) a in
      let far = mul-add-lt (j + 1) s.w i s.h b a in
      let up : (j + 1) * s.w ≡ j * s.w + s.w = add-mul j 1 s.w ∙ ap (λ n. j * s.w + n) (one-mul s.w) in (
        near,
        far,
        (λ e. omega arith),
        ((omega (arith, wide), omega (arith, tall)), (omega (arith, wide), omega (arith, tall)), λ e. let x : pos (4 * i + 1) ≡ pos (4 * i + 3) = ap (λ (p : Point). p.0) e in omega (arith, ints)),
      )

  passage_joins : (k : ℕ) → k < area s → free (rule_of s (column s k) (row s k)) ≡ true → Joins (s.w * s.h) (passage_at s k)
  passage_joins k h f =
      let at = stands s k h in
      elim (odd (row s k)) as (λ b. odd (row s k) ≡ b → Joins (s.w * s.h) (cond b (eastward s.w ((column s k - 2) / 2) ((row s k - 1) / 2)) (northward s.w ((column s k - 1) / 2) ((row s k - 2) / 2)))) [
        | true ↦ λ e. let r = rooms_beside s (column s k) (row s k) f at.0 at.1 (eqb-true _ _ e) in east_joins _ _ r.0 r.1
        | false ↦ λ e. let r = rooms_above s (column s k) (row s k) f at.0 at.1 (eqb-false _ _ e) in north_joins _ _ r.0 r.1
      ] refl

  pub openings_join : (ps : List ℕ) (n : ℕ) → n ≤ area s → AllByRecursion (Joins (s.w * s.h)) (openings s ps n)
  unfolding openings
  openings_join ps zero h = tt
  openings_join ps (suc n) h =
      All-append _ (openings s ps n) _ (openings_join ps n (omega arith))
      (elim (opening s ps n) as (λ b. opening s ps n ≡ b → AllByRecursion (Joins (s.w * s.h)) (cond b (passage_at s n ∷ []) [])) [
        | true ↦ λ e. (passage_joins n (omega arith) (and_parts (free (rule_of s (column s n) (row s n))) _ e).0, tt)
        | false ↦ λ _. tt
      ] refl)
