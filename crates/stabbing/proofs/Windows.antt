-- Wedge's set, as a loop over the places of a path goes through it.
use Rattle.std.proofs.Common.{◌≡◌, ℕ, ◌+◌, ◌-◌, ◌<◌, ◌≤◌, Bool, true, false, ◌&&◌, List, length, take, drop, is_some, Option, sym, refl, ap, ◌∙◌, ap₂, arith, length-drop, drop-drop}
use Rattle.std.specs.Option.{option_map}
use Rattle.plane.specs.declared.line.Line.{Line}
use Rattle.plane.specs.declared.quad.Quad.{Quad}
use Rattle.plane.specs.Shapes.{coefficients}
use Rattle.plane.specs.Tests.{is_path}
use Rattle.stabbing.specs.Answers.{some_mapped}
use Rattle.stabbing.specs.Exact.{exact_line}
use Rattle.stabbing.specs.Threes.{neighbours_more, neighbours_none, threes_short, threes_long}
use Rattle.stabbing.specs.Wedge.{all_stabbed, neighbours, threes, wedge_lets}

-- how the code goes through the threes
module _ (p : List Quad) where
  pub wedge_no_path : is_path p ≡ false → wedge_lets p ≡ false
  unfolding wedge_lets
  wedge_no_path e = ap (λ b. b && all_stabbed (threes p)) e

  pub wedge_short : is_path p ≡ true → length p < 3 → wedge_lets p ≡ is_some (exact_line p)
  unfolding wedge_lets
  wedge_short e h = ap₂ (λ b ws. b && all_stabbed ws) e (threes_short p h) ∙ and_true (is_some (exact_line p))
    where
      and_true : (b : Bool) → (b && true) ≡ b
      and_true true = refl
      and_true false = refl

  pub wedge_long : is_path p ≡ true → 3 ≤ length p → wedge_lets p ≡ all_stabbed (neighbours p)
  unfolding wedge_lets
  wedge_long e h = ap₂ (λ b ws. b && all_stabbed ws) e (threes_long p h)

  -- one turn, at the place k, where r is Exact's answer for the three from there
  pub three_more : (k : ℕ) (r : Option Line) → k + 3 ≤ length p → option_map coefficients r ≡ exact_line (take (k + 3 - k) (drop k p)) →
      all_stabbed (neighbours (drop k p)) ≡ (is_some r && all_stabbed (neighbours (drop (k + 1) p)))
  three_more k r h e =
      let three : k + 3 - k ≡ 3 = omega arith in
      let same : is_some r ≡ is_some (exact_line (take 3 (drop k p))) = some_mapped coefficients r ∙ ap is_some (e ∙ ap (λ n. exact_line (take n (drop k p))) three) in
      ap all_stabbed (neighbours_more (drop k p) (simp length-drop (omega arith)))
      ∙ ap₂ (λ b q. b && all_stabbed (neighbours q)) (sym same) (drop-drop 1 k p)

  pub three_none : (k : ℕ) → length p ≤ k + 2 → all_stabbed (neighbours (drop k p)) ≡ true
  three_none k h = ap all_stabbed (neighbours_none (drop k p) (simp length-drop (omega arith)))
