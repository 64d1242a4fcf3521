-- What the held line gives.
use Rattle.std.proofs.Common.{◌≡◌, Bool, true, ◌&&◌, List, is_some, Some, None, Option, sym, refl, subst, ⊎_elim}
use Rattle.std.specs.Option.{option_or}
use Rattle.std.proofs.lemmas.Bool.{and_parts}
use Rattle.std.proofs.lemmas.Option.{none-some}
use Rattle.plane.specs.declared.line.Line.{Line}
use Rattle.plane.specs.declared.quad.Quad.{Quad}
use Rattle.plane.specs.Limits.{InLimits, Path}
use Rattle.plane.specs.Separation.{Coefficients, Proper, Separates, Stabbed}
use Rattle.plane.specs.Shapes.{coefficients}
use Rattle.plane.specs.Tests.{is_path, separates}
use Rattle.plane.proofs.StoredLine.{line_limits, line_proper}
use Rattle.plane.proofs.Tests.{is_path_decides, separates_decides}
use Rattle.stabbing.specs.Memory.{recalled}
use Rattle.stabbing.specs.Answers.{either, under}

-- a line that is recalled separates the path
pub recalled_is : (h : Option Line) (p : List Quad) (l : Coefficients) → recalled h p ≡ Some l → Path p × Proper l × InLimits l × Separates l p
recalled_is None p l e = absurd (none-some l e)
recalled_is (Some k) p l e =
    let yes = under (is_path p && separates (coefficients k) p) _ l e in
    let tests = and_parts (is_path p) (separates (coefficients k) p) yes.0 in
    let same : coefficients k ≡ l = cc in
    let P : Coefficients → Type 0 = λ m. Path p × Proper m × InLimits m × Separates m p in
    subst P same ((is_path_decides p).0 tests.0, line_proper k, line_limits k, (separates_decides (coefficients k) p).0 tests.1)

module _ (h : Option Line) (p : List Quad) (below : Option Coefficients) where
  -- with the held line there is an answer exactly where there is one below
  pub recall_sharp : (lets : Bool) → (Path p → Stabbed p → lets ≡ true) → is_some below ≡ lets → is_some (option_or (recalled h p) below) ≡ lets
  recall_sharp lets stabbed sharp =
      elim (recalled h p) as (λ o. ((l : Coefficients) → o ≡ Some l → Path p × Proper l × InLimits l × Separates l p) → is_some (option_or o below) ≡ lets) [
        | None ↦ λ _. sharp
        | Some l ↦ λ is. let k = is l refl in sym (stabbed k.0 (l, k.1, k.3))
      ] (recalled_is h p)

  -- and it separates the path, as those below do
  pub recall_separates : (l : Coefficients) → (below ≡ Some l → Proper l × InLimits l × Separates l p) → option_or (recalled h p) below ≡ Some l → Proper l × InLimits l × Separates l p
  recall_separates l separating e =
      ⊎_elim (λ f. let is = recalled_is h p l f in (is.1, is.2, is.3)) separating (either (recalled h p) below l e)
