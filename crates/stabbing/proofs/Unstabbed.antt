-- A path that no line separates: a doorway walked both ways, which leaves only the line along its wall, and then one
-- that is parallel to it.
use Rattle.std.proofs.Common.{◌≡◌, false, List, [], ◌∷◌, ℤ, pos, is_some, sym, refl, ◌∙◌}
use Rattle.std.proofs.lemmas.Bool.{false≢true}
use Rattle.plane.specs.declared.quad.Quad.{Quad}
use Rattle.plane.proofs.Tests.{is_path_decides}
use Rattle.stabbing.specs.Exact.{SomeUnstabbed, exact_line, first_line}
use Rattle.stabbing.specs.Found.{exact_has}

crossing : ℤ → ℤ → ℤ → ℤ → Quad
crossing a b c d = record { lx = a; ly = b; rx = c; ry = d }

there_and_back : List Quad
unfolding crossing
there_and_back = crossing (pos 0) (pos 0) (pos 0) (pos 1) ∷ crossing (pos 0) (pos 1) (pos 0) (pos 0) ∷ crossing (pos 1) (pos 0) (pos 1) (pos 1) ∷ []

no_line : is_some (exact_line there_and_back) ≡ false
unfolding crossing there_and_back exact_line first_line
no_line = refl

pub some_unstabbed : SomeUnstabbed
unfolding crossing there_and_back
some_unstabbed =
    let path = (is_path_decides there_and_back).0 refl in
    (there_and_back, path, λ s. false≢true (sym no_line ∙ exact_has there_and_back path s))
