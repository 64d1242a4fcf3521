use Rattle.std.proofs.Common.{◌≡◌, Bool, true, false, not, is_some, sym, refl, ap, ◌∙◌}
use Rattle.std.proofs.lemmas.Bool.Decides.{Decides-at}
use Rattle.plane.specs.Shapes.{coefficients}
use Rattle.plane.specs.Tests.{parts, separates}
use Rattle.plane.proofs.Tests.{fails_somewhere, not_separates, separates_decides}
use Rattle.plane.proofs.line.Line.separates.Goals as goal

not_same : (s t : Bool) → not s ≡ not t → s ≡ t
not_same true true e = refl
not_same true false e = sym e
not_same false true e = sym e
not_same false false e = refl

pub returns-then-not-misses_newest : goal.returns-then-not-misses_newest
returns-then-not-misses_newest c =
    let l = coefficients c.args.self.now in
    let p = c.args.path.now in
    let same : c.is_none.result ≡ separates l p = not_same _ _ (sym c.is_none.ensures ∙ ap is_some c.first_wrong.ensures ∙ fails_somewhere (parts l) 0 p) in
    record { value = same; test = Decides-at _ _ same (separates_decides l p) }

pub returns-else-not-misses_newest : goal.returns-else-not-misses_newest
returns-else-not-misses_newest c =
    let l = coefficients c.args.self.now in
    let p = c.args.path.now in
    let same : not c.misses_newest.result ≡ separates l p = ap not c.if-not-misses_newest.false ∙ not_separates l p (c.misses_newest.ensures c.if-not-misses_newest.false) in
    record { value = same; test = Decides-at _ _ same (separates_decides l p) }
