use Rattle.std.proofs.Common.{refl}
use Rattle.stabbing.specs.Arrows.{vector}
use Rattle.stabbing.proofs.HalfPlanes.{against}
use Rattle.stabbing.proofs.span.Span.widened.Goals as goal

pub returns-then-has_left-2 : goal.returns-then-has_left-2
returns-then-has_left-2 c l fits climbs = (fits.0, climbs, fits.2, fits.3)

pub returns-then-has_left-4 : goal.returns-then-has_left-4
returns-then-has_left-4 c l fits climbs = (fits.0, fits.1, climbs, fits.3)

pub returns-then-is_against : goal.returns-then-is_against
returns-then-is_against c l fits climbs =
    let straight = c.if-is_against.ensures.0 refl in
    (fits.0, fits.1, fits.2, λ _. against l (vector c.args.self.first) (vector c.args.arrow) straight climbs)
