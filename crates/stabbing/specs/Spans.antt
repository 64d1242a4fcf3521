-- Which lines a span of arrows leaves.
--   Fits l s   the line l falls along none of the arrows that s holds; where s is pinned, it does not rise along the first
use Rattle.std.specs.Prelude.{◌≡◌, true, pos, ◌≤ℤ◌}
use Rattle.plane.specs.Separation.{Coefficients}
use Rattle.stabbing.specs.declared.span.Span.{Span}
use Rattle.stabbing.specs.Arrows.{Climbs, rise, vector}

abbrev pub Fits : Coefficients → Span → Type 0
Fits l s =
    Climbs l (vector s.first) × Climbs l (vector s.left) × Climbs l (vector s.right)
    × (s.pinned ≡ true → rise l (vector s.first) ≤ℤ pos 0)
