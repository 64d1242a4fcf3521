-- The paths that the piles let through.
--   lets_of p    the paths that the pile p lets through
--   is_sharp p   whether the pile p answers lines
--   says a h s   what a stabber that stands as s answers to any paths, one after the other; a is its line for a path, h how it then stands
use Rattle.std.specs.Prelude.{Bool, true, false, ◌&&◌, List, [], ◌∷◌, is_some, Option}
use Rattle.plane.specs.declared.quad.Quad.{Quad}
use Rattle.plane.specs.Separation.{Coefficients}
use Rattle.stabbing.specs.Exact.{exact_line}
use Rattle.stabbing.specs.Wedge.{wedge_lets}
use Rattle.piles.specs.declared.pile.Pile.{Pile}
use Rattle.piles.specs.declared.pile.Pile.TheVariants.{Exact, Wedge, MemoryExact, BothWedgeExact, MemoryBothWedgeExact, BothWedgeMemoryExact, MemoryMemoryExact}

abbrev pub lets_of : Pile → List Quad → Bool
lets_of Exact p = is_some (exact_line p)
lets_of Wedge p = wedge_lets p
lets_of MemoryExact p = is_some (exact_line p)
lets_of BothWedgeExact p = wedge_lets p && is_some (exact_line p)
lets_of MemoryBothWedgeExact p = wedge_lets p && is_some (exact_line p)
lets_of BothWedgeMemoryExact p = wedge_lets p && is_some (exact_line p)
lets_of MemoryMemoryExact p = is_some (exact_line p)

abbrev pub is_sharp : Pile → Bool
is_sharp Exact = true
is_sharp Wedge = false
is_sharp MemoryExact = true
is_sharp BothWedgeExact = true
is_sharp MemoryBothWedgeExact = true
is_sharp BothWedgeMemoryExact = true
is_sharp MemoryMemoryExact = true

abbrev pub says : {S : Type 0} → (S → List Quad → Option Coefficients) → (S → List Quad → S) → S → List (List Quad) → List (Option Coefficients)
says a h s [] = []
says a h s (p ∷ ps) = a s p ∷ says a h (h s p) ps
