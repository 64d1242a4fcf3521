-- The names of the piles.
--   name_of p   the name of the pile p
--   Named t r   r is the pile whose name the text t is, and where t is no pile's name, r says so
use Rattle.std.specs.Prelude.{◌≡◌, ℕ, List, codes, Result, Ok, Err}
use Rattle.piles.specs.declared.pile.Pile.{Pile}
use Rattle.piles.specs.declared.pile.UnknownPile.{UnknownPile}
use Rattle.piles.specs.declared.pile.Pile.TheVariants.{Exact, Wedge, MemoryExact, BothWedgeExact, MemoryBothWedgeExact, BothWedgeMemoryExact, MemoryMemoryExact}

abbrev pub name_of : Pile → List ℕ
name_of Exact = codes "exact"
name_of Wedge = codes "wedge"
name_of MemoryExact = codes "memory-exact"
name_of BothWedgeExact = codes "both-wedge-exact"
name_of MemoryBothWedgeExact = codes "memory-both-wedge-exact"
name_of BothWedgeMemoryExact = codes "both-wedge-memory-exact"
name_of MemoryMemoryExact = codes "memory-memory-exact"

abbrev pub Named : List ℕ → Result Pile UnknownPile → Type 0
Named t (Ok p) = t ≡ name_of p
Named t (Err e) = (p : Pile) → t ≡ name_of p → ⊥
