use Rattle.std.proofs.Common.{ℕ, ◌-◌, ◌≤◌, Bool, List, length}
use Rattle.plane.specs.declared.quad.Quad.{Quad}
use Rattle.visibility.specs.Sets.{marks, free}
use Rattle.visibility.proofs.Turns.{Setting, Turn}
use Rattle.visibility.proofs.search.+search.Given as goal

abbrev pub decreases-search : goal.decreases-search
decreases-search g l = free (g.M.Map.rooms l.deck.now.map.now) (marks l.trail.now.entered)

-- where the search starts
abbrev pub setting :
    (g : goal.Over) → g.row.M.Denot → List Bool → ℕ → g.row.S.Denot → g.row.V.Denot → List Bool → List ℕ → List Quad
    → Setting g.row.S.Denot g.row.V.Denot
setting g map shut here s v xs ks p = record {
  lets = g.V.Visitor.lets;
  heard = g.V.Visitor.heard;
  told = g.V.Visitor.told;
  ended = g.V.Visitor.ended;
  steady = g.met.V.Visitor.steady;
  rooms = g.M.Map.rooms map;
  doorways = g.M.Map.doorways map;
  inside = λ _. g.met.M.Map.inside map;
  shut = marks shut;
  here = here;
  s₀ = s;
  v₀ = v;
  xs₀ = xs;
  ks₀ = ks;
  p₀ = p;
}

abbrev pub invariant-loop-k : goal.invariant-loop-k
invariant-loop-k g l =
    (l.k ≤ length (g.M.Map.doorways l.deck.map.now))
    × Turn (setting g l.deck.map.now l.deck.shut.now l.here l.initial.stabber l.initial.visitor l.initial.trail.entered l.initial.trail.doors.items l.initial.trail.path.items)
    l.k l.stabber l.visitor l.trail.entered l.trail.doors.items l.trail.path.items

abbrev pub decreases-loop-k : goal.decreases-loop-k
decreases-loop-k g l = length (g.M.Map.doorways l.deck.map.now) - l.k
