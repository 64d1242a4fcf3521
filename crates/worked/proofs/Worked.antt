-- Whatever map is made of the two texts has the cases.
use Rattle.std.proofs.Common.{◌≡◌, ℕ, ◌-◌, ◌*◌, ◌≤◌, List, ◌++◌, map, length, Ok, sym, refl, ap, ◌∙◌, subst, inl, ⊎_elim, arith}
use lib.ListN.{length-replicate}
use Rattle.std.specs.List.{AllByRecursion}
use Rattle.std.proofs.ByRecursion.{All-weaker}
use Rattle.maps.specs.declared.doorway.Doorway.{Doorway}
use Rattle.maps.specs.declared.passage.Passage.{Passage}
use Rattle.maps.specs.Passages.{plain, Joins}
use Rattle.grid.specs.declared.sizes.Size.{Size}
use Rattle.grid.specs.Doorways.{Pictured, grid_doorways, openings}
use Rattle.grid.specs.Plans.{Plan, answered, zeros}
use Rattle.grid.specs.Sizes.{area}
use Rattle.grid.proofs.Joined.{openings_join}
use Rattle.worked.specs.Plans.{ring, corridor, by, Accepted, MapOf}
use Rattle.worked.specs.Cases.{under_exact, under_wedge, RingCases, CorridorCases, WorkedCases}
use Rattle.worked.proofs.Known.{Fair, doorways, known, plain_doorways, joins_fair}
use Rattle.worked.proofs.Readings.{ring_pixels, corridor_pixels, ring_read, corridor_read, ring_accepted, corridor_accepted}
use Rattle.worked.proofs.Ring.{ring_doorways, ring_cases}
use Rattle.worked.proofs.Corridor.{corridor_doorways, corridor_cases}

-- in any space, the openings of the plan t are the doorways ps
abbrev Opened : List ℕ → ℕ → ℕ → List Passage → Type 0
Opened t w h ps = (sp : List ℕ) → 1539 ≤ length sp → grid_doorways (by w h) (answered t sp).space ≡ ps

-- the rooms and the doorways of a map that is made of an accepted text
module _ (t : List ℕ) (w h : ℕ) (ps : List Passage) (accepted : Accepted t w h) (opened : Opened t w h ps) where
  made : (n : ℕ) (ds : List Doorway) → MapOf t n ds → (n ≡ w * h) × (map plain ds ≡ ps)
  made n ds (s, sp, long, read, pictured) =
      let same : s ≡ by w h = let q : Ok s ≡ Ok (by w h) = sym read ∙ (accepted sp long).0 in cc in
      ⊎_elim
      (λ drawn. (drawn.1, drawn.2 ∙ opened sp long))
      (λ none. absurd (none.0 (accepted sp long).1))
      (subst (λ (z : Size). Pictured z (answered t sp).space n ds) same pictured)

-- some map is made of an accepted text
some_map : (t : List ℕ) (w h : ℕ) → Accepted t w h → (ds : List Doorway) × MapOf t (w * h) ds
some_map t w h accepted =
    let sp : List ℕ = zeros 1539 in
    let long : 1539 ≤ length sp = omega (arith, length-replicate {A = ℕ} 1539 0) in
    let (read, drawn) = accepted sp long in
    let ps : List Passage = grid_doorways (by w h) (answered t sp).space in
    let joins : AllByRecursion (Joins (w * h)) ps = openings_join (by w h) drawn.0 (answered t sp).space (area (by w h)) (omega arith) in
    let gs : AllByRecursion Fair ps = All-weaker (Joins (w * h)) Fair (joins_fair (w * h)) ps joins in
    (doorways ps gs, (by w h, sp, long, read, inl (drawn, refl, plain_doorways ps gs)))

ring_drawn : (zs : List ℕ) → grid_doorways (by 2 2) (ring_pixels ++ zs) ≡ ring_doorways
unfolding openings
ring_drawn zs = refl

ring_opened : Opened ring 2 2 ring_doorways
ring_opened sp long = ap (λ (p : Plan). grid_doorways (by 2 2) p.space) (ring_read sp long) ∙ ring_drawn (zeros (length sp - 25))

corridor_drawn : (zs : List ℕ) → grid_doorways (by 5 2) (corridor_pixels ++ zs) ≡ corridor_doorways
unfolding openings
corridor_drawn zs = refl

corridor_opened : Opened corridor 5 2 corridor_doorways
corridor_opened sp long = ap (λ (p : Plan). grid_doorways (by 5 2) p.space) (corridor_read sp long) ∙ corridor_drawn (zeros (length sp - 55))

pub worked_cases : WorkedCases
worked_cases =
    record {
      ring_read = ring_accepted;
      ring_map = some_map ring 2 2 ring_accepted;
      ring_cases = λ n ds m.
          let (rooms, same) = made ring 2 2 ring_doorways ring_accepted ring_opened n ds m in
          subst (λ (k : ℕ). RingCases (under_exact k ds)) (sym rooms) (known (λ es. RingCases (under_exact 4 es)) ring_doorways ring_cases ds same);
      corridor_read = corridor_accepted;
      corridor_map = some_map corridor 5 2 corridor_accepted;
      corridor_cases = λ n ds m.
          let (rooms, same) = made corridor 5 2 corridor_doorways corridor_accepted corridor_opened n ds m in
          subst (λ (k : ℕ). CorridorCases (under_exact k ds) (under_wedge k ds)) (sym rooms)
          (known (λ es. CorridorCases (under_exact 10 es) (under_wedge 10 es)) corridor_doorways corridor_cases ds same);
    }
