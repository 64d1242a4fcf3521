-- What the law of a map asks of its doorways, from the test of them.
use Rattle.std.specs.Prelude.{◌≡◌, ℕ, ◌<◌, true, ◌&&◌, List, [], ◌∷◌, nat_lt}
use Rattle.std.specs.List.{AllByRecursion}
use Rattle.std.proofs.lemmas.Bool.{and_parts, ltb-true}
use Rattle.maps.specs.declared.doorway.Doorway.{Doorway}
use Rattle.maps.specs.Passages.{within}

pub within_all : (n : ℕ) (ds : List Doorway) → within n ds ≡ true → AllByRecursion (λ d. (d.near < n) × (d.far < n)) ds
within_all n [] e = tt
within_all n (d ∷ ds) e =
    let p = and_parts (nat_lt d.near n && nat_lt d.far n) (within n ds) e in
    let q = and_parts (nat_lt d.near n) (nat_lt d.far n) p.0 in
    ((ltb-true d.near n q.0, ltb-true d.far n q.1), within_all n ds p.1)
