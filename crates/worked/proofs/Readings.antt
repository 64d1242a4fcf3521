-- The two texts, read into any space.
use Rattle.std.proofs.Common.{◌≡◌, ℕ, ◌+◌, ◌-◌, ◌≤◌, ltb, List, [], ◌∷◌, ◌++◌, length, replicate, Ok, sym, refl, ap, ◌∙◌, arith}
use lib.ListN.{replicate-append-replicate}
use Rattle.std.proofs.lemmas.Bool.{le-ltb, cond-false}
use Rattle.grid.specs.Plans.{Plan, planned, kept, answered, zeros}
use Rattle.grid.specs.Pixels.{painted}
use Rattle.worked.specs.Plans.{ring, corridor, by, Accepted}
use Rattle.worked.proofs.Drawings.{drawn_read}

abbrev read_as : ℕ → ℕ → List ℕ → Plan
read_as w h sp = record { result = Ok (by w h); space = sp }

abbrev pub ring_pixels : List ℕ
ring_pixels =
    1 ∷ 1 ∷ 1 ∷ 1 ∷ 1
    ∷ 1 ∷ 0 ∷ 0 ∷ 0 ∷ 1
    ∷ 1 ∷ 0 ∷ 1 ∷ 0 ∷ 1
    ∷ 1 ∷ 0 ∷ 0 ∷ 0 ∷ 1
    ∷ 1 ∷ 1 ∷ 1 ∷ 1 ∷ 1 ∷ []

abbrev pub corridor_pixels : List ℕ
corridor_pixels =
    1 ∷ 1 ∷ 1 ∷ 1 ∷ 1 ∷ 1 ∷ 1 ∷ 1 ∷ 1 ∷ 1 ∷ 1
    ∷ 1 ∷ 0 ∷ 0 ∷ 0 ∷ 1 ∷ 0 ∷ 1 ∷ 0 ∷ 1 ∷ 0 ∷ 1
    ∷ 1 ∷ 1 ∷ 1 ∷ 0 ∷ 1 ∷ 1 ∷ 1 ∷ 1 ∷ 1 ∷ 1 ∷ 1
    ∷ 1 ∷ 0 ∷ 1 ∷ 0 ∷ 0 ∷ 0 ∷ 0 ∷ 0 ∷ 0 ∷ 0 ∷ 1
    ∷ 1 ∷ 1 ∷ 1 ∷ 1 ∷ 1 ∷ 1 ∷ 1 ∷ 1 ∷ 1 ∷ 1 ∷ 1 ∷ []

zeros_front : (k n : ℕ) → k ≤ n → zeros n ≡ replicate k 0 ++ zeros (n - k)
zeros_front k n l = ap (λ m. replicate m 0) (whole k n l) ∙ sym (replicate-append-replicate k (n - k) 0)
  where
    whole : (k n : ℕ) → k ≤ n → n ≡ k + (n - k)
    whole k n l = omega arith

-- a text that gives a plan on k zeros gives it in any space
answered_as :
    (t : List ℕ) (k w h : ℕ) (ps : List ℕ) → k ≤ 1539 → ((zs : List ℕ) → planned t (replicate k 0 ++ zs) ≡ read_as w h (ps ++ zs))
    → (sp : List ℕ) → 1539 ≤ length sp → answered t sp ≡ read_as w h (ps ++ zeros (length sp - k))
answered_as t k w h ps low plan sp long =
    cond-false (ltb (length sp) 1539) _ _ (le-ltb (length sp) 1539 long)
    ∙ ap (λ (p : Plan). kept p.result p.space (length sp))
    (ap (planned t) (zeros_front k (length sp) (omega arith)) ∙ plan (zeros (length sp - k)))

ring_planned : (zs : List ℕ) → planned ring (replicate 25 0 ++ zs) ≡ read_as 2 2 (ring_pixels ++ zs)
unfolding painted
ring_planned zs = refl

corridor_planned : (zs : List ℕ) → planned corridor (replicate 55 0 ++ zs) ≡ read_as 5 2 (corridor_pixels ++ zs)
unfolding painted
corridor_planned zs = refl

pub ring_read : (sp : List ℕ) → 1539 ≤ length sp → answered ring sp ≡ read_as 2 2 (ring_pixels ++ zeros (length sp - 25))
ring_read = answered_as ring 25 2 2 ring_pixels (omega arith) ring_planned

pub corridor_read : (sp : List ℕ) → 1539 ≤ length sp → answered corridor sp ≡ read_as 5 2 (corridor_pixels ++ zeros (length sp - 55))
corridor_read = answered_as corridor 55 5 2 corridor_pixels (omega arith) corridor_planned

pub ring_accepted : Accepted ring 2 2
ring_accepted sp long = let e = ap (λ (p : Plan). p.result) (ring_read sp long) in (e, drawn_read ring sp (by 2 2) e)

pub corridor_accepted : Accepted corridor 5 2
corridor_accepted sp long = let e = ap (λ (p : Plan). p.result) (corridor_read sp long) in (e, drawn_read corridor sp (by 5 2) e)
