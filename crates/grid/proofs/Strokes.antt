-- One more pixel of a painting, by what its stroke answers.
use Rattle.std.proofs.Common.{◌≡◌, ℕ, suc, ◌+◌, ◌-◌, ◌<◌, ◌≤◌, List, set, Ok, Err, sym, refl, ap, ◌∙◌, arith}
use Rattle.text.specs.declared.faults.Fault.{Fault}
use Rattle.grid.specs.declared.sizes.Size.{Size}
use Rattle.grid.specs.Pixels.{Painting, brushed, painted, stroke}

pub paint_none : (t : List ℕ) (s : Size) (k at : ℕ) (sp : List ℕ) → painted t s 0 k at sp ≡ record { result = Ok tt; at = at; space = sp }
unfolding painted
paint_none t s k at sp = refl

pub paint_more : (t : List ℕ) (s : Size) (n k at : ℕ) (sp : List ℕ) → painted t s (suc n) k at sp ≡ brushed (stroke t s k at).result (stroke t s k at).at sp (λ v. painted t s n (k + 1) (stroke t s k at).at (set sp k v))
unfolding painted
paint_more t s n k at sp = refl

pub paint_ok : (t : List ℕ) (s : Size) (n k at : ℕ) (sp : List ℕ) (v : ℕ) → (stroke t s k at).result ≡ Ok v → painted t s (suc n) k at sp ≡ painted t s n (k + 1) (stroke t s k at).at (set sp k v)
paint_ok t s n k at sp v e = paint_more t s n k at sp ∙ ap (λ r. brushed r (stroke t s k at).at sp (λ v. painted t s n (k + 1) (stroke t s k at).at (set sp k v))) e

pub paint_err : (t : List ℕ) (s : Size) (n k at : ℕ) (sp : List ℕ) (f : Fault) → (stroke t s k at).result ≡ Err f → painted t s (suc n) k at sp ≡ record { result = Err f; at = (stroke t s k at).at; space = sp }
paint_err t s n k at sp f e = paint_more t s n k at sp ∙ ap (λ r. brushed r (stroke t s k at).at sp (λ v. painted t s n (k + 1) (stroke t s k at).at (set sp k v))) e

-- the same in a loop that counts k up to a total
module _ (t : List ℕ) (s : Size) (total k at : ℕ) (sp : List ℕ) (o : Painting) (is : painted t s (total - k) k at sp ≡ o) where
  at_suc : k < total → painted t s (suc (total - (k + 1))) k at sp ≡ o
  at_suc h = let e : suc (total - (k + 1)) ≡ total - k = omega arith in ap (λ n. painted t s n k at sp) e ∙ is

  pub loop_ok : k < total → (v : ℕ) → (stroke t s k at).result ≡ Ok v → painted t s (total - (k + 1)) (k + 1) (stroke t s k at).at (set sp k v) ≡ o
  loop_ok h v e = sym (paint_ok t s (total - (k + 1)) k at sp v e) ∙ at_suc h

  pub loop_err : k < total → (f : Fault) → (stroke t s k at).result ≡ Err f → (Err f ≡ o.result) × ((stroke t s k at).at ≡ o.at) × (sp ≡ o.space)
  loop_err h f e = let p = sym (paint_err t s (total - (k + 1)) k at sp f e) ∙ at_suc h in (ap (λ x. x.result) p, ap (λ x. x.at) p, ap (λ x. x.space) p)

  pub loop_end : total ≤ k → (Ok tt ≡ o.result) × (at ≡ o.at) × (sp ≡ o.space)
  loop_end h =
      let e : 0 ≡ total - k = omega arith in
      let p = sym (paint_none t s k at sp) ∙ ap (λ n. painted t s n k at sp) e ∙ is in
      (ap (λ x. x.result) p, ap (λ x. x.at) p, ap (λ x. x.space) p)
