-- One more face, by what its corner count and its corner numbers answer.
use Rattle.std.proofs.Common.{◌≡◌, ℕ, suc, ◌+◌, ◌-◌, ◌<◌, ◌≤◌, List, set, Ok, Err, sym, refl, ap, ◌∙◌, arith}
use Rattle.text.specs.declared.faults.Fault.{Fault}
use Rattle.polygon.specs.Outs.{Filling, filled}
use Rattle.polygon.specs.Faces.{number, size, Facing, sized, listed, faced}

module _ (t : List ℕ) (m : ℕ) where
  pub face_none : (f used at : ℕ) (ss ns : List ℕ) → faced t m 0 f used at ss ns ≡ record { result = Ok used; at = at; sizes = ss; numbers = ns }
  unfolding faced
  face_none f used at ss ns = refl

  module _ (n f used at : ℕ) (ss ns : List ℕ) where
    abbrev row : ℕ → Filling ℕ
    row c = filled (number t m) c used (size t at).at ns

    abbrev rest : ℕ → Facing
    rest c = listed (row c).result (row c).at ss (row c).space (faced t m n (f + 1) (used + c) (row c).at (set ss f c) (row c).space)

    face_more : faced t m (suc n) f used at ss ns ≡ sized (size t at).result (size t at).at ss ns rest
    unfolding faced
    face_more = refl

    pub face_unsized : (e : Fault) → (size t at).result ≡ Err e → faced t m (suc n) f used at ss ns ≡ record { result = Err e; at = (size t at).at; sizes = ss; numbers = ns }
    face_unsized e h = face_more ∙ ap (λ r. sized r (size t at).at ss ns rest) h

    face_sized : (c : ℕ) → (size t at).result ≡ Ok c → faced t m (suc n) f used at ss ns ≡ rest c
    face_sized c h = face_more ∙ ap (λ r. sized r (size t at).at ss ns rest) h

    pub face_unlisted : (c : ℕ) (e : Fault) → (size t at).result ≡ Ok c → (row c).result ≡ Err e → faced t m (suc n) f used at ss ns ≡ record { result = Err e; at = (row c).at; sizes = ss; numbers = (row c).space }
    face_unlisted c e h r = face_sized c h ∙ ap (λ x. listed x (row c).at ss (row c).space (faced t m n (f + 1) (used + c) (row c).at (set ss f c) (row c).space)) r

    pub face_ok : (c : ℕ) → (size t at).result ≡ Ok c → (row c).result ≡ Ok tt → faced t m (suc n) f used at ss ns ≡ faced t m n (f + 1) (used + c) (row c).at (set ss f c) (row c).space
    face_ok c h r = face_sized c h ∙ ap (λ x. listed x (row c).at ss (row c).space (faced t m n (f + 1) (used + c) (row c).at (set ss f c) (row c).space)) r

  -- the same in a loop that counts f up to a total
  module _ (total f used at : ℕ) (ss ns : List ℕ) (o : Facing) (is : faced t m (total - f) f used at ss ns ≡ o) where
    at_suc : f < total → faced t m (suc (total - (f + 1))) f used at ss ns ≡ o
    at_suc h = let e : suc (total - (f + 1)) ≡ total - f = omega arith in ap (λ n. faced t m n f used at ss ns) e ∙ is

    pub loop_face : f < total → (c : ℕ) → (size t at).result ≡ Ok c → (p : ℕ) → (size t at).at ≡ p → (r : Filling ℕ) → filled (number t m) c used p ns ≡ r → r.result ≡ Ok tt → faced t m (total - (f + 1)) (f + 1) (used + c) r.at (set ss f c) r.space ≡ o
    loop_face h c e p q r s k =
        let same : row (total - (f + 1)) f used at ss ns c ≡ r = ap (λ j. filled (number t m) c used j ns) q ∙ s in
        ap (λ x. faced t m (total - (f + 1)) (f + 1) (used + c) x.at (set ss f c) x.space) (sym same) ∙ sym (face_ok (total - (f + 1)) f used at ss ns c e (ap (λ x. x.result) same ∙ k)) ∙ at_suc h

    pub loop_unlisted : f < total → (c : ℕ) (g : Fault) → (size t at).result ≡ Ok c → (p : ℕ) → (size t at).at ≡ p → (r : Filling ℕ) → filled (number t m) c used p ns ≡ r → r.result ≡ Err g → (Err g ≡ o.result) × (r.at ≡ o.at) × (ss ≡ o.sizes) × (r.space ≡ o.numbers)
    loop_unlisted h c g e p q r s k =
        let same : row (total - (f + 1)) f used at ss ns c ≡ r = ap (λ j. filled (number t m) c used j ns) q ∙ s in
        let z = sym (face_unlisted (total - (f + 1)) f used at ss ns c g e (ap (λ x. x.result) same ∙ k)) ∙ at_suc h in
        (ap (λ x. x.result) z, ap (λ x. x.at) (sym same) ∙ ap (λ x. x.at) z, ap (λ x. x.sizes) z, ap (λ x. x.space) (sym same) ∙ ap (λ x. x.numbers) z)

    pub loop_unsized : f < total → (g : Fault) → (size t at).result ≡ Err g → (Err g ≡ o.result) × ((size t at).at ≡ o.at) × (ss ≡ o.sizes) × (ns ≡ o.numbers)
    loop_unsized h g e =
        let z = sym (face_unsized (total - (f + 1)) f used at ss ns g e) ∙ at_suc h in
        (ap (λ x. x.result) z, ap (λ x. x.at) z, ap (λ x. x.sizes) z, ap (λ x. x.numbers) z)

    pub loop_faces : total ≤ f → (Ok used ≡ o.result) × (at ≡ o.at) × (ss ≡ o.sizes) × (ns ≡ o.numbers)
    loop_faces h =
        let e : 0 ≡ total - f = omega arith in
        let z = sym (face_none f used at ss ns) ∙ ap (λ n. faced t m n f used at ss ns) e ∙ is in
        (ap (λ x. x.result) z, ap (λ x. x.at) z, ap (λ x. x.sizes) z, ap (λ x. x.numbers) z)
