-- The faces: read where they are spelt within the limits, and only there.
use Rattle.std.proofs.Common.{◌≡◌, ℕ, zero, suc, ◌+◌, ◌<◌, List, [], ◌∷◌, ◌++◌, map, length, drop, set, Ok, Err, Result, sym, refl, ap, ◌∙◌, subst, add-zero, add-one, arith}
use lib.Seq.{sets}
use Rattle.std.specs.List.{AllByRecursion}
use Rattle.std.proofs.lemmas.List.{length-append}
use Rattle.text.specs.declared.faults.Fault.{Fault}
use Rattle.text.specs.declared.faults.Ground.TheVariants.{Corner}
use Rattle.text.specs.Numerals.{Plain}
use Rattle.polygon.specs.Faces.{number, size, Facing, faced}
use Rattle.polygon.specs.Meshes.{joined, Face}
use Rattle.polygon.specs.Outs.{Filling, filled}
use Rattle.polygon.specs.Spelling.{Each, FaceSpelt}
use Rattle.polygon.proofs.Coordinates.{wholes, numbers}
use Rattle.polygon.proofs.Facings.{face_none, face_unsized, face_unlisted, face_ok}
use Rattle.polygon.proofs.Readers.{no, fills_sound, fills_complete}

sets_both : {A : Type 0} (xs ys l : List A) (i : ℕ) → sets (sets l i xs) (i + length xs) ys ≡ sets l i (xs ++ ys)
sets_both [] ys l i = ap (λ k. sets l k ys) (add-zero i)
sets_both (x ∷ xs) ys l i = let e : i + suc (length xs) ≡ suc i + length xs = omega arith in ap (λ k. sets (sets (set l i x) (suc i) xs) k ys) e ∙ sets_both xs ys (set l i x) (suc i)

module _ (t : List ℕ) (m : ℕ) where
  -- one face: its corner count and its corner numbers
  pub face_read : (used at : ℕ) (ns : List ℕ) (c : ℕ) → (size t at).result ≡ Ok c → (filled (number t m) c used (size t at).at ns).result ≡ Ok tt
      → (f : List ℕ) × FaceSpelt (drop at t) f (drop (filled (number t m) c used (size t at).at ns).at t) × Face m f
  face_read used at ns c is all =
      let w = (wholes t Corner 3 17).sound at c is in
      let v = fills_sound t (number t m) Plain (λ x. x < m) (numbers t m) c used (size t at).at ns all in
      let count : Plain (drop at t) (length v.0) (drop (size t at).at t) = subst (λ x. Plain (drop at t) x (drop (size t at).at t)) (sym v.1) w.0 in
      (v.0, (drop (size t at).at t, count, v.2), (omega (arith, v.1, w.1), omega (arith, v.1, w.1), v.3))

  -- n faces are spelt from the place at up to where o stands
  abbrev pub SpeltFaces : ℕ → ℕ → Facing → Type 0
  SpeltFaces n at o = (fs : List (List ℕ)) × (length fs ≡ n) × Each FaceSpelt (drop at t) fs (drop o.at t) × AllByRecursion (Face m) fs

  module _ (n f used at : ℕ) (ss ns : List ℕ) (k : ℕ) (e : (faced t m (suc n) f used at ss ns).result ≡ Ok k) where
    abbrev row : ℕ → Filling ℕ
    row c = filled (number t m) c used (size t at).at ns

    abbrev rest : ℕ → Facing
    rest c = faced t m n (f + 1) (used + c) (row c).at (set ss f c) (row c).space

    one_face : (c : ℕ) → (size t at).result ≡ Ok c → (row c).result ≡ Ok tt → ((rest c).result ≡ Ok k → SpeltFaces n (row c).at (rest c)) → SpeltFaces (suc n) at (faced t m (suc n) f used at ss ns)
    one_face c is all go =
        let same = face_ok t m n f used at ss ns c is all in
        let v = face_read used at ns c is all in
        let more = go (ap (λ o. o.result) (sym same) ∙ e) in (
          v.0 ∷ more.0,
          ap suc more.1,
          (drop (row c).at t, v.1, subst (λ p. Each FaceSpelt (drop (row c).at t) more.0 (drop p t)) (ap (λ o. o.at) (sym same)) more.2),
          (v.2, more.3),
        )

    face_step : ((c : ℕ) → (rest c).result ≡ Ok k → SpeltFaces n (row c).at (rest c)) → SpeltFaces (suc n) at (faced t m (suc n) f used at ss ns)
    face_step more = sized (size t at).result refl
      where
        listed : (c : ℕ) → (size t at).result ≡ Ok c → (r : Result (Unit {0}) Fault) → (row c).result ≡ r → SpeltFaces (suc n) at (faced t m (suc n) f used at ss ns)
        listed c is (Ok u) all = one_face c is all (more c)
        listed c is (Err g) bad = no (ap (λ o. o.result) (sym (face_unlisted t m n f used at ss ns c g is bad)) ∙ e)

        sized : (r : Result ℕ Fault) → (size t at).result ≡ r → SpeltFaces (suc n) at (faced t m (suc n) f used at ss ns)
        sized (Ok c) is = listed c is (row c).result refl
        sized (Err g) is = no (ap (λ o. o.result) (sym (face_unsized t m n f used at ss ns g is)) ∙ e)

  pub faces_sound : (n f used at : ℕ) (ss ns : List ℕ) (k : ℕ) → (faced t m n f used at ss ns).result ≡ Ok k → SpeltFaces n at (faced t m n f used at ss ns)
  faces_sound zero f used at ss ns k e = ([], refl, ap (λ o. drop o.at t) (sym (face_none t m f used at ss ns)), tt)
  faces_sound (suc n) f used at ss ns k e = face_step n f used at ss ns k e (λ c. faces_sound n (f + 1) (used + c) (filled (number t m) c used (size t at).at ns).at (set ss f c) (filled (number t m) c used (size t at).at ns).space k)

  pub faces_complete : (fs : List (List ℕ)) (f used at : ℕ) (ss ns rest : List ℕ) → Each FaceSpelt (drop at t) fs rest → AllByRecursion (Face m) fs
      → (p : ℕ) × (faced t m (length fs) f used at ss ns ≡ record { result = Ok (used + length (joined fs)); at = p; sizes = sets ss f (map length fs); numbers = sets ns used (joined fs) }) × (drop p t ≡ rest)
  faces_complete [] f used at ss ns rest s all = (at, face_none t m f used at ss ns ∙ (λ i. record { result = Ok (sym (add-zero used) i); at = at; sizes = ss; numbers = ns }), s)
  faces_complete (x ∷ fs) f used at ss ns rest s all =
      let c = length x in
      let u = (wholes t Corner 3 17).complete at c s.1.0 s.1.1 (all.0.0, omega (arith, all.0.1)) in
      let v = fills_complete t (number t m) Plain (λ y. y < m) (numbers t m) x used u.0 ns s.0 (subst (λ l. Each Plain l x s.0) (sym u.2) s.1.2) all.0.2 in
      let w = faces_complete fs (suc f) (used + c) v.0 (set ss f c) (sets ns used x) rest (subst (λ l. Each FaceSpelt l fs rest) (sym v.2) s.2) all.1 in
      let row : filled (number t m) c used (size t at).at ns ≡ record { result = Ok tt; at = v.0; space = sets ns used x } = ap (λ o. filled (number t m) c used o.at ns) u.1 ∙ v.1 in
      let total : used + c + length (joined fs) ≡ used + length (x ++ joined fs) = omega (arith, length-append x (joined fs)) in (
        w.0,
        face_ok t m (length fs) f used at ss ns c (ap (λ o. o.result) u.1) (ap (λ o. o.result) row)
            ∙ (λ i. faced t m (length fs) (add-one f i) (used + c) (row i).at (set ss f c) (row i).space)
            ∙ w.1
            ∙ (λ i. record { result = Ok (total i); at = w.0; sizes = sets (set ss f c) (suc f) (map length fs); numbers = sets_both x (joined fs) ns used i }),
        w.2,
      )
