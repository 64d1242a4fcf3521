-- Why a number, a corner or a face is refused, and how far a list of them is read.
use Rattle.std.proofs.Common.{◌≡◌, ℕ, zero, suc, ◌+◌, ◌<◌, ◌≤◌, Bool, true, false, cond, ◌||◌, ltb, leb, ◌⊎◌, List, [], ◌∷◌, length, drop, set, ℤ, Ok, Err, Result, sym, refl, ap, ◌∙◌, subst, inl, inr, arith}
use Rattle.std.specs.List.{AllByRecursion}
use Rattle.std.proofs.lemmas.Bool.{ltb-true, both_ways, or_from, le-ltb, lt-leb}
use Rattle.text.specs.declared.faults.Fault.{Fault}
use Rattle.text.specs.declared.faults.Ground.{Ground}
use Rattle.text.specs.declared.faults.Ground.TheVariants.{Coordinate, Corner}
use Rattle.text.specs.declared.lexing.Number.{Number}
use Rattle.text.specs.Faults.{fault}
use Rattle.text.specs.Lexing.{Out, numbered}
use Rattle.text.specs.Numerals.{Plain, Reads}
use Rattle.text.proofs.Numerals.{is_spelt}
use Rattle.text.proofs.Plain.{plain_found}
use Rattle.text.proofs.Signed.{signed_found}
use Rattle.polygon.specs.Corners.{signed, bounded, bounded_at, coordinate, at_corner, with_y, with_x, corner}
use Rattle.polygon.specs.Faces.{number, size, Facing, faced}
use Rattle.polygon.specs.Meshes.{Face}
use Rattle.text.specs.Outs.{at_ok, next}
use Rattle.polygon.specs.Outs.{Filling, filled}
use Rattle.polygon.specs.Refusals.{Misspelt, Wrong, misspelt, off_limits, WrongCoordinate, no_coordinate, too_far, WrongCorner, in_x, in_y, in_z, WrongFace, in_size, in_number}
use Rattle.polygon.specs.Spelling.{Each, FaceSpelt}
use Rattle.polygon.specs.Wholes.{limited, limited_at, whole}
use Rattle.polygon.proofs.Coordinates.{wholes, numbers, coordinates, size_of}
use Rattle.polygon.proofs.Facings.{face_none, face_unsized, face_unlisted, face_ok}
use Rattle.polygon.proofs.FacesSpelt.{face_read}
use Rattle.polygon.proofs.Fillings.{fill_none, fill_ok, fill_err}
use Rattle.polygon.proofs.Readers.{never, Reader}

-- a fault is that of the first reading, or of what is read behind it
pub next_failed : {A B : Type 0} (o : Out A) (g : A → ℕ → Out B) (f : Fault) → (next o g).result ≡ Err f → (o.result ≡ Err f) ⊎ ((a : A) × (o.result ≡ Ok a) × ((g a o.at).result ≡ Err f))
next_failed {A} {B} o g f = go o.result
  where
    go : (r : Result A Fault) → (at_ok r o.at g).result ≡ Err f → (r ≡ Err f) ⊎ ((a : A) × (r ≡ Ok a) × ((g a o.at).result ≡ Err f))
    go (Ok a) e = inr (a, refl, e)
    go (Err h) e = let same : h ≡ f = cc in inl (ap Err same)

pub unspelt : (s : Bool) (t : List ℕ) (at : ℕ) (f : Fault) → (numbered s t at).result ≡ Err f → Misspelt s t at f
unspelt s t at f e = ((numbered s t at).at, subst (Reads s (length t) at (drop at t)) (λ i. record { result = e i; at = (numbered s t at).at }) (is_spelt s (length t) at (drop at t)))

module _ (t : List ℕ) where
  limited_bad : (g : Ground) (least below : ℕ) (n : Number) (f : Fault) → limited g least below n ≡ Err f → ((least ≤ n.magnitude) × (n.magnitude < below) → ⊥) × (f ≡ fault g n.start)
  limited_bad g least below n f = go (ltb n.magnitude least || leb below n.magnitude) refl
    where
      go : (b : Bool) → (ltb n.magnitude least || leb below n.magnitude) ≡ b → cond b (Err (fault g n.start)) (Ok n.magnitude) ≡ Err f
          → ((least ≤ n.magnitude) × (n.magnitude < below) → ⊥) × (f ≡ fault g n.start)
      go true b e = (λ h. both_ways _ (or_from (ltb n.magnitude least) (leb below n.magnitude) (le-ltb _ least h.0) (lt-leb below _ h.1)) b, let same : f ≡ fault g n.start = cc in same)
      go false b e = never e

  pub whole_wrong : (g : Ground) (least below at : ℕ) (f : Fault) (P : ℕ → Type 0) → ((v : ℕ) → P v → (least ≤ v) × (v < below)) → (whole t g least below at).result ≡ Err f → Wrong g P t at f
  whole_wrong g least below at f P inside e = go (next_failed (numbered false t at) (limited_at g least below) f e)
    where
      go : ((numbered false t at).result ≡ Err f) ⊎ ((n : Number) × ((numbered false t at).result ≡ Ok n) × (limited g least below n ≡ Err f)) → Wrong g P t at f
      go (inl h) = misspelt (unspelt false t at f h)
      go (inr h) =
          let n = h.0 in
          let u = plain_found t at n (numbered false t at).at (λ i. record { result = h.1 i; at = (numbered false t at).at }) in
          let b = limited_bad g least below n f h.2 in
          off_limits n.magnitude (numbered false t at).at u.0 (λ p. b.0 (inside n.magnitude p)) (b.1 ∙ ap (fault g) u.1)

  bounded_bad : (most : ℕ) (n : Number) (f : Fault) → bounded most n ≡ Err f → (most < n.magnitude) × (f ≡ fault Coordinate n.start)
  bounded_bad most n f = go (ltb most n.magnitude) refl
    where
      go : (b : Bool) → ltb most n.magnitude ≡ b → cond b (Err (fault Coordinate n.start)) (Ok (signed n)) ≡ Err f → (most < n.magnitude) × (f ≡ fault Coordinate n.start)
      go true b e = (ltb-true most n.magnitude b, let same : f ≡ fault Coordinate n.start = cc in same)
      go false b e = never e

  coordinate_wrong : (most at : ℕ) (f : Fault) → (coordinate t most at).result ≡ Err f → WrongCoordinate most t at f
  coordinate_wrong most at f e = go (next_failed (numbered true t at) (bounded_at most) f e)
    where
      go : ((numbered true t at).result ≡ Err f) ⊎ ((n : Number) × ((numbered true t at).result ≡ Ok n) × (bounded most n ≡ Err f)) → WrongCoordinate most t at f
      go (inl h) = no_coordinate (unspelt true t at f h)
      go (inr h) =
          let n = h.0 in
          let u = signed_found t at n (numbered true t at).at (λ i. record { result = h.1 i; at = (numbered true t at).at }) in
          let b = bounded_bad most n f h.2 in
          too_far (signed n) (numbered true t at).at u.0 (omega (arith, b.0, size_of n.negative n.magnitude)) (b.1 ∙ ap (fault Coordinate) u.1)

  pub corner_wrong : (at : ℕ) (f : Fault) → (corner t at).result ≡ Err f → WrongCorner t at f
  corner_wrong at f e = first (next_failed (coordinate t 10000 at) (with_x t) f e)
    where
      p : ℕ
      p = (coordinate t 10000 at).at

      q : ℕ
      q = (coordinate t 10000 p).at

      third : (x y : ℤ) → (coordinate t 10000 at).result ≡ Ok x → (coordinate t 10000 p).result ≡ Ok y → ((coordinate t 0 q).result ≡ Err f) ⊎ ((z : ℤ) × ((coordinate t 0 q).result ≡ Ok z) × ((at_corner x y z (coordinate t 0 q).at).result ≡ Err f)) → WrongCorner t at f
      third x y ex ey (inl h) =
          let a = (coordinates t 10000).sound at x ex in
          let b = (coordinates t 10000).sound p y ey in
          in_z x p a.0 a.1 y q b.0 b.1 (coordinate_wrong 0 q f h)
      third x y ex ey (inr h) = never h.2

      second : (x : ℤ) → (coordinate t 10000 at).result ≡ Ok x → ((coordinate t 10000 p).result ≡ Err f) ⊎ ((y : ℤ) × ((coordinate t 10000 p).result ≡ Ok y) × ((with_y t x y q).result ≡ Err f)) → WrongCorner t at f
      second x ex (inl h) = let a = (coordinates t 10000).sound at x ex in in_y x p a.0 a.1 (coordinate_wrong 10000 p f h)
      second x ex (inr h) = third x h.0 ex h.1 (next_failed (coordinate t 0 q) (at_corner x h.0) f h.2)

      first : ((coordinate t 10000 at).result ≡ Err f) ⊎ ((x : ℤ) × ((coordinate t 10000 at).result ≡ Ok x) × ((with_x t x p).result ≡ Err f)) → WrongCorner t at f
      first (inl h) = in_x (coordinate_wrong 10000 at f h)
      first (inr h) = second h.0 h.1 (next_failed (coordinate t 10000 p) (with_y t h.0) f h.2)

-- how far a list is read
pub record Failing (t : List ℕ) {A : Type 0} (one : ℕ → Out A) (One : List ℕ → A → List ℕ → Type 0) (P : A → Type 0) (n at : ℕ) (f : Fault) : Type 0 where
  pub xs : List A
  pub place : ℕ
  pub spelt : Each One (drop at t) xs (drop place t)
  pub such : AllByRecursion P xs
  pub early : length xs < n
  pub bad : (one place).result ≡ Err f

module _ (t : List ℕ) {A : Type 0} (one : ℕ → Out A) (One : List ℕ → A → List ℕ → Type 0) (P : A → Type 0) (reader : Reader t one One P) where
  pub fills_failed : (n k at : ℕ) (sp : List A) (f : Fault) → (filled one n k at sp).result ≡ Err f → Failing t one One P n at f
  fills_failed zero k at sp f e = never (ap (λ o. o.result) (sym (fill_none one k at sp)) ∙ e)
  fills_failed (suc n) k at sp f e = go (one at).result refl (λ sp'. fills_failed n (k + 1) (one at).at sp' f)
    where
      go : (r : Result A Fault) → (one at).result ≡ r → ((sp' : List A) → (filled one n (k + 1) (one at).at sp').result ≡ Err f → Failing t one One P n (one at).at f) → Failing t one One P (suc n) at f
      go (Ok v) is more =
          let u = more (set sp k v) (ap (λ o. o.result) (sym (fill_ok one n k at sp v is)) ∙ e) in
          let w = reader.sound at v is in
          record { xs = v ∷ u.xs; place = u.place; spelt = (drop (one at).at t, w.0, u.spelt); such = (w.1, u.such); early = omega (arith, u.early); bad = u.bad }
      go (Err g) is more =
          let q = ap (λ o. o.result) (sym (fill_err one n k at sp g is)) ∙ e in
          let same : g ≡ f = cc in
          record { xs = []; place = at; spelt = refl; such = tt; early = omega arith; bad = is ∙ ap Err same }

module _ (t : List ℕ) (m : ℕ) where
  pub record Unfaced (n at : ℕ) (e : Fault) : Type 0 where
    pub fs : List (List ℕ)
    pub place : ℕ
    pub spelt : Each FaceSpelt (drop at t) fs (drop place t)
    pub such : AllByRecursion (Face m) fs
    pub early : length fs < n
    pub bad : WrongFace m t place e

  size_wrong : (at : ℕ) (e : Fault) → (size t at).result ≡ Err e → WrongFace m t at e
  size_wrong at e h = in_size (whole_wrong t Corner 3 17 at e (λ v. (3 ≤ v) × (v ≤ 16)) (λ v p. (p.0, omega (arith, p.1))) h)

  number_wrong : (at c : ℕ) (e : Fault) → (size t at).result ≡ Ok c → Failing t (number t m) Plain (λ v. v < m) c (size t at).at e → WrongFace m t at e
  number_wrong at c e is h =
      let w = (wholes t Corner 3 17).sound at c is in
      in_number c (size t at).at w.0 (w.1.0, omega (arith, w.1.1)) h.xs h.place h.spelt h.such h.early (whole_wrong t Corner 0 m h.place e (λ v. v < m) (λ v p. (omega arith, p)) h.bad)

  module _ (n f used at : ℕ) (ss ns : List ℕ) (e : Fault) (h : (faced t m (suc n) f used at ss ns).result ≡ Err e) where
    abbrev row : ℕ → Filling ℕ
    row c = filled (number t m) c used (size t at).at ns

    abbrev rest : ℕ → Facing
    rest c = faced t m n (f + 1) (used + c) (row c).at (set ss f c) (row c).space

    here : WrongFace m t at e → Unfaced (suc n) at e
    here w = record { fs = []; place = at; spelt = refl; such = tt; early = omega arith; bad = w }

    later : (c : ℕ) → (size t at).result ≡ Ok c → (row c).result ≡ Ok tt → Unfaced n (row c).at e → Unfaced (suc n) at e
    later c is all u =
        let v = face_read t m used at ns c is all in
        record { fs = v.0 ∷ u.fs; place = u.place; spelt = (drop (row c).at t, v.1, u.spelt); such = (v.2, u.such); early = omega (arith, u.early); bad = u.bad }

    face_failed : ((c : ℕ) → (rest c).result ≡ Err e → Unfaced n (row c).at e) → Unfaced (suc n) at e
    face_failed more = sized (size t at).result refl
      where
        listed : (c : ℕ) → (size t at).result ≡ Ok c → (r : Result (Unit {0}) Fault) → (row c).result ≡ r → Unfaced (suc n) at e
        listed c is (Ok u) all = later c is all (more c (ap (λ o. o.result) (sym (face_ok t m n f used at ss ns c is all)) ∙ h))
        listed c is (Err g) bad =
            let q = ap (λ o. o.result) (sym (face_unlisted t m n f used at ss ns c g is bad)) ∙ h in
            let same : g ≡ e = cc in
            here (number_wrong at c e is (fills_failed t (number t m) Plain (λ v. v < m) (numbers t m) c used (size t at).at ns e (bad ∙ ap Err same)))

        sized : (r : Result ℕ Fault) → (size t at).result ≡ r → Unfaced (suc n) at e
        sized (Ok c) is = listed c is (row c).result refl
        sized (Err g) is =
            let q = ap (λ o. o.result) (sym (face_unsized t m n f used at ss ns g is)) ∙ h in
            let same : g ≡ e = cc in
            here (size_wrong at e (is ∙ ap Err same))

  pub faces_failed : (n f used at : ℕ) (ss ns : List ℕ) (e : Fault) → (faced t m n f used at ss ns).result ≡ Err e → Unfaced n at e
  faces_failed zero f used at ss ns e h = never (ap (λ o. o.result) (sym (face_none t m f used at ss ns)) ∙ h)
  faces_failed (suc n) f used at ss ns e h = face_failed n f used at ss ns e h (λ c. faces_failed n (f + 1) (used + c) (filled (number t m) c used (size t at).at ns).at (set ss f c) (filled (number t m) c used (size t at).at ns).space e)
