-- A fault of number 19 or 20 is that of a plan, and any other that of its text.
use Rattle.std.proofs.Common.{◌≡◌, ℕ, ◌+◌, ◌≤◌, Bool, ◌⊎◌, List, length, Err, sym, ap, subst, inl, inr, arith}
use Rattle.text.specs.declared.faults.Fault.{Fault}
use Rattle.text.specs.declared.faults.Ground.{Ground}
use Rattle.text.specs.declared.faults.Ground.TheVariants.{Early, Stray, Long, Heading, Limits, Over, Coordinate, Corner, Shape, Edge}
use Rattle.text.specs.Faults.{fault, number_of}
use Rattle.text.specs.Numerals.{minus, Reads, numeral, nothing, stray, glued, long}
use Rattle.polygon.specs.Refusals.{Misspelt, Wrong, misspelt, off_limits, WrongCoordinate, no_coordinate, too_far, WrongCorner, in_x, in_y, in_z, WrongFace, in_size, in_number, Faulty, bare, headless, corner_count, face_count, edge_count, corner, face, left_over, bent, twice}
use Rattle.polygon.specs.Understood.{Misshapen, Doubled}
use Rattle.polygon.proofs.Readers.{never}

abbrev Low : Fault → Type 0
Low f = number_of f.cause ≤ 18

low_as : {f : Fault} (g : Ground) (p : ℕ) → f ≡ fault g p → number_of g ≤ 18 → Low f
low_as g p e h = subst Low (sym e) h

misspelt_low : (s : Bool) (t : List ℕ) (p : ℕ) (f : Fault) → Misspelt s t p f → Low f
misspelt_low s t p f h = go h.1
  where
    go : {len : ℕ} {bs : List ℕ} → Reads s len p bs (record { result = Err f; at = h.0 }) → Low f
    go (numeral ws m ds rest split w may d ends is) = never (sym (ap (λ x. x.result) is))
    go {len} (nothing ws m split w may is) = let same : f ≡ fault Early len = cc (ap (λ x. x.result) is) in low_as Early _ same (omega arith)
    go (stray ws m rest split w may unfit is) = let same : f ≡ fault Stray (p + length ws + length (minus m)) = cc (ap (λ x. x.result) is) in low_as Stray _ same (omega arith)
    go (glued ws m ds rest split w may d stops is) = let same : f ≡ fault Stray (p + length ws + length (minus m) + length ds) = cc (ap (λ x. x.result) is) in low_as Stray _ same (omega arith)
    go (long ws m ds d rest split w may all six k is) = let same : f ≡ fault Long (p + length ws) = cc (ap (λ x. x.result) is) in low_as Long _ same (omega arith)

module _ (t : List ℕ) (f : Fault) where
  wrong_low : (g : Ground) (P : ℕ → Type 0) (p : ℕ) → number_of g ≤ 18 → Wrong g P t p f → Low f
  wrong_low g P p h (misspelt m) = misspelt_low _ t p f m
  wrong_low g P p h (off_limits v q n o is) = low_as g _ is h

  coordinate_low : (most p : ℕ) → WrongCoordinate most t p f → Low f
  coordinate_low most p (no_coordinate m) = misspelt_low _ t p f m
  coordinate_low most p (too_far z q n o is) = low_as Coordinate _ is (omega arith)

  corner_low : (p : ℕ) → WrongCorner t p f → Low f
  corner_low p (in_x w) = coordinate_low _ _ w
  corner_low p (in_y x q a b w) = coordinate_low _ _ w
  corner_low p (in_z x q a b y r c d w) = coordinate_low _ _ w

  face_low : (c p : ℕ) → WrongFace c t p f → Low f
  face_low c p (in_size w) = wrong_low Corner _ _ (omega arith) w
  face_low c p (in_number s q a b ns r d e h w) = wrong_low Corner _ _ (omega arith) w

  grounds : Faulty t f → Low f ⊎ (((k : ℕ) × (f ≡ fault Shape k) × Misshapen t k) ⊎ ((k : ℕ) × (f ≡ fault Edge k) × Doubled t k))
  grounds (bare h is) = inl (low_as Early _ is (omega arith))
  grounds (headless h k is) = inl (low_as Heading _ is (omega arith))
  grounds (corner_count h w) = inl (wrong_low Limits _ _ (omega arith) w)
  grounds (face_count h c p a b w) = inl (wrong_low Limits _ _ (omega arith) w)
  grounds (edge_count h c p a b n q d e w) = inl (misspelt_low _ t q f w)
  grounds (corner c n ps p a b w) = inl (corner_low p w)
  grounds (face c n fs p a b w) = inl (face_low c p w)
  grounds (left_over c n fs p a b d q next found is) = inl (low_as Over _ is (omega arith))
  grounds (bent m s w k b is) = inr (inl (k, is, (m, s, w, b)))
  grounds (twice m s w shaped k b is) = inr (inr (k, is, (m, s, w, shaped, b)))

pub shape_only : (t : List ℕ) (k : ℕ) → Faulty t (fault Shape k) → Misshapen t k
shape_only t k h = go (grounds t (fault Shape k) h)
  where
    go : Low (fault Shape k) ⊎ (((j : ℕ) × (fault Shape k ≡ fault Shape j) × Misshapen t j) ⊎ ((j : ℕ) × (fault Shape k ≡ fault Edge j) × Doubled t j)) → Misshapen t k
    go (inl l) = absurd (omega arith)
    go (inr (inl b)) = subst (Misshapen t) (sym (ap (λ x. x.place) b.1)) b.2
    go (inr (inr b)) = let z : ◌≡◌ {A = ℕ} 19 20 = ap (λ (x : Fault). number_of x.cause) b.1 in absurd (omega arith)

pub edge_only : (t : List ℕ) (k : ℕ) → Faulty t (fault Edge k) → Doubled t k
edge_only t k h = go (grounds t (fault Edge k) h)
  where
    go : Low (fault Edge k) ⊎ (((j : ℕ) × (fault Edge k ≡ fault Shape j) × Misshapen t j) ⊎ ((j : ℕ) × (fault Edge k ≡ fault Edge j) × Doubled t j)) → Doubled t k
    go (inl l) = absurd (omega arith)
    go (inr (inl b)) = let z : ◌≡◌ {A = ℕ} 20 19 = ap (λ (x : Fault). number_of x.cause) b.1 in absurd (omega arith)
    go (inr (inr b)) = subst (Doubled t) (sym (ap (λ x. x.place) b.1)) b.2
