-- Why a text is refused, and where, in the words of the OFF format. The text from the place p on is `drop p t`.
--   Headed t               t begins with OFF and white space
--   Misspelt s t p f       no number stands at the place p, with a sign where s lets one stand, and f is the fault that says so
--   Wrong g P t p f        f is the fault of the number at p: it is misspelt; or its value is not such as P says, a fault of ground g
--   WrongCoordinate most t p f
--                          the same of a coordinate, within ±most
--   WrongCorner t p f     the same of the corner at p, by its first number that is wrong
--   WrongFace c t p f     the same of the face at p, in a plan of c corners
--   Counted t c n p        t begins with the heading and the counts, c of corners and n of faces, within the limits, up to the place p
--   Cornered t c n ps p    and then with the corners ps, within the limits
--   Faced t c n fs p       and then with all c corners and the faces fs, within the limits
--   Faulty t f             f is the first fault of the text t in reading order, or else of the plan that it spells.
--                          bare: the heading ends the text. headless: it begins in any other way.
--                          corner_count, face_count, edge_count, corner, face: this is the first that is wrong.
--                          left_over: something stands behind the last face.
--                          bent: the first face that is not convex. twice: the first face with an edge that was used so before.
use Rattle.std.specs.Prelude.{◌≡◌, ℕ, ◌+◌, ◌<◌, ◌≤◌, Bool, true, false, List, [], ◌∷◌, length, drop, ℤ, Some, Err, ◌≢◌, unsigned_abs}
use Rattle.std.specs.List.{AllByRecursion}
use Rattle.text.specs.declared.faults.Fault.{Fault}
use Rattle.text.specs.declared.faults.Ground.{Ground}
use Rattle.text.specs.declared.faults.Ground.TheVariants.{Early, Heading, Limits, Over, Coordinate, Corner, Shape, Edge}
use Rattle.text.specs.Faults.{fault}
use Rattle.text.specs.Marks.{Found}
use Rattle.text.specs.Numerals.{Ends, Plain, Signed, Reads}
use Rattle.plane.specs.Limits.{PostAt}
use Rattle.plane.specs.Separation.{Point}
use Rattle.polygon.specs.Meshes.{Mesh, Face, Within, Shaped, Bent, Twice}
use Rattle.polygon.specs.Spelling.{Each, CornerSpelt, FaceSpelt, Spells}

abbrev pub Headed : List ℕ → Type 0
Headed t = (t ≡ 79 ∷ (70 ∷ (70 ∷ drop 3 t))) × Ends (drop 3 t) × (0 < length (drop 3 t))

abbrev pub Misspelt : Bool → List ℕ → ℕ → Fault → Type 0
Misspelt s t p f = (q : ℕ) × Reads s (length t) p (drop p t) (record { result = Err f; at = q })

pub data Wrong (g : Ground) (P : ℕ → Type 0) (t : List ℕ) (p : ℕ) (f : Fault) : Type 0 where
  misspelt : Misspelt false t p f → Wrong g P t p f
  off_limits : (v q : ℕ) (n : Plain (drop p t) v (drop q t)) → (P v → ⊥) → f ≡ fault g (p + length n.ws) → Wrong g P t p f

pub data WrongCoordinate (most : ℕ) (t : List ℕ) (p : ℕ) (f : Fault) : Type 0 where
  no_coordinate : Misspelt true t p f → WrongCoordinate most t p f
  too_far : (z : ℤ) (q : ℕ) (n : Signed (drop p t) z (drop q t)) → most < unsigned_abs z
      → f ≡ fault Coordinate (p + length n.ws) → WrongCoordinate most t p f

pub data WrongCorner (t : List ℕ) (p : ℕ) (f : Fault) : Type 0 where
  in_x : WrongCoordinate 10000 t p f → WrongCorner t p f
  in_y : (x : ℤ) (q : ℕ) → Signed (drop p t) x (drop q t) → unsigned_abs x ≤ 10000 → WrongCoordinate 10000 t q f → WrongCorner t p f
  in_z : (x : ℤ) (q : ℕ) → Signed (drop p t) x (drop q t) → unsigned_abs x ≤ 10000 → (y : ℤ) (r : ℕ)
      → Signed (drop q t) y (drop r t) → unsigned_abs y ≤ 10000 → WrongCoordinate 0 t r f → WrongCorner t p f

pub data WrongFace (c : ℕ) (t : List ℕ) (p : ℕ) (f : Fault) : Type 0 where
  in_size : Wrong Corner (λ v. (3 ≤ v) × (v ≤ 16)) t p f → WrongFace c t p f
  in_number : (s q : ℕ) → Plain (drop p t) s (drop q t) → (3 ≤ s) × (s ≤ 16)
      → (ns : List ℕ) (r : ℕ) → Each Plain (drop q t) ns (drop r t) → AllByRecursion (λ v. v < c) ns → length ns < s
      → Wrong Corner (λ v. v < c) t r f → WrongFace c t p f

pub record Counted (t : List ℕ) (c n p : ℕ) : Type 0 where
  pub headed : Headed t
  pub first : ℕ
  pub second : ℕ
  pub edges : ℕ
  pub corner_count : Plain (drop 3 t) c (drop first t)
  pub face_count : Plain (drop first t) n (drop second t)
  pub edge_count : Plain (drop second t) edges (drop p t)
  pub corners : (3 ≤ c) × (c ≤ 1024)
  pub faces : (1 ≤ n) × (n ≤ 256)

pub record Cornered (t : List ℕ) (c n : ℕ) (ps : List Point) (p : ℕ) : Type 0 where
  pub start : ℕ
  pub counted : Counted t c n start
  pub spelt : Each CornerSpelt (drop start t) ps (drop p t)
  pub posts : AllByRecursion PostAt ps

pub record Faced (t : List ℕ) (c n : ℕ) (fs : List (List ℕ)) (p : ℕ) : Type 0 where
  pub corners : List Point
  pub start : ℕ
  pub cornered : Cornered t c n corners start
  pub all : length corners ≡ c
  pub spelt : Each FaceSpelt (drop start t) fs (drop p t)
  pub faces : AllByRecursion (Face c) fs

pub data Faulty (t : List ℕ) (f : Fault) : Type 0 where
  bare : t ≡ 79 ∷ (70 ∷ (70 ∷ [])) → f ≡ fault Early (length t) → Faulty t f
  headless : (Headed t → ⊥) → (t ≢ 79 ∷ (70 ∷ (70 ∷ []))) → f ≡ fault Heading 0 → Faulty t f
  corner_count : Headed t → Wrong Limits (λ v. (3 ≤ v) × (v ≤ 1024)) t 3 f → Faulty t f
  face_count : Headed t → (c p : ℕ) → Plain (drop 3 t) c (drop p t) → (3 ≤ c) × (c ≤ 1024)
      → Wrong Limits (λ v. (1 ≤ v) × (v ≤ 256)) t p f → Faulty t f
  edge_count : Headed t → (c p : ℕ) → Plain (drop 3 t) c (drop p t) → (3 ≤ c) × (c ≤ 1024)
      → (n q : ℕ) → Plain (drop p t) n (drop q t) → (1 ≤ n) × (n ≤ 256) → Misspelt false t q f → Faulty t f
  corner : (c n : ℕ) (ps : List Point) (p : ℕ) → Cornered t c n ps p → length ps < c → WrongCorner t p f → Faulty t f
  face : (c n : ℕ) (fs : List (List ℕ)) (p : ℕ) → Faced t c n fs p → length fs < n → WrongFace c t p f → Faulty t f
  left_over : (c n : ℕ) (fs : List (List ℕ)) (p : ℕ) → Faced t c n fs p → length fs ≡ n
      → (b q next : ℕ) → Found t p (Some (b, q)) next → f ≡ fault Over q → Faulty t f
  bent : (m : Mesh) → Spells t m → Within m → (k : ℕ) → Bent m k → f ≡ fault Shape k → Faulty t f
  twice : (m : Mesh) → Spells t m → Within m → Shaped m → (k : ℕ) → Twice m k → f ≡ fault Edge k → Faulty t f
