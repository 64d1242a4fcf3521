-- How a text spells a plan, in the words of the OFF format. Each word relates bytes, what they spell, and the bytes behind that.
-- A number is Plain, or Signed where a minus sign may stand: white space, the sign, one to six decimal digits, and then white space
-- or the text's end.
--   Each One bs xs rest      bs spell the list xs, one element behind the other, each as One says
--   CornerSpelt bs p rest   a corner at the point p: its x, its y, and 0
--   FaceSpelt bs f rest     a face f: how many corners it has, and their numbers
--   Spells t m               the text t spells the plan m: the heading OFF and white space; how many corners, faces and edges there
--                            are; the corners; the faces; and then only white space. The count of edges may be any number
use Rattle.std.specs.Prelude.{◌≡◌, ℕ, List, [], ◌∷◌, length, pos}
use Rattle.std.specs.List.{AllByRecursion}
use Rattle.text.specs.Bytes.{White}
use Rattle.text.specs.Numerals.{Ends, Plain, Signed}
use Rattle.plane.specs.Separation.{Point}
use Rattle.polygon.specs.Meshes.{Mesh}

abbrev pub Each : {A : Type 0} → (List ℕ → A → List ℕ → Type 0) → List ℕ → List A → List ℕ → Type 0
Each One bs [] rest = bs ≡ rest
Each One bs (x ∷ xs) rest = (more : List ℕ) × One bs x more × Each One more xs rest

abbrev pub CornerSpelt : List ℕ → Point → List ℕ → Type 0
CornerSpelt bs p rest = (a b : List ℕ) × Signed bs p.0 a × Signed a p.1 b × Signed b (pos 0) rest

abbrev pub FaceSpelt : List ℕ → List ℕ → List ℕ → Type 0
FaceSpelt bs f rest = (more : List ℕ) × Plain bs (length f) more × Each Plain more f rest

pub record Spells (t : List ℕ) (m : Mesh) : Type 0 where
  pub body : List ℕ
  pub heading : t ≡ 79 ∷ (70 ∷ (70 ∷ body))
  pub space : Ends body
  pub after_corner_count : List ℕ
  pub corner_count : Plain body (length m.corners) after_corner_count
  pub after_face_count : List ℕ
  pub face_count : Plain after_corner_count (length m.faces) after_face_count
  pub edges : ℕ
  pub after_edge_count : List ℕ
  pub edge_count : Plain after_face_count edges after_edge_count
  pub after_corners : List ℕ
  pub corners : Each CornerSpelt after_edge_count m.corners after_corners
  pub after_faces : List ℕ
  pub faces : Each FaceSpelt after_corners m.faces after_faces
  pub over : AllByRecursion White after_faces
