-- One turn of each loop that reads, with the lexer's text and place as they stand before and after it.
use Rattle.std.proofs.Common.{◌≡◌, ℕ, ◌+◌, ◌-◌, ◌<◌, ◌≤◌, List, ◌++◌, length, take, drop, set, Ok, Err, sym, refl, ap, ◌∙◌, arith}
use Rattle.std.proofs.lemmas.List.{map-set, set-append_left, length-take-le, length-drop}
use borrow.Rule.Slice.PartMut.{put_mid, mid_of, post_of, put_same}
use Rattle.text.specs.declared.faults.Fault.{Fault}
use Rattle.plane.specs.declared.corner.Corner.{Corner}
use Rattle.plane.specs.Separation.{Point}
use Rattle.polygon.specs.Outs.{Filling, filled}
use Rattle.polygon.specs.Corners.{point, points, corner}
use Rattle.polygon.specs.Faces.{number, size, Facing, faced}
use Rattle.polygon.proofs.Fillings.{loop_ok, inside, filled_inside}
use Rattle.polygon.proofs.Facings.{loop_face, loop_unlisted}

pub corner_step : (t t1 : List ℕ) (total k at at1 : ℕ) (items rest : List Corner) (o : Filling Point) (c : Corner) (v : Point)
    → filled (corner t) (total - k) k at (points (items ++ rest)) ≡ o → k < total → k < length items → t1 ≡ t → at1 ≡ (corner t at).at → (corner t at).result ≡ Ok v → point c ≡ v
    → filled (corner t1) (total - (k + 1)) (k + 1) at1 (points (set items k c ++ rest)) ≡ o
corner_step t t1 total k at at1 items rest o c v is h here same stands e p =
    let written = ap points (sym (set-append_left items rest k c here)) ∙ map-set point (items ++ rest) k c ∙ ap (set (points (items ++ rest)) k) p in
    (λ i. filled (corner (same i)) (total - (k + 1)) (k + 1) (stands i) (written i))
    ∙ loop_ok (corner t) total k k at (points (items ++ rest)) o is h v e (k + 1) refl

pub number_step : (t t1 : List ℕ) (m total k at at1 : ℕ) (sp : List ℕ) (o : Filling ℕ) (v : ℕ)
    → filled (number t m) (total - k) k at sp ≡ o → k < total → t1 ≡ t → at1 ≡ (number t m at).at → (number t m at).result ≡ Ok v
    → filled (number t1 m) (total - (k + 1)) (k + 1) at1 (set sp k v) ≡ o
number_step t t1 m total k at at1 sp o v is h same stands e =
    (λ i. filled (number (same i) m) (total - (k + 1)) (k + 1) (stands i) (set sp k v))
    ∙ loop_ok (number t m) total k k at sp o is h v e (k + 1) refl

module _ (t t1 : List ℕ) (m total f used at at1 : ℕ) (items rest ns : List ℕ) (o : Facing) (c : ℕ) (is : faced t m (total - f) f used at (items ++ rest) ns ≡ o) (h : f < total) (here : f < length items) (e : (size t at).result ≡ Ok c) (same : t1 ≡ t) (stands : at1 ≡ (size t at).at) (room : used + c ≤ length ns) where
  abbrev row : Filling ℕ
  row = filled (number t1 m) c used at1 ns

  same_row : filled (number t m) c used (size t at).at ns ≡ row
  same_row i = filled (number (sym same i) m) c used (sym stands i) ns

  -- the places of the face alone
  abbrev k : ℕ
  k = used + c - used

  abbrev part : List ℕ
  part = mid_of used k ns

  abbrev pub cell : Filling ℕ
  cell = filled (number t1 m) (length part) 0 at1 part

  row_cell : row ≡ inside (number t1 m) (take used ns) (post_of used k ns) cell
  row_cell =
      let long : c ≡ length part = omega (arith, length-take-le k (drop used ns) (omega (arith, room, length-drop used ns))) in
      let start : used ≡ length (take used ns) + 0 = omega (arith, length-take-le used ns (omega (arith, room))) in
      (λ i. filled (number t1 m) (long i) (start i) at1 (sym (put_same used k ns) i)) ∙ filled_inside (number t1 m) (take used ns) (post_of used k ns) (length part) 0 at1 part (omega arith)

  pub face_step : (t2 : List ℕ) (at2 : ℕ) (places : List ℕ) → cell.result ≡ Ok tt → t2 ≡ t1 → at2 ≡ cell.at → places ≡ cell.space
      → faced t2 m (total - (f + 1)) (f + 1) (used + c) at2 (set items f c ++ rest) (put_mid used k ns places) ≡ o
  face_step t2 at2 places ok s a n =
      let at_row = a ∙ sym (ap (λ x. x.at) row_cell) in
      let in_row = ap (put_mid used k ns) n ∙ sym (ap (λ x. x.space) row_cell) in
      (λ i. faced ((s ∙ same) i) m (total - (f + 1)) (f + 1) (used + c) (at_row i) (sym (set-append_left items rest f c here) i) (in_row i))
      ∙ loop_face t m total f used at (items ++ rest) ns o is h c e (size t at).at refl row same_row (ap (λ x. x.result) row_cell ∙ ok)

  pub face_stop : (g : Fault) (at2 : ℕ) (places : List ℕ) → cell.result ≡ Err g → at2 ≡ cell.at → places ≡ cell.space
      → (Err g ≡ o.result) × (at2 ≡ o.at) × (items ++ rest ≡ o.sizes) × (put_mid used k ns places ≡ o.numbers)
  face_stop g at2 places bad a n =
      let q = loop_unlisted t m total f used at (items ++ rest) ns o is h c g e (size t at).at refl row same_row (ap (λ x. x.result) row_cell ∙ bad) in
      (q.0, a ∙ sym (ap (λ x. x.at) row_cell) ∙ q.1, q.2, ap (put_mid used k ns) n ∙ sym (ap (λ x. x.space) row_cell) ∙ q.3)
