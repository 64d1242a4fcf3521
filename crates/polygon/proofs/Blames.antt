-- Each refusal is the text's first fault.
use Rattle.std.proofs.Common.{◌≡◌, ℕ, ◌<◌, ◌≤◌, Bool, true, false, cond, ltb, ◌⊎◌, List, length, Some, None, Ok, Err, Option, Result, sym, refl, ap, ◌∙◌, inl, inr, arith}
use Rattle.std.proofs.lemmas.Bool.{ltb-true, ltb-false}
use Rattle.text.specs.declared.faults.Fault.{Fault}
use Rattle.text.specs.declared.faults.Ground.TheVariants.{Limits, Over}
use Rattle.text.specs.declared.lexing.Number.{Number}
use Rattle.text.specs.Faults.{fault}
use Rattle.text.specs.Lexing.{numbered}
use Rattle.text.specs.Marks.{marked, Found, over}
use Rattle.text.proofs.Marks.{finds}
use Rattle.plane.specs.Limits.{PostAt}
use Rattle.plane.specs.Separation.{Point}
use Rattle.polygon.specs.declared.layout.Plan.{Plan}
use Rattle.polygon.specs.Corners.{corner as read_corner}
use Rattle.polygon.specs.Faces.{Facing, faced}
use Rattle.polygon.specs.Headings.{headed}
use Rattle.text.specs.Marks as marks
use Rattle.polygon.specs.Layouts.{both, with_faces, with_corners, totals, refuses, ended, at_faces, at_corners, at_totals, at_heading, laid}
use Rattle.polygon.specs.Outs.{Filling, filled}
use Rattle.polygon.specs.Refusals.{Headed, Counted, Cornered, Faulty, bare, headless, corner_count, face_count, edge_count, corner, face, left_over}
use Rattle.polygon.specs.Spelling.{CornerSpelt}
use Rattle.polygon.specs.Wholes.{whole}
use Rattle.polygon.proofs.Coordinates.{wholes, corners}
use Rattle.polygon.proofs.FacesSpelt.{faces_sound}
use Rattle.polygon.proofs.Failures.{next_failed, unspelt, whole_wrong, corner_wrong, fills_failed, faces_failed}
use Rattle.polygon.proofs.Layings.{totals_sound}
use Rattle.polygon.proofs.Readers.{never, fills_sound}
use Rattle.polygon.proofs.Starts.{headed_was, Unheaded, headed_fault}

module _ (t : List ℕ) (f : Fault) where
  heading_blame : Unheaded t f → Faulty t f
  heading_blame (inl h) = bare h.0 h.1
  heading_blame (inr h) = headless h.0 h.1 h.2

  module _ (head : Headed t) where
    abbrev p : ℕ
    p = (whole t Limits 3 1025 3).at

    abbrev q : ℕ
    q = (whole t Limits 1 257 p).at

    edges_blame : (c n : ℕ) → (whole t Limits 3 1025 3).result ≡ Ok c → (whole t Limits 1 257 p).result ≡ Ok n → (numbered false t q).result ≡ Err f → Faulty t f
    edges_blame c n ec en e =
        let a = (wholes t Limits 3 1025).sound 3 c ec in
        let b = (wholes t Limits 1 257).sound p n en in
        edge_count head c p a.0 (a.1.0, omega (arith, a.1.1)) n q b.0 (b.1.0, omega (arith, b.1.1)) (unspelt false t q f e)

    totals_blame : (totals t 3).result ≡ Err f → Faulty t f
    totals_blame e = first (next_failed (whole t Limits 3 1025 3) (with_corners t) f e)
      where
        third : (c n : ℕ) → (whole t Limits 3 1025 3).result ≡ Ok c → (whole t Limits 1 257 p).result ≡ Ok n
            → ((numbered false t q).result ≡ Err f) ⊎ ((x : Number) × ((numbered false t q).result ≡ Ok x) × ((both c n x (numbered false t q).at).result ≡ Err f)) → Faulty t f
        third c n ec en (inl h) = edges_blame c n ec en h
        third c n ec en (inr h) = never h.2

        second : (c : ℕ) → (whole t Limits 3 1025 3).result ≡ Ok c → ((whole t Limits 1 257 p).result ≡ Err f) ⊎ ((n : ℕ) × ((whole t Limits 1 257 p).result ≡ Ok n) × ((with_faces t c n q).result ≡ Err f)) → Faulty t f
        second c ec (inl h) =
            let a = (wholes t Limits 3 1025).sound 3 c ec in
            face_count head c p a.0 (a.1.0, omega (arith, a.1.1)) (whole_wrong t Limits 1 257 p f (λ v. (1 ≤ v) × (v ≤ 256)) (λ v l. (l.0, omega (arith, l.1))) h)
        second c ec (inr h) = third c h.0 ec h.1 (next_failed (numbered false t q) (both c h.0) f h.2)

        first : ((whole t Limits 3 1025 3).result ≡ Err f) ⊎ ((c : ℕ) × ((whole t Limits 3 1025 3).result ≡ Ok c) × ((with_corners t c p).result ≡ Err f)) → Faulty t f
        first (inl h) = corner_count head (whole_wrong t Limits 3 1025 3 f (λ v. (3 ≤ v) × (v ≤ 1024)) (λ v l. (l.0, omega (arith, l.1))) h)
        first (inr h) = second h.0 h.1 (next_failed (whole t Limits 1 257 p) (with_faces t h.0) f h.2)

  module _ (n : ℕ × ℕ) (at : ℕ) (counted : Counted t n.0 n.1 at) (ps : List Point) (ss ns : List ℕ) where
    abbrev row : Filling Point
    row = filled (read_corner t) n.0 0 at ps

    corners_blame : row.result ≡ Err f → Faulty t f
    corners_blame e =
        let h = fills_failed t (read_corner t) CornerSpelt PostAt (corners t) n.0 0 at ps f e in
        corner n.0 n.1 h.xs h.place (record { start = at; counted = counted; spelt = h.spelt; posts = h.such }) h.early (corner_wrong t h.place f h.bad)

    module _ (ok : row.result ≡ Ok tt) where
      abbrev faces : Facing
      faces = faced t n.0 n.1 0 0 row.at ss ns

      -- all corners are spelt
      abbrev Rest : Type 0
      Rest = (cs : List Point) × (length cs ≡ n.0) × Cornered t n.0 n.1 cs row.at

      rest : Rest
      rest = let cs = fills_sound t (read_corner t) CornerSpelt PostAt (corners t) n.0 0 at ps ok in (cs.0, cs.1, record { start = at; counted = counted; spelt = cs.2; posts = cs.3 })

      faces_blame : faces.result ≡ Err f → Faulty t f
      faces_blame e =
          let r = rest in
          let h = faces_failed t n.0 n.1 0 0 row.at ss ns f e in
          face n.0 n.1 h.fs h.place (record { corners = r.0; start = row.at; cornered = r.2; all = r.1; spelt = h.spelt; faces = h.such }) h.early h.bad

      over_blame : (k : ℕ) → faces.result ≡ Ok k → over t faces.at ≡ Err f → Faulty t f
      over_blame k ok' = go (marked t faces.at).found (marked t faces.at).at (finds t faces.at _ _ refl refl)
        where
          go : (r : Option (ℕ × ℕ)) (next : ℕ) → Found t faces.at r next → marks.left_over r ≡ Err f → Faulty t f
          go None next h e = never e
          go (Some m) next h e =
              let r = rest in
              let fs = faces_sound t n.0 n.1 0 0 row.at ss ns k ok' in
              let same : f ≡ fault Over m.1 = cc in
              left_over n.0 n.1 fs.0 faces.at (record { corners = r.0; start = row.at; cornered = r.2; all = r.1; spelt = fs.2; faces = fs.3 }) fs.1 m.0 m.1 next h same

      ended_blame : (k : ℕ) → faces.result ≡ Ok k → (x : Plan) (r : Result (Unit {0}) Fault) → over t faces.at ≡ r → (ps' : List Point) (ss' ns' : List ℕ) → (ended x r ps' ss' ns').result ≡ Err f → Faulty t f
      ended_blame k ok' x (Ok u) is ps' ss' ns' e = never e
      ended_blame k ok' x (Err g) is ps' ss' ns' e = let same : g ≡ f = cc in over_blame k ok' (is ∙ ap Err same)

      at_faces_blame : (r : Result ℕ Fault) → faces.result ≡ r → (at_faces t n row.space r faces.at faces.sizes faces.numbers).result ≡ Err f → Faulty t f
      at_faces_blame (Ok k) is e = ended_blame k is _ (over t faces.at) refl row.space faces.sizes faces.numbers e
      at_faces_blame (Err g) is e = let same : g ≡ f = cc in faces_blame (is ∙ ap Err same)

    at_corners_blame : (r : Result (Unit {0}) Fault) → row.result ≡ r → (at_corners t n r row.at row.space ss ns).result ≡ Err f → Faulty t f
    at_corners_blame (Ok u) is e = at_faces_blame is (faced t n.0 n.1 0 0 row.at ss ns).result refl e
    at_corners_blame (Err g) is e = let same : g ≡ f = cc in corners_blame (is ∙ ap Err same)

  module _ (ps : List Point) (ss ns : List ℕ) where
    at_totals_blame : Headed t → (r : Result (ℕ × ℕ) Fault) → (totals t 3).result ≡ r → (at_totals t r (totals t 3).at ps ss ns).result ≡ Err f → Faulty t f
    at_totals_blame head (Ok n) is e = at_corners_blame n (totals t 3).at (totals_sound t head n is) ps ss ns (filled (read_corner t) n.0 0 (totals t 3).at ps).result refl e
    at_totals_blame head (Err g) is e = let same : g ≡ f = cc in totals_blame head (is ∙ ap Err same)

    at_heading_blame : (r : Result ℕ Fault) → headed t ≡ r → (at_heading t r ps ss ns).result ≡ Err f → Faulty t f
    at_heading_blame (Ok k) is e =
        let h = headed_was t k is in
        at_totals_blame h.1 (totals t 3).result refl (ap (λ x. (at_totals t (totals t x).result (totals t x).at ps ss ns).result) (sym h.0) ∙ e)
    at_heading_blame (Err g) is e = let same : g ≡ f = cc in heading_blame (headed_fault t f (is ∙ ap Err same))

    pub laid_blame : (laid t ps ss ns).result ≡ Err f → ((60000 < length t) × (f ≡ fault Limits 60000)) ⊎ ((length t ≤ 60000) × Faulty t f)
    laid_blame = limit (ltb 60000 (length t)) refl
      where
        limit : (b : Bool) → ltb 60000 (length t) ≡ b → (cond b (refuses (fault Limits 60000) ps ss ns) (at_heading t (headed t) ps ss ns)).result ≡ Err f → ((60000 < length t) × (f ≡ fault Limits 60000)) ⊎ ((length t ≤ 60000) × Faulty t f)
        limit true is e = inl (ltb-true 60000 (length t) is, let same : f ≡ fault Limits 60000 = cc in same)
        limit false is e = inr (ltb-false 60000 (length t) is, at_heading_blame (headed t) refl e)
