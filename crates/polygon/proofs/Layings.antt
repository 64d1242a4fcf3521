-- The layout of a text: read where the text spells a plan within the limits, and only there.
use Rattle.std.proofs.Common.{◌≡◌, ℕ, ◌+◌, ◌<◌, ◌≤◌, Bool, true, false, cond, ltb, List, ◌∷◌, ◌++◌, map, length, drop, Some, None, Ok, Err, Option, Result, sym, refl, ap, ◌∙◌, subst, zero-add, arith}
use lib.Seq.{sets}
use Rattle.std.specs.List.{AllByRecursion}
use Rattle.std.proofs.ByRecursion.{All-drop}
use Rattle.std.proofs.lemmas.List.{drop_at, length-append}
use Rattle.std.proofs.lemmas.Bool.{cond-false, ltb-false, le-ltb}
use Rattle.text.specs.declared.faults.Fault.{Fault}
use Rattle.text.specs.declared.faults.Ground.TheVariants.{Limits}
use Rattle.text.specs.Bytes.{White}
use Rattle.text.specs.Faults.{fault}
use Rattle.text.specs.Lexing.{numbered}
use Rattle.text.specs.Marks.{marked, Found, left_over, over}
use Rattle.text.specs.Numerals.{Plain}
use Rattle.text.proofs.Marks.{finds}
use Rattle.text.proofs.Plain.{plain_reads, plain_read}
use Rattle.plane.specs.Limits.{PostAt}
use Rattle.plane.specs.Separation.{Point}
use Rattle.polygon.specs.declared.layout.Plan.{Plan}
use Rattle.polygon.specs.Corners.{corner}
use Rattle.polygon.specs.Faces.{faced}
use Rattle.polygon.specs.Headings.{headed}
use Rattle.polygon.specs.Layouts.{both, with_faces, with_corners, totals, Layout, refuses, ended, at_faces, at_corners, at_totals, at_heading, laid}
use Rattle.polygon.specs.Meshes.{Mesh, joined, Face, Within}
use Rattle.text.specs.Outs.{next}
use Rattle.polygon.specs.Outs.{filled}
use Rattle.polygon.specs.Refusals.{Headed, Counted}
use Rattle.polygon.specs.Spelling.{Each, CornerSpelt, FaceSpelt, Spells}
use Rattle.polygon.specs.Wholes.{whole}
use Rattle.polygon.proofs.Coordinates.{wholes, corners}
use Rattle.polygon.proofs.FacesSpelt.{faces_sound, faces_complete}
use Rattle.polygon.proofs.Readers.{no, next_was, fills_sound, fills_complete}
use Rattle.polygon.proofs.Starts.{headed_was, headed_reads}

-- what is left over
over_was : (t : List ℕ) (at : ℕ) → over t at ≡ Ok tt → AllByRecursion White (drop at t)
over_was t at = go (marked t at).found (marked t at).at (finds t at _ _ refl refl)
  where
    go : (r : Option (ℕ × ℕ)) (p : ℕ) → Found t at r p → left_over r ≡ Ok tt → AllByRecursion White (drop at t)
    go None p h e = h.0
    go (Some m) p h e = no e

over_is : (t : List ℕ) (at : ℕ) → AllByRecursion White (drop at t) → over t at ≡ Ok tt
over_is t at w = go (marked t at).found (marked t at).at (finds t at _ _ refl refl)
  where
    go : (r : Option (ℕ × ℕ)) (p : ℕ) → Found t at r p → left_over r ≡ Ok tt
    go None p h = refl
    go (Some m) p h =
        let all : AllByRecursion White (h.0 ++ (m.0 ∷ drop p t)) = subst (AllByRecursion White) h.1 w in
        let here : AllByRecursion White (m.0 ∷ drop p t) = subst (AllByRecursion White) (drop_at h.0 (m.0 ∷ drop p t) (length h.0) refl) (All-drop White (length h.0) (h.0 ++ (m.0 ∷ drop p t)) all) in
        absurd (h.3 here.0)

module _ (t : List ℕ) where
  pub totals_sound : Headed t → (n : ℕ × ℕ) → (totals t 3).result ≡ Ok n → Counted t n.0 n.1 (totals t 3).at
  totals_sound head n e =
      let a = next_was (whole t Limits 3 1025 3) (with_corners t) n e in
      let p = (whole t Limits 3 1025 3).at in
      let b = next_was (whole t Limits 1 257 p) (with_faces t a.0) n (ap (λ o. o.result) (sym a.2) ∙ e) in
      let q = (whole t Limits 1 257 p).at in
      let c = next_was (numbered false t q) (both a.0 b.0) n (ap (λ o. o.result) (sym (a.2 ∙ b.2)) ∙ e) in
      let r = (numbered false t q).at in
      let all = a.2 ∙ b.2 ∙ c.2 in
      let same : (a.0, b.0) ≡ n = cc (ap (λ o. o.result) (sym all) ∙ e) in
      let x = (wholes t Limits 3 1025).sound 3 a.0 a.1 in
      let y = (wholes t Limits 1 257).sound p b.0 b.1 in
      let z : Plain (drop q t) c.0.magnitude (drop r t) = plain_read t q c.0 r (λ i. record { result = c.1 i; at = r }) in
      let found : Counted t a.0 b.0 (totals t 3).at =
      record {
        headed = head;
        first = p;
        second = q;
        edges = c.0.magnitude;
        corner_count = x.0;
        face_count = y.0;
        edge_count = subst (λ k. Plain (drop q t) c.0.magnitude (drop k t)) (ap (λ o. o.at) (sym all)) z;
        corners = (x.1.0, omega (arith, x.1.1));
        faces = (y.1.0, omega (arith, y.1.1));
      }
      in
      subst (λ (k : ℕ × ℕ). Counted t k.0 k.1 (totals t 3).at) same found

  pub totals_complete : (at c f e : ℕ) (r1 r2 r3 : List ℕ) → Plain (drop at t) c r1 → Plain r1 f r2 → Plain r2 e r3 → (3 ≤ c) × (c ≤ 1024) → (1 ≤ f) × (f ≤ 256)
      → (p : ℕ) × (totals t at ≡ record { result = Ok (c, f); at = p }) × (drop p t ≡ r3)
  totals_complete at c f e r1 r2 r3 x y z l k =
      let a = (wholes t Limits 3 1025).complete at c r1 x (l.0, omega (arith, l.1)) in
      let b = (wholes t Limits 1 257).complete a.0 f r2 (subst (λ s. Plain s f r2) (sym a.2) y) (k.0, omega (arith, k.1)) in
      let z' : Plain (drop b.0 t) e r3 = subst (λ s. Plain s e r3) (sym b.2) z in
      let d = plain_reads t b.0 e r3 z' in
      (b.0 + length z'.ws + length z'.ds, ap (λ o. next o (with_corners t)) a.1 ∙ ap (λ o. next o (with_faces t c)) b.1 ∙ ap (λ o. next o (both c f)) d.0, d.1)

-- each layer of a layout that was read
module _ (t : List ℕ) (p : Plan) where
  heading_ok : (r : Result ℕ Fault) (ps : List Point) (ss ns : List ℕ) → (at_heading t r ps ss ns).result ≡ Ok p
      → (q : ℕ) × (r ≡ Ok q) × ((at_totals t (totals t q).result (totals t q).at ps ss ns).result ≡ Ok p)
  heading_ok (Ok q) ps ss ns e = (q, refl, e)
  heading_ok (Err f) ps ss ns e = no e

  totals_ok : (r : Result (ℕ × ℕ) Fault) (at : ℕ) (ps : List Point) (ss ns : List ℕ) → (at_totals t r at ps ss ns).result ≡ Ok p
      → (n : ℕ × ℕ) × (r ≡ Ok n) × ((at_corners t n (filled (corner t) n.0 0 at ps).result (filled (corner t) n.0 0 at ps).at (filled (corner t) n.0 0 at ps).space ss ns).result ≡ Ok p)
  totals_ok (Ok n) at ps ss ns e = (n, refl, e)
  totals_ok (Err f) at ps ss ns e = no e

  corners_ok : (n : ℕ × ℕ) (r : Result (Unit {0}) Fault) (at : ℕ) (ps : List Point) (ss ns : List ℕ) → (at_corners t n r at ps ss ns).result ≡ Ok p
      → (r ≡ Ok tt) × ((at_faces t n ps (faced t n.0 n.1 0 0 at ss ns).result (faced t n.0 n.1 0 0 at ss ns).at (faced t n.0 n.1 0 0 at ss ns).sizes (faced t n.0 n.1 0 0 at ss ns).numbers).result ≡ Ok p)
  corners_ok n (Ok u) at ps ss ns e = (refl, e)
  corners_ok n (Err f) at ps ss ns e = no e

  faces_ok : (n : ℕ × ℕ) (r : Result ℕ Fault) (at : ℕ) (ps : List Point) (ss ns : List ℕ) → (at_faces t n ps r at ss ns).result ≡ Ok p → (k : ℕ) × (r ≡ Ok k) × (over t at ≡ Ok tt)
  faces_ok n (Ok k) at ps ss ns e = (k, refl, ended_ok (record { corners = n.0; faces = n.1; edges = k }) (over t at) e)
    where
      ended_ok : (q : Plan) (r : Result (Unit {0}) Fault) → (ended q r ps ss ns).result ≡ Ok p → r ≡ Ok tt
      ended_ok q (Ok u) e = refl
      ended_ok q (Err f) e = no e
  faces_ok n (Err f) at ps ss ns e = no e

module _ (t : List ℕ) (ps : List Point) (ss ns : List ℕ) where
  behind_heading : (p : Plan) → headed t ≡ Ok 3 → (at_totals t (totals t 3).result (totals t 3).at ps ss ns).result ≡ Ok p → (m : Mesh) × Spells t m × Within m
  behind_heading p start e =
      let b = totals_ok t p (totals t 3).result (totals t 3).at ps ss ns e in
      let n = b.0 in
      let o = filled (corner t) n.0 0 (totals t 3).at ps in
      let c = corners_ok t p n o.result o.at o.space ss ns b.2 in
      let d = faces_ok t p n (faced t n.0 n.1 0 0 o.at ss ns).result (faced t n.0 n.1 0 0 o.at ss ns).at o.space _ _ c.1 in
      let head = (headed_was t 3 start).1 in
      let counts = totals_sound t head n b.1 in
      let cs = fills_sound t (corner t) CornerSpelt PostAt (corners t) n.0 0 (totals t 3).at ps c.0 in
      let fs = faces_sound t n.0 n.1 0 0 o.at ss ns d.0 d.1 in
      let many = sym cs.1 in
      let all = sym fs.1 in (
        record { corners = cs.0; faces = fs.0 },
        record {
          body = drop 3 t;
          after_corner_count = drop counts.first t;
          after_face_count = drop counts.second t;
          edges = counts.edges;
          after_edge_count = drop (totals t 3).at t;
          after_corners = drop o.at t;
          after_faces = drop (faced t n.0 n.1 0 0 o.at ss ns).at t;
          heading = head.0;
          space = head.1;
          corner_count = subst (λ v. Plain (drop 3 t) v (drop counts.first t)) many counts.corner_count;
          face_count = subst (λ v. Plain (drop counts.first t) v (drop counts.second t)) all counts.face_count;
          edge_count = counts.edge_count;
          corners = cs.2;
          faces = fs.2;
          over = over_was t _ d.2;
        },
        record {
          corners = (omega (arith, many, counts.corners), omega (arith, many, counts.corners));
          posts = cs.3;
          faces = (omega (arith, all, counts.faces), omega (arith, all, counts.faces));
          numbers = subst (λ v. AllByRecursion (Face v) fs.0) many fs.3;
        },
      )

  -- a text with a layout spells a plan within the limits
  pub laid_sound : (p : Plan) → (laid t ps ss ns).result ≡ Ok p → (length t ≤ 60000) × ((m : Mesh) × Spells t m × Within m)
  laid_sound p = go (ltb 60000 (length t)) refl
    where
      go : (b : Bool) → ltb 60000 (length t) ≡ b → (cond b (refuses (fault Limits 60000) ps ss ns) (at_heading t (headed t) ps ss ns)).result ≡ Ok p → (length t ≤ 60000) × ((m : Mesh) × Spells t m × Within m)
      go true is e = no e
      go false is e =
          let a = heading_ok t p (headed t) ps ss ns e in
          let three = (headed_was t a.0 a.1).0 in
          (ltb-false 60000 (length t) is, behind_heading p (a.1 ∙ ap Ok three) (ap (λ q. (at_totals t (totals t q).result (totals t q).at ps ss ns).result) (sym three) ∙ a.2))

  -- what the layout of a plan is
  abbrev pub layout_of : Mesh → Layout
  layout_of m =
      record {
        result = Ok (record { corners = length m.corners; faces = length m.faces; edges = length (joined m.faces) });
        corners = sets ps 0 m.corners;
        sizes = sets ss 0 (map length m.faces);
        numbers = sets ns 0 (joined m.faces);
      }

  pub laid_complete : (m : Mesh) → Spells t m → Within m → length t ≤ 60000 → laid t ps ss ns ≡ layout_of m
  laid_complete m h w few =
      let n : ℕ × ℕ = (length m.corners, length m.faces) in
      let some : 0 < length h.body = omega (arith, ap length h.corner_count.split, length-append h.corner_count.ws (h.corner_count.ds ++ h.after_corner_count), length-append h.corner_count.ds h.after_corner_count, h.corner_count.digits.1) in
      let start : headed t ≡ Ok 3 = ap headed h.heading ∙ headed_reads h.body h.space some in
      let count : Plain (drop 3 t) (length m.corners) h.after_corner_count = subst (λ s. Plain s (length m.corners) h.after_corner_count) (sym (ap (drop 3) h.heading)) h.corner_count in
      let a = totals_complete t 3 _ _ h.edges h.after_corner_count h.after_face_count h.after_edge_count count h.face_count h.edge_count w.corners w.faces in
      let b = fills_complete t (corner t) CornerSpelt PostAt (corners t) m.corners 0 a.0 ps h.after_corners (subst (λ s. Each CornerSpelt s m.corners h.after_corners) (sym a.2) h.corners) w.posts in
      let c = faces_complete t (length m.corners) m.faces 0 0 b.0 ss ns h.after_faces (subst (λ s. Each FaceSpelt s m.faces h.after_faces) (sym b.2) h.faces) w.numbers in
      let last = over_is t c.0 (subst (AllByRecursion White) (sym c.2) h.over) in
      cond-false (ltb 60000 (length t)) (refuses (fault Limits 60000) ps ss ns) (at_heading t (headed t) ps ss ns) (le-ltb 60000 (length t) few)
      ∙ ap (λ r. at_heading t r ps ss ns) start
      ∙ ap (λ o. at_totals t o.result o.at ps ss ns) a.1
      ∙ ap (λ o. at_corners t n o.result o.at o.space ss ns) b.1
      ∙ ap (λ o. at_faces t n (sets ps 0 m.corners) o.result o.at o.sizes o.numbers) c.1
      ∙ ap (λ r. ended (record { corners = n.0; faces = n.1; edges = 0 + length (joined m.faces) }) r (sets ps 0 m.corners) (sets ss 0 (map length m.faces)) (sets ns 0 (joined m.faces))) last
      ∙ ap (λ k. record { result = Ok (record { corners = n.0; faces = n.1; edges = k }); corners = sets ps 0 m.corners; sizes = sets ss 0 (map length m.faces); numbers = sets ns 0 (joined m.faces) }) (zero-add (length (joined m.faces)))
