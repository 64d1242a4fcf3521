-- What a witness call and a bitmap answer follows from the history.
use Rattle.std.proofs.Common.{◌≡◌, ℕ, ◌<◌, ◌≤◌, true, false, List, [], ◌∷◌, ◌++◌, length, take, drop, IfOk, Some, None, Ok, Err, Option, Result, sym, refl, ap, ◌∙◌, subst, ⊎_elim, arith, MatchResult}
use Rattle.std.proofs.lemmas.List.{drop_at}
use Rattle.std.proofs.lemmas.Bool.{cases_Bool, cond-false}
use Rattle.plane.specs.declared.quad.Quad.{Quad}
use Rattle.plane.specs.Limits.{Path}
use Rattle.plane.specs.Separation.{Coefficients, Stabbed}
use Rattle.visibility.specs.declared.refusal.Refusal.{Refusal}
use Rattle.visibility.specs.declared.refusal.Refusal.TheVariants.{NoSuchRoom, NotFilled, SameRoomTwice, SpaceTooShort, NoLine}
use Rattle.visibility.specs.declared.call.Call.{Call}
use Rattle.visibility.specs.declared.call.Call.TheVariants.{Fill, Shows, Shut, Open, Witness, Bitmap}
use Rattle.visibility.specs.declared.call.Answer.{Answer}
use Rattle.visibility.specs.declared.call.Answer.TheVariants.{Found, Written}
use Rattle.visibility.specs.declared.sightline.Sightline.{Sightline}
use Rattle.visibility.specs.Bitmaps.{every, heading, bitmap, no_bitmap, Pbm}
use Rattle.visibility.specs.Calls.{Answered}
use Rattle.visibility.specs.Histories.{shut_after, Current, Stands}
use Rattle.visibility.specs.Limits.{most_rooms}
use Rattle.visibility.specs.Replies.{Space, Replied, WitnessFound, WitnessAnswered, size, BitmapAnswered}
use Rattle.visibility.specs.Sets.{Numbers}
use Rattle.visibility.specs.States.{State, ByGround}
use Rattle.visibility.specs.Walks.{Lined}
use Rattle.visibility.specs.Witnesses.{FirstOf, no_witness, Witnessed}
use Rattle.visibility.specs.Worlds.{World, Inside}
use Rattle.visibility.proofs.Bitmaps.{every_all, every_not, bitmap_size, bitmap_short, bitmap_granted}
use Rattle.visibility.proofs.Grounds.{witness_missing, witness_same, witness_short, witness_free}
use Rattle.visibility.proofs.Histories.{answered, was_refused, was_granted, ok_of}
use Rattle.visibility.proofs.Paths.{walk_path, lined_true}

-- what is replied where no space is lent
pub no_space :
    (w : World) (h : List Call) (c : Call) (r : Result Answer Refusal) (ys : List ℕ)
    → length ys ≡ 0 → Replied false w h c r (record { doorways = []; bytes = [] }) (record { doorways = []; bytes = ys }) → Answered w h c r
no_space w h (Fill a) r ys e x = x.0
no_space w h (Shows a b) r ys e x = x.0
no_space w h (Shut k) r ys e x = x.0
no_space w h (Open k) r ys e x = x.0
no_space w h (Witness a b) r ys e x = x.0
no_space w h Bitmap r ys e x = subst (λ (zs : List ℕ). BitmapAnswered w h r [] zs) (nothing ys e) x.0
  where
    nothing : (zs : List ℕ) → length zs ≡ 0 → zs ≡ []
    nothing [] e = refl
    nothing (z ∷ zs) e = absurd (omega (arith, e))

-- what was refused kept the space
kept_by :
    {X Q : Type 0} (f : X → Answer) (P : X → Type 0) (r : Result X Refusal)
    → MatchResult r P (λ _. Q) → (e : Refusal) → answered f r ≡ Err e → Q
kept_by f P (Ok x) h e q = let z : ◌≡◌ {A = ℕ} 0 1 = cc in absurd (omega arith)
kept_by f P (Err x) h e q = h

module _ (w : World) (h : List Call) (s : State) (st : Stands w h s) where
  module _ (r : Result ℕ Refusal) (xs ys : List ℕ) (by : ByGround (no_bitmap w s (length xs)) r s s (λ n. n ≡ length (bitmap w.rooms s.shows))) (after : MatchResult r (λ n. ys ≡ bitmap w.rooms s.shows ++ drop n xs) (λ _. ys ≡ xs)) (format : IfOk r (λ n. Pbm w.rooms s.shows (take n ys))) where
    long : size w.rooms ≡ length (bitmap w.rooms s.shows)
    long = bitmap_size w.rooms w.rooms (length (heading w.rooms)) s.shows refl refl

    full : ((a : ℕ) → a < w.rooms → Current w h a) → every w.rooms s.filled ≡ true
    full cur = every_all w.rooms s.filled (λ x l. st.filled x l (cur x l))

    pub after_bitmap : BitmapAnswered w h (answered Written r) xs ys
    after_bitmap = record {
      unfilled = λ a l none_yet.
          let off : s.filled a ≡ false =
          ⊎_elim (λ (t : s.filled a ≡ true). absurd (none_yet (st.current a l t))) (λ (f : s.filled a ≡ false). f) (cases_Bool (s.filled a)) in
          ap (answered Written) (was_refused (no_bitmap w s (length xs)) r s s _ by NotFilled
          (cond-false (every w.rooms s.filled) _ _ (every_not w.rooms a s.filled l off))).0;
      short = λ cur l.
          ap (answered Written) (was_refused (no_bitmap w s (length xs)) r s s _ by SpaceTooShort
          (bitmap_short w s (length xs) (full cur) (omega (arith, long)))).0;
      done = λ cur l.
          let k = ok_of r _ (was_granted (no_bitmap w s (length xs)) r s s _ by (bitmap_granted w s (length xs) (full cur) (omega (arith, long)))) in
          let is = subst (λ (v : Result ℕ Refusal). MatchResult v (λ n. ys ≡ bitmap w.rooms s.shows ++ drop n xs) (λ _. ys ≡ xs)) k.1 after in (
            k.0,
            ap (answered Written) k.1,
            record {
              rows = s.shows;
              true_rows = λ a m. st.true_row a m (st.filled a m (cur a m));
              count = k.2 ∙ sym long;
              bitmap = subst (λ (v : Result ℕ Refusal). IfOk v (λ n. Pbm w.rooms s.shows (take n ys))) k.1 format;
              rest = ap (drop k.0) is ∙ drop_at (bitmap w.rooms s.shows) (drop k.0 xs) k.0 (sym k.2);
            },
          );
      kept = λ e q. kept_by Written _ r after e q;
    }

  module _ (inside : Inside w) (few : w.rooms ≤ most_rooms) (stabbed : (p : List Quad) → Path p → Stabbed p → w.lets p ≡ true) (sharp : (p : List Quad) → w.lets p ≡ true → Stabbed p) (a b : ℕ) (f : List Quad → Option Coefficients) (r : Result Sightline Refusal) (xs ys : List ℕ) (by : Witnessed w s.shut a b f (no_witness w a b (length xs)) r xs ys) where
    refused : (e : Refusal) → no_witness w a b (length xs) ≡ Some e → answered Found r ≡ Err e
    refused e q = ap (answered Found) (subst (λ (o : Option Refusal). Witnessed w s.shut a b f o r xs ys) q by).0

    granted : no_witness w a b (length xs) ≡ None → Witnessed w (shut_after w h) a b f None r xs ys
    granted q =
        subst (λ (z : Numbers). Witnessed w z a b f None r xs ys) st.shut
        (subst (λ (o : Option Refusal). Witnessed w s.shut a b f o r xs ys) q by)

    -- the first walk that is let through is the first that has a line
    first_lined : (ks : List ℕ) (p : List Quad) (z : Numbers) → FirstOf (λ q. w.lets q ≡ true) w z a b ks p → FirstOf Stabbed w z a b ks p
    first_lined ks p z k = record {
      walk = k.walk;
      all_open = k.all_open;
      has = sharp p k.has;
      first = λ js q g o l. k.first js q g o (stabbed q (walk_path w inside few a js b q g) l);
    }

    no_way : (z : Numbers) (v : Result Sightline Refusal) → Witnessed w z a b f None v xs ys → (Lined w z a b → ⊥) → answered Found v ≡ Err NoLine
    no_way z (Err e) g none_yet = ap Err g.0
    no_way z (Ok v) g none_yet =
        let k = first_lined g.doorways g.path z g.first_walk in
        absurd (none_yet (g.doorways, g.path, k.walk, k.all_open, k.has))

    a_way :
        (z : Numbers) (v : Result Sightline Refusal) → Witnessed w z a b f None v xs ys → Lined w z a b
        → (l : Sightline) × (answered Found v ≡ Ok (Found l)) × WitnessFound w z a b l xs ys
    a_way z (Err e) g some = absurd (g.1 (lined_true w inside few stabbed z a b some))
    a_way z (Ok v) g some = (
      v,
      refl,
      record {
        doorways = g.doorways;
        path = g.path;
        first_walk = first_lined g.doorways g.path z g.first_walk;
        separates = g.separates;
        count = g.count;
        written = g.written;
      },
    )

    space_kept : (o : Option Refusal) (v : Result Sightline Refusal) (z : Numbers) (e : Refusal) → Witnessed w z a b f o v xs ys → answered Found v ≡ Err e → ys ≡ xs
    space_kept (Some x) v z e g q = g.1
    space_kept None (Err x) z e g q = g.2
    space_kept None (Ok x) z e g q = let n : ◌≡◌ {A = ℕ} 0 1 = cc in absurd (omega arith)

    pub after_witness : WitnessAnswered w h a b (answered Found r) xs ys
    after_witness = record {
      missing = λ m. refused NoSuchRoom (witness_missing w a b (length xs) m);
      same_room = λ l m e. refused SameRoomTwice (witness_same w a b (length xs) l m e);
      short = λ l m ne q. refused SpaceTooShort (witness_short w a b (length xs) l m ne q);
      unlined = λ l m ne q none_yet. no_way (shut_after w h) r (granted (witness_free w a b (length xs) l m ne q)) none_yet;
      done = λ l m ne q some. a_way (shut_after w h) r (granted (witness_free w a b (length xs) l m ne q)) some;
      kept = λ e q. space_kept (no_witness w a b (length xs)) r s.shut e by q;
    }

-- all but a witness call is answered over a sharp stabber as over any
pub replied_sharp :
    (w : World) (h : List Call) (c : Call) (r : Result Answer Refusal) (s t : Space) → ((a b : ℕ) → c ≡ Witness a b → ⊥)
    → Replied false w h c r s t → Replied true w h c r s t
replied_sharp w h (Fill a) r s t other k = k
replied_sharp w h (Shows a b) r s t other k = k
replied_sharp w h (Shut x) r s t other k = k
replied_sharp w h (Open x) r s t other k = k
replied_sharp w h (Witness a b) r s t other k = absurd (other a b refl)
replied_sharp w h Bitmap r s t other k = k
