-- A row that is told of the walks from a room shows what the questions about them show.
use Rattle.std.proofs.Common.{◌≡◌, ℕ, ◌/◌, ◌<◌, Bool, true, false, cond, List, [], ◌∷◌, length, sym, refl, ap, ◌∙◌, subst, inl, inr}
use mathlib.Core.Path.{fun_ext}
use Rattle.std.proofs.lemmas.List.{length-set}
use Rattle.plane.specs.declared.quad.Quad.{Quad}
use Rattle.visibility.specs.declared.row.Row.{Row}
use Rattle.visibility.specs.Bits.{shown, marked}
use Rattle.visibility.specs.Orders.{In}
use Rattle.visibility.specs.Questions.{toured, asked_all, shown_all}
use Rattle.visibility.specs.Sets.{Numbers, with, only}
use Rattle.visibility.specs.Trips.{Trip}
use Rattle.visibility.specs.Walks.{Goes, Walk}
use Rattle.visibility.specs.Worlds.{World, Inside}
use Rattle.visibility.proofs.Bits.{shown_marked}
use Rattle.visibility.proofs.Steps.{follows_inside}

-- a walk leads to a room of the world
goes_inside :
    (w : World) → Inside w → (e : Numbers) (a : ℕ) (ks : List ℕ) (b : ℕ) (p : List Quad) → a < w.rooms → Goes w e a ks b p → b < w.rooms
goes_inside w inside e a [] b [] l g = subst (λ x. x < w.rooms) g l
goes_inside w inside e a [] b (q ∷ p) l g = absurd g
goes_inside w inside e a (k ∷ ks) b [] l g = absurd g
goes_inside w inside e a (k ∷ ks) b (q ∷ p) l g =
    goes_inside w inside (with e g.0) g.0 ks b p (follows_inside w e a k g.0 q inside g.1) g.2

pub walk_inside :
    (w : World) → Inside w → (a : ℕ) (ks : List ℕ) (b : ℕ) (p : List Quad) → a < w.rooms → Walk w a ks b p → b < w.rooms
walk_inside w inside a ks b p l g = goes_inside w inside (only a) a ks b p l g

module _ {S : Type 0} (lets : S → List Quad → Bool) (asked : S → List Quad → S) (steady : (s : S) (p q : List Quad) → lets (asked s p) q ≡ lets s q) where
  abbrev told : Row → S → Trip → Row
  told v s t = cond (lets s t.path) (record { bytes = marked v.bytes t.room }) v

  told_long : (v : Row) (b : Bool) (x : ℕ) → length (cond b (record { bytes = marked v.bytes x }) v).bytes ≡ length v.bytes
  told_long v true x = length-set v.bytes (x / 8) _
  told_long v false x = refl

  told_shown :
      (v : Row) (b : Bool) (x : ℕ) → x / 8 < length v.bytes
      → shown (cond b (record { bytes = marked v.bytes x }) v).bytes ≡ cond b (with (shown v.bytes) x) (shown v.bytes)
  told_shown v true x l = shown_marked v.bytes x l
  told_shown v false x l = refl

  pub toured_row :
      (w : World) (s : S) (v : Row) (ts : List Trip) → w.lets ≡ lets s → ((t : Trip) → In t ts → t.room / 8 < length v.bytes)
      → ((toured asked told (λ _. false) s v ts).0 ≡ asked_all asked s ts)
      × (shown (toured asked told (λ _. false) s v ts).1.bytes ≡ shown_all w (shown v.bytes) ts)
  toured_row w s v [] same low = (refl, refl)
  toured_row w s v (t ∷ ts) same low =
      let next = toured_row w (asked s t.path) (told v s t) ts (same ∙ sym (fun_ext (λ p. steady s t.path p)))
      (λ u m. subst (λ n. u.room / 8 < n) (sym (told_long v (lets s t.path) t.room)) (low u (inr m))) in (
        next.0,
        next.1 ∙ ap (λ (r : Numbers). shown_all w r ts)
            (told_shown v (lets s t.path) t.room (low t (inl refl))
            ∙ ap (λ (f : List Quad → Bool). cond (f t.path) (with (shown v.bytes) t.room) (shown v.bytes)) (sym same)),
      )
