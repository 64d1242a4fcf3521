-- A true row as bytes, and the first walk to a room, by computing the questions of the search.
--   clear n      n bytes of 0
--   questions    the questions of the search from a
--   start n      a row of n bytes that shows a alone
--   told v s t   the row v after the question t, which marks the room of a walk that is let through
--   row_of n     the n bytes that the search leaves
use Rattle.std.proofs.Common.{◌≡◌, ℕ, ◌/◌, ◌<◌, true, false, cond, List, [], length, replicate, Some, sym, refl, ap, ◌∙◌, subst}
use Rattle.std.proofs.lemmas.Bool.{true≢false}
use Rattle.plane.specs.First.{first}
use Rattle.plane.specs.Separation.{Coefficients}
use Rattle.stabbing.specs.Exact.{exact_line}
use Rattle.visibility.specs.declared.row.Row.{Row}
use Rattle.visibility.specs.Bits.{shown, marked}
use Rattle.visibility.specs.Orders.{InOrder}
use Rattle.visibility.specs.Questions.{due, shown_all, toured}
use Rattle.visibility.specs.Sets.{Numbers, none, only, with, number, Exactly}
use Rattle.visibility.specs.Trips.{Trip}
use Rattle.visibility.specs.Walks.{TrueRow}
use Rattle.visibility.specs.Witnesses.{leads}
use Rattle.visibility.specs.Worlds.{World, Inside, Lawful}
use Rattle.visibility.proofs.Bits.{shown_marked, shown_zeros}
use Rattle.visibility.proofs.Fillings.{toured_row, walk_inside}
use Rattle.visibility.proofs.Orders.{in_order}
use Rattle.visibility.proofs.TrueRows.{shown_true, true_shown}
use Rattle.visibility.proofs.Witnessed.{first_walk}
use Rattle.worked.specs.Cases.{RowIs, LineIs, NoLine}

abbrev pub clear : ℕ → List ℕ
clear n = replicate n 0

module _ (w : World) (shut : Numbers) (a : ℕ) where
  abbrev pub questions : List Trip
  questions = due w shut (only a) a [] []

  abbrev start : ℕ → Row
  start n = record { bytes = marked (clear n) a }

  abbrev told : Row → Unit {0} → Trip → Row
  told v s t = cond (w.lets t.path) (record { bytes = marked v.bytes t.room }) v

  abbrev pub row_of : ℕ → List ℕ
  row_of n = (toured {S = Unit {0}} {V = Row} (λ s _. s) told (λ _. false) tt (start n) questions).1.bytes

  module _ (inside : Inside w) (lawful : Lawful w) (empty : w.lets [] ≡ true) (n : ℕ) (low : a < w.rooms) (room : (x : ℕ) → x < w.rooms → x / 8 < length (marked (clear n) a)) where
    pub order : InOrder w shut a questions
    order = in_order w shut inside lawful empty a

    row_shown : a / 8 < length (clear n) → shown (row_of n) ≡ shown_all w (with none a) questions
    row_shown has =
        (toured_row {S = Unit {0}} (λ _. w.lets) (λ s _. s) (λ _ _ _. refl) w tt (start n) questions refl
        (λ t m. let d = order.due t m in room t.room (walk_inside w inside a t.doors t.room t.path low d.walk))).1
        ∙ ap (λ (r : Numbers). shown_all w r questions) (shown_marked (clear n) a has ∙ ap (λ (r : Numbers). with r a) (shown_zeros n))

    row_exactly : a / 8 < length (clear n) → Exactly (shown (row_of n)) (TrueRow w shut a)
    row_exactly has x = (
      (λ h. shown_true w inside lawful shut a x [] empty (sym (ap (λ (r : Numbers). r x) (row_shown has)) ∙ h)),
      (λ t. ap (λ (r : Numbers). r x) (row_shown has) ∙ true_shown w inside lawful shut a x [] t),
    )

    -- what the search leaves is the row
    pub row_is :
        (bs : List ℕ) (c : ℕ) → a / 8 < length (clear n) → row_of n ≡ bs → number w.rooms (shown bs) ≡ c → RowIs w shut a bs c
    row_is bs c has e count = (subst (λ (xs : List ℕ). Exactly (shown xs) (TrueRow w shut a)) e (row_exactly has), count)

    -- the first question that leads to b is the first walk
    pub line_is :
        (b : ℕ) (t : Trip) (l : Coefficients) → (a ≡ b → ⊥) → first (leads w b) questions ≡ Some t → exact_line t.path ≡ Some l
        → LineIs w shut a b t.doors l
    line_is b t l apart found its = (t.path, first_walk w lawful shut a b apart questions order t found, its)

-- a room that a row does not show is not in it
pub not_shown :
    (w : World) (shut : Numbers) (a b : ℕ) (bs : List ℕ) (c : ℕ) → RowIs w shut a bs c → shown bs b ≡ false → NoLine w shut a b
not_shown w shut a b bs c row dark t = true≢false (sym ((row.0 b).1 t) ∙ dark)
