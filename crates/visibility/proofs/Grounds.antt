-- On which grounds a witness call is refused.
use Rattle.std.proofs.Common.{◌≡◌, ℕ, ◌+◌, ◌<◌, ◌≤◌, cond, eqb, ltb, ◌⊎◌, List, length, Some, None, Ok, Option, sym, ap, ◌∙◌, subst, ⊎_elim, ◌++◌, drop}
use Rattle.std.proofs.lemmas.Bool.{lt-ltb, le-ltb, eq-eqb, ne_eqb, cond-true, cond-false, cases_lt}
use Rattle.plane.specs.declared.quad.Quad.{Quad}
use Rattle.plane.specs.Limits.{InLimits}
use Rattle.plane.specs.Separation.{Coefficients, Proper, Separates}
use Rattle.visibility.specs.declared.refusal.Refusal.{Refusal}
use Rattle.visibility.specs.declared.refusal.Refusal.TheVariants.{NoSuchRoom, SameRoomTwice, SpaceTooShort}
use Rattle.visibility.specs.declared.quest.Found.{Found}
use Rattle.visibility.specs.Sets.{Numbers}
use Rattle.visibility.specs.Witnesses.{no_witness, Told, Witnessed}
use Rattle.visibility.specs.Worlds.{World}

module _ (w : World) (a b n : ℕ) where
  pub witness_missing : (w.rooms ≤ a) ⊎ (w.rooms ≤ b) → no_witness w a b n ≡ Some NoSuchRoom
  witness_missing =
      ⊎_elim
      (λ (past : w.rooms ≤ a). cond-false (ltb a w.rooms) _ _ (le-ltb a w.rooms past))
      (λ (past : w.rooms ≤ b).
      ⊎_elim
      (λ (l : a < w.rooms).
      cond-true (ltb a w.rooms) _ _ (lt-ltb a w.rooms l) ∙ cond-false (ltb b w.rooms) _ _ (le-ltb b w.rooms past))
      (λ (m : w.rooms ≤ a). cond-false (ltb a w.rooms) _ _ (le-ltb a w.rooms m))
      (cases_lt a w.rooms))

  module _ (l : a < w.rooms) (m : b < w.rooms) where
    rooms_there :
        no_witness w a b n ≡ cond (eqb a b) (Some SameRoomTwice) (cond (ltb (n + 1) w.rooms) (Some SpaceTooShort) None)
    rooms_there =
        cond-true (ltb a w.rooms) _ _ (lt-ltb a w.rooms l) ∙ cond-true (ltb b w.rooms) _ _ (lt-ltb b w.rooms m)

    pub witness_same : a ≡ b → no_witness w a b n ≡ Some SameRoomTwice
    witness_same e = rooms_there ∙ cond-true (eqb a b) _ _ (eq-eqb a b e)

    module _ (ne : a ≡ b → ⊥) where
      pub witness_short : n + 1 < w.rooms → no_witness w a b n ≡ Some SpaceTooShort
      witness_short s =
          rooms_there ∙ cond-false (eqb a b) _ _ (ne_eqb a b ne) ∙ cond-true (ltb (n + 1) w.rooms) _ _ (lt-ltb (n + 1) w.rooms s)

      pub witness_free : w.rooms ≤ n + 1 → no_witness w a b n ≡ None
      witness_free s =
          rooms_there ∙ cond-false (eqb a b) _ _ (ne_eqb a b ne) ∙ cond-false (ltb (n + 1) w.rooms) _ _ (le-ltb (n + 1) w.rooms s)

module _ (w : World) (shut : Numbers) (a b : ℕ) (f : List Quad → Option Coefficients) (o : Option Refusal) (xs : List ℕ) where
  pub witness_found :
      (u : Found) (n : ℕ) (ys : List ℕ) → o ≡ None → Told w shut a b f (Some u)
      → ((p : List Quad) → f p ≡ Some u.line → Proper u.line × InLimits u.line × Separates u.line p)
      → n ≡ length u.doors.items → ys ≡ u.doors.items ++ drop n xs
      → Witnessed w shut a b f o (Ok (record { line = u.line; doorways = n })) xs ys
  witness_found u n ys h t separates count e =
      subst (λ (g : Option Refusal). Witnessed w shut a b f g (Ok (record { line = u.line; doorways = n })) xs ys) (sym h) (record {
        doorways = u.doors.items;
        path = t.0;
        first_walk = t.1;
        line = t.2;
        separates = separates t.0 t.2;
        count = count;
        written = e ∙ ap (λ (j : ℕ). u.doors.items ++ drop j xs) count;
      })
