-- One turn of the scan of a text, by what it told.
use Rattle.std.proofs.Common.{◌≡◌, ℕ, ◌+◌, Bool, List, length, drop, Some, None, Ok, Err, sym, ap, ◌∙◌, arith}
use Rattle.std.specs.List.{slice_get}
use Rattle.std.proofs.lemmas.List.{at_drop_more, at_drop_all}
use Rattle.std.proofs.lemmas.Option.{get_or_from_slice_get, slice_get_within}
use Rattle.text.specs.declared.faults.Fault.{Fault}
use Rattle.text.specs.declared.lexing.Number.{Number}
use Rattle.text.specs.declared.lexing.State.{State}
use Rattle.text.specs.Bytes.{class}
use Rattle.text.specs.Turns.{Turn, on, ended, bad, turn, told, state_after, at_after}
use Rattle.text.specs.Lexing.{Out, scanned, finished}
use Rattle.text.proofs.Spans.{none_past}

-- what follows a turn
abbrev pub follows : Bool → ℕ → ℕ → List ℕ → Turn → Out Number
follows s len at bs t = elim t [ on new ↦ scanned s len (at + 1) new bs | ended n ↦ record { result = Ok n; at = at } | bad f ↦ record { result = Err f; at = at } ]

module _ (s : Bool) (text : List ℕ) (at : ℕ) (st : State) (o : Out Number) (is : scanned s (length text) at st (drop at text) ≡ o) where
  pub scan_end : slice_get text at ≡ None → (finished (length text) st ≡ o.result) × (at ≡ o.at)
  scan_end none = let e = sym (at_drop_all (scanned s (length text) at st) text at (none_past text at none)) ∙ is in (ap (λ x. x.result) e, ap (λ x. x.at) e)

  module _ (b : ℕ) (byte : slice_get text at ≡ Some b) where
    scan_byte : follows s (length text) at (drop (at + 1) text) (turn s at st (class b)) ≡ o
    scan_byte =
        ap (λ x. follows s (length text) at (drop (at + 1) text) (turn s at st (class x))) (sym (get_or_from_slice_get text at b 0 byte))
        ∙ sym (at_drop_more (scanned s (length text) at st) text at 0 (slice_get_within text at b byte)) ∙ is

    pub scan_on : told (turn s at st (class b)) ≡ Ok None → scanned s (length text) (at_after at (turn s at st (class b))) (state_after st (turn s at st (class b))) (drop (at_after at (turn s at st (class b))) text) ≡ o
    scan_on = go (turn s at st (class b)) scan_byte
      where
        go : (t : Turn) → follows s (length text) at (drop (at + 1) text) t ≡ o → told t ≡ Ok None → scanned s (length text) (at_after at t) (state_after st t) (drop (at_after at t) text) ≡ o
        go (on new) p q = p
        go (ended n) p q = let z : ◌≡◌ {A = ℕ} 0 1 = cc in absurd (omega arith)
        go (bad f) p q = let z : ◌≡◌ {A = ℕ} 0 1 = cc in absurd (omega arith)

    pub scan_ended : (n : Number) → told (turn s at st (class b)) ≡ Ok (Some n) → (Ok n ≡ o.result) × (at_after at (turn s at st (class b)) ≡ o.at)
    scan_ended n = go (turn s at st (class b)) scan_byte
      where
        go : (t : Turn) → follows s (length text) at (drop (at + 1) text) t ≡ o → told t ≡ Ok (Some n) → (Ok n ≡ o.result) × (at_after at t ≡ o.at)
        go (on new) p q = let z : ◌≡◌ {A = ℕ} 0 1 = cc in absurd (omega arith)
        go (ended m) p q = let z : m ≡ n = cc in (ap Ok (sym z) ∙ ap (λ x. x.result) p, ap (λ x. x.at) p)
        go (bad f) p q = let z : ◌≡◌ {A = ℕ} 0 1 = cc in absurd (omega arith)

    pub scan_bad : (f : Fault) → told (turn s at st (class b)) ≡ Err f → (Err f ≡ o.result) × (at_after at (turn s at st (class b)) ≡ o.at)
    scan_bad f = go (turn s at st (class b)) scan_byte
      where
        go : (t : Turn) → follows s (length text) at (drop (at + 1) text) t ≡ o → told t ≡ Err f → (Err f ≡ o.result) × (at_after at t ≡ o.at)
        go (on new) p q = let z : ◌≡◌ {A = ℕ} 0 1 = cc in absurd (omega arith)
        go (ended m) p q = let z : ◌≡◌ {A = ℕ} 0 1 = cc in absurd (omega arith)
        go (bad g) p q = let z : g ≡ f = cc in (ap Err (sym z) ∙ ap (λ x. x.result) p, ap (λ x. x.at) p)
