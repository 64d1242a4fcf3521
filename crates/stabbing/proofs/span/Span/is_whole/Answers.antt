use Rattle.std.proofs.Common.{pos, ◌⊎◌, ◌<ℤ◌, ◌≤ℤ◌, sym, ◌∙◌, inl, inr}
use Rattle.std.proofs.lemmas.Bool.{false≢true}
use Rattle.plane.specs.Separation.{Coefficients, Proper}
use Rattle.stabbing.specs.Arrows.{rise, turn, vector}
use Rattle.stabbing.specs.Spans.{Fits}
use Rattle.stabbing.proofs.HalfPlanes.{in_no_half_plane}
use Rattle.stabbing.proofs.span.Span.is_whole.Goals.{Then-has_left-2, then-has_left, else-has_left}
use Rattle.stabbing.proofs.span.Span.is_whole.Goals as goal

-- arrows on both sides of the first leave no line where they go round, or where some arrow is against the first
whole : (c : Then-has_left-2) (l : Coefficients) → Proper l → Fits l c.args.self.now →
    (pos 0 <ℤ turn (vector c.args.self.now.left) (vector c.args.self.now.right)) ⊎ (rise l (vector c.args.self.now.first) ≤ℤ pos 0) → ⊥
whole c l proper fits third =
    let s = c.args.self.now in
    elim c.if-has_left.branch [
      | then-has_left w ↦
          in_no_half_plane l (vector s.first) (vector s.left) (vector s.right) proper (c.has_left.ensures.0 w.if-has_left.true)
          (w.has_left-then-has_left.ensures.0 (sym w.value-is ∙ c.if-has_left-2.true)) third fits.0 fits.1 fits.2
      | else-has_left w ↦ absurd (false≢true (sym w.if-has_left.false ∙ sym w.value-is ∙ c.if-has_left-2.true))
    ]

pub returns-then-self : goal.returns-then-self
returns-then-self c pinned l proper fits = whole (goal.at.returns-then-self c).Then-has_left-2 l proper fits (inr (fits.3 pinned))

pub returns-else-self : goal.returns-else-self
returns-else-self c around l proper fits =
    whole (goal.at.returns-else-self c).Then-has_left-2 l proper fits (inl (c.has_left-else-self.ensures.0 around))
