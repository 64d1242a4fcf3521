-- What is left to look through gives what the whole gives.
use Rattle.std.proofs.Common.{◌≡◌, ◌-◌, length}
use Rattle.text.specs.Lexing.{text_of, at_of, state_of}
use Rattle.text.specs.Marks.{marked}
use Rattle.text.proofs.lexing.Lexer.mark.Given as goal

abbrev pub invariant-loop-b : goal.invariant-loop-b
invariant-loop-b l =
    (marked (text_of l.self) (at_of l.self) ≡ marked (text_of l.initial.self) (at_of l.initial.self))
    × (text_of l.self ≡ text_of l.initial.self)
    × (state_of l.self ≡ state_of l.initial.self)

abbrev pub decreases-loop-b : goal.decreases-loop-b
decreases-loop-b l = length (text_of l.self) - at_of l.self
