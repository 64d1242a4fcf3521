-- What is left to read gives what the whole gives.
use Rattle.std.proofs.Common.{◌≡◌, ◌-◌, length}
use Rattle.text.specs.Turns.{Sound}
use Rattle.text.specs.Lexing.{text_of, at_of, state_of, rest_of}
use Rattle.text.proofs.lexing.Lexer.scan.Given as goal

abbrev pub invariant-loop-b : goal.invariant-loop-b
invariant-loop-b l =
    (rest_of l.signed l.self ≡ rest_of l.signed l.initial.self) × (text_of l.self ≡ text_of l.initial.self) × Sound (state_of l.self)

abbrev pub decreases-loop-b : goal.decreases-loop-b
decreases-loop-b l = length (text_of l.self) - at_of l.self
