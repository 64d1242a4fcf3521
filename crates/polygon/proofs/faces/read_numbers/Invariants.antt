-- What is left to read gives what the whole gives.
use Rattle.std.proofs.Common.{◌≡◌, ◌-◌, length}
use Rattle.text.specs.Lexing.{text_of, at_of}
use Rattle.polygon.specs.Faces.{number}
use Rattle.polygon.specs.Outs.{filled}
use Rattle.polygon.proofs.faces.read_numbers.Given as goal

abbrev pub invariant-loop-place : goal.invariant-loop-place
invariant-loop-place l =
    (filled (number (text_of l.lexer) l.limit) (length l.initial.places - l.place-index) l.place-index (at_of l.lexer) l.places
    ≡ filled (number (text_of l.initial.lexer) l.limit) (length l.initial.places) 0 (at_of l.initial.lexer) l.initial.places)
    × (text_of l.lexer ≡ text_of l.initial.lexer)
