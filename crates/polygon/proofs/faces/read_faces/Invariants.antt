-- What is left to read gives what the whole gives.
use Rattle.std.proofs.Common.{◌≡◌, ◌-◌, ◌*◌, ◌≤◌, ◌++◌, drop}
use Rattle.text.specs.Lexing.{text_of, at_of}
use Rattle.polygon.specs.Faces.{faced}
use Rattle.polygon.proofs.faces.read_faces.Given as goal

abbrev pub invariant-loop-place : goal.invariant-loop-place
invariant-loop-place l =
    (faced (text_of l.lexer) l.limit (l.total - l.place-index) l.place-index l.used (at_of l.lexer) (l.place-items ++ drop l.total l.fn.sizes) l.numbers
    ≡ faced (text_of l.initial.lexer) l.limit l.total 0 0 (at_of l.initial.lexer) l.fn.sizes l.initial.numbers)
    × (text_of l.lexer ≡ text_of l.initial.lexer)
    × (l.used ≤ 16 * l.place-index)
