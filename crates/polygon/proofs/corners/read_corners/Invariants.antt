-- What is left to read gives what the whole gives.
use Rattle.std.proofs.Common.{◌≡◌, ◌-◌, ◌++◌, drop}
use Rattle.text.specs.Lexing.{text_of, at_of}
use Rattle.polygon.specs.Corners.{points, corner}
use Rattle.polygon.specs.Outs.{filled}
use Rattle.polygon.proofs.corners.read_corners.Given as goal

abbrev pub invariant-loop-place : goal.invariant-loop-place
invariant-loop-place l =
    (filled (corner (text_of l.lexer)) (l.total - l.place-index) l.place-index (at_of l.lexer) (points (l.place-items ++ drop l.total l.fn.space))
    ≡ filled (corner (text_of l.initial.lexer)) l.total 0 (at_of l.initial.lexer) (points l.fn.space))
    × (text_of l.lexer ≡ text_of l.initial.lexer)
