-- What is left to paint gives what the whole gives; behind the pixels the space stays.
use Rattle.std.proofs.Common.{◌≡◌, ◌-◌, ◌++◌, drop}
use Rattle.text.specs.Lexing.{text_of, at_of}
use Rattle.grid.specs.Sizes.{area}
use Rattle.grid.specs.Pixels.{painted}
use Rattle.grid.proofs.pixels.paint.Given as goal

abbrev pub invariant-loop-k : goal.invariant-loop-k
invariant-loop-k l =
    (painted (text_of l.lexer) l.size (area l.size - l.k) l.k (at_of l.lexer) (l.pixel-items ++ drop (area l.size) l.fn.space)
    ≡ painted (text_of l.fn.lexer) l.size (area l.size) 0 (at_of l.fn.lexer) l.fn.space)
    × (text_of l.lexer ≡ text_of l.fn.lexer)
