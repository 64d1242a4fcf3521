-- What Memory answers from the line that it holds.
--   recalled h p   the held line h, where there is one and it separates the path p
--   kept h l       what is held after the stabber below answered l: its line, or else what was held before
use Rattle.std.specs.Prelude.{cond, ◌&&◌, List, Some, None, Option}
use Rattle.plane.specs.declared.line.Line.{Line}
use Rattle.plane.specs.declared.quad.Quad.{Quad}
use Rattle.plane.specs.Separation.{Coefficients}
use Rattle.plane.specs.Shapes.{coefficients}
use Rattle.plane.specs.StoredLine.{line_of}
use Rattle.plane.specs.Tests.{is_path, separates}

abbrev pub recalled : Option Line → List Quad → Option Coefficients
recalled None p = None
recalled (Some l) p = cond (is_path p && separates (coefficients l) p) (Some (coefficients l)) None

abbrev pub kept : Option Line → Option Coefficients → Option Line
kept h None = h
kept h (Some l) = line_of l
