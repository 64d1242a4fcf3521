-- The code's shapes as points and numbers.
--   place p          the point at which the post p stands
--   coefficients l   the numbers (a, b, c) of the line l
use Rattle.plane.specs.declared.line.Line.{Line}
use Rattle.plane.specs.declared.post.Post.{Post}
use Rattle.plane.specs.Separation.{Point, Coefficients}

abbrev pub place : Post → Point
place p = (p.x, p.y)

abbrev pub coefficients : Line → Coefficients
coefficients l = (l.a, l.b, l.c)
