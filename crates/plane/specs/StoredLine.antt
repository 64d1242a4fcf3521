-- The line that is stored for three numbers.
--   is_line l        whether the numbers l are a line within the limits
--   line_of l        the line with the numbers l, where they are one
--   line_with l t    that line, by the evidence t that they are one
--   where_true t f   what f gives, where the test t holds
use Rattle.std.specs.Prelude.{◌+◌, Bool, true, false, ◌&&◌, T, Some, None, Option, nat_le, nat_lt, unsigned_abs}
use Rattle.std.proofs.Common.{leb→le, ltb→lt}
use Rattle.plane.specs.declared.line.Line.{Line}
use Rattle.plane.specs.Separation.{Coefficients}

abbrev pub is_line : Coefficients → Bool
is_line l =
    nat_le (unsigned_abs l.0) 20000
    && (nat_le (unsigned_abs l.1) 20000 && (nat_le (unsigned_abs l.2) 200000000 && nat_lt 0 (unsigned_abs l.0 + unsigned_abs l.1)))

-- the two parts of a conjunction that holds
abbrev pub first_part : (x y : Bool) → T (x && y) → T x
first_part true y t = tt
first_part false y t = absurd t

abbrev pub other_part : (x y : Bool) → T (x && y) → T y
other_part true y t = t
other_part false y t = absurd t

unfoldable pub line_with : (l : Coefficients) → T (is_line l) → Line
line_with l t =
    let b = other_part (nat_le (unsigned_abs l.0) 20000) _ t in
    let c = other_part (nat_le (unsigned_abs l.1) 20000) _ b in
    record {
      a = l.0;
      b = l.1;
      c = l.2;
      a_within = leb→le _ _ (first_part (nat_le (unsigned_abs l.0) 20000) _ t);
      b_within = leb→le _ _ (first_part (nat_le (unsigned_abs l.1) 20000) _ b);
      c_within = leb→le _ _ (first_part (nat_le (unsigned_abs l.2) 200000000) _ c);
      proper = ltb→lt _ _ (other_part (nat_le (unsigned_abs l.2) 200000000) _ c);
    }

unfoldable pub where_true : {X : Type 0} (t : Bool) → (T t → X) → Option X
where_true true f = Some (f tt)
where_true false f = None

unfoldable pub line_of : Coefficients → Option Line
line_of l = where_true (is_line l) (line_with l)
