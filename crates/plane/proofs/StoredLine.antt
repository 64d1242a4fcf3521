-- A line is the one that is stored for its numbers.
use Rattle.std.proofs.Common.{◌≡◌, ◌+◌, ◌<◌, Bool, true, false, ◌&&◌, T, leb, nat_abs, Some, None, Ok, Err, Result, sym, refl, ap, ◌∙◌, arith, le→leb, lt→ltb, MatchResult}
use native.Mathlib.Bridge.{le_prop}
use Rattle.std.proofs.lemmas.Int.{ints}
use Rattle.std.specs.Result.{result_ok}
use Rattle.plane.specs.declared.line.Line.{Line}
use Rattle.plane.specs.declared.refusal.Refusal.{Refusal}
use Rattle.plane.specs.Limits.{InLimits}
use Rattle.plane.specs.Separation.{Coefficients, Proper}
use Rattle.plane.specs.Shapes.{coefficients}
use Rattle.plane.specs.StoredLine.{is_line, line_with, where_true, line_of}

where_true_is : {X : Type 0} (t : Bool) (f : T t → X) (h : T t) → where_true t f ≡ Some (f h)
unfolding where_true
where_true_is true f h = refl
where_true_is false f h = absurd h

both_true : (x y : Bool) → T x → T y → T (x && y)
both_true true y s t = t
both_true false y s t = absurd s

lines_numbers : (l : Line) → T (is_line (coefficients l))
lines_numbers l =
    both_true (leb (nat_abs l.a) 20000) _ (le→leb _ _ l.a_within)
    (both_true (leb (nat_abs l.b) 20000) _ (le→leb _ _ l.b_within)
    (both_true (leb (nat_abs l.c) 200000000) _ (le→leb _ _ l.c_within) (lt→ltb 0 _ l.proper)))

same_line : (l : Line) (t : T (is_line (coefficients l))) → line_with (coefficients l) t ≡ l
unfolding line_with
same_line l t = λ i. record {
  a = l.a;
  b = l.b;
  c = l.c;
  a_within = le_prop (line_with (coefficients l) t).a_within l.a_within i;
  b_within = le_prop (line_with (coefficients l) t).b_within l.b_within i;
  c_within = le_prop (line_with (coefficients l) t).c_within l.c_within i;
  proper = le_prop (line_with (coefficients l) t).proper l.proper i;
}

pub line_of_line : (l : Line) → line_of (coefficients l) ≡ Some l
unfolding line_of
line_of_line l = where_true_is _ _ (lines_numbers l) ∙ ap Some (same_line l (lines_numbers l))

-- a line has a direction, and keeps the limits
pub line_proper : (l : Line) → Proper (coefficients l)
line_proper l a b = let h : 0 < nat_abs l.a + nat_abs l.b = l.proper in omega (arith, ints)

pub line_limits : (l : Line) → InLimits (coefficients l)
line_limits l = (l.a_within, l.b_within, l.c_within)

where_false : {X : Type 0} (t : Bool) (f : T t → X) → (T t → ⊥) → where_true t f ≡ None
unfolding where_true
where_false true f h = absurd (h tt)
where_false false f h = refl

no_line : (k : Coefficients) → (Proper k → InLimits k → ⊥) → T (is_line k) → ⊥
unfolding line_with
no_line k h t = let l = line_with k t in h (line_proper l) (line_limits l)

-- what is made from three numbers is the line that is stored for them
pub made_stored : (k : Coefficients) (r : Result Line Refusal) → MatchResult r (λ l. coefficients l ≡ k) (λ _. Proper k → InLimits k → ⊥) → result_ok r ≡ line_of k
unfolding line_of
made_stored k (Ok l) e = sym (line_of_line l) ∙ ap line_of e
made_stored k (Err _) h = sym (where_false (is_line k) (line_with k) (no_line k h))
