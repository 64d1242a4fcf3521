use Rattle.std.proofs.Common.{sym, ap, ◌∙◌}
use Rattle.text.proofs.Marks.{mark_end, mark_white, mark_found, finds}
use Rattle.text.proofs.lexing.Lexer.mark.Goals as goal

pub returns-then-not-is_white : goal.returns-then-not-is_white
returns-then-not-is_white c =
    let x = c.loop-b.self in
    let whole = sym c.loop-b.invariant.0 ∙ mark_found x.text.now x.at _ (sym c.peek.ensures ∙ c.in-Some.is) (sym c.if-not-is_white.ensures) in
    record {
      answer = sym (ap (λ m. m.found) whole);
      stands = sym (ap (λ m. m.at) whole);
      same = c.loop-b.invariant.1;
      ready = c.loop-b.invariant.2;
      found = finds c.args.self.now.text.now c.args.self.now.at _ _ (sym (ap (λ m. m.found) whole)) (sym (ap (λ m. m.at) whole));
    }

pub loop-b-preserved : goal.loop-b-preserved
loop-b-preserved c =
    let x = c.loop-b.self in (
      sym (mark_white x.text.now x.at _ (sym c.peek.ensures ∙ c.in-Some.is) (sym c.if-not-is_white.ensures)) ∙ c.loop-b.invariant.0,
      c.loop-b.invariant.1,
      c.loop-b.invariant.2,
    )

pub returns : goal.returns
returns c =
    let x = c.loop-b.self in
    let whole = sym c.loop-b.invariant.0 ∙ mark_end x.text.now x.at (sym c.peek.ensures ∙ c.in_default.is) in
    record {
      answer = sym (ap (λ m. m.found) whole);
      stands = sym (ap (λ m. m.at) whole);
      same = c.loop-b.invariant.1;
      ready = c.loop-b.invariant.2;
      found = finds c.args.self.now.text.now c.args.self.now.at _ _ (sym (ap (λ m. m.found) whole)) (sym (ap (λ m. m.at) whole));
    }
