use Rattle.std.proofs.Common.{List, length, sym, ap, ◌∙◌, subst, arith, take_all, length-drop, rules}
use Rattle.std.specs.List.{AllByRecursion}
use Rattle.plane.specs.declared.quad.Quad.{Quad}
use Rattle.std.proofs.ByRecursion.{All-weaker}
use Rattle.std.proofs.lemmas.Bool.{eqb-true}
use Rattle.plane.specs.Lines.{posts}
use Rattle.plane.specs.Separation.{left}
use Rattle.stabbing.specs.Asked.{Passed, first_answer, from_point}
use Rattle.stabbing.specs.Refutation.{Refuted}
use Rattle.stabbing.proofs.Asks.{line_in_front, line_in_rest}
use Rattle.stabbing.proofs.Hopeless.{all_refuted_none}
use Rattle.stabbing.proofs.doorways.Doorways.from_posts.Goals as goal

pub returns-then-is_empty : goal.returns-then-is_empty
returns-then-is_empty c =
    let path = c.args.self.list.now in
    let n = c.refuted_front.result in
    let none = eqb-true _ _ (sym c.if-is_empty.ensures) in
    let gone = sym (length-drop n path) ∙ sym (ap length c.split_at.ensures.rest) ∙ none in
    let whole = take_all n path (omega arith) in
    let all = subst (AllByRecursion (Passed path)) whole c.refuted_front.ensures in
    all_refuted_none path c.args.self.cross (All-weaker (Passed path) (λ q. Refuted (left q) path) (λ q h. h.1) path all)

pub returns-in-None : goal.returns-in-None
returns-in-None c =
    let path = c.args.self.list.now in
    let f = from_point path in
    let answers = λ (v : List Quad). first_answer f (posts v) in
    line_in_rest path c.refuted_front.result _ (c.in-None.ensures ∙ ap answers c.split_at.ensures.front)
    (c.first_at_post.ensures f (λ q line k. search rules) ∙ ap answers c.split_at.ensures.rest)

pub returns-in_default : goal.returns-in_default
returns-in_default c =
    let path = c.args.self.list.now in
    line_in_front path c.refuted_front.result _ c.in_default.not-None
    (c.from_right_posts.ensures ∙ ap (λ v. first_answer (from_point path) (posts v)) c.split_at.ensures.front)
