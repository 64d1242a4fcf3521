use Rattle.std.proofs.Common.{◌≡◌, length, replicate, pos, IfOk, Err, sym, refl, ap, ◌∙◌, subst, arith}
use Rattle.std.proofs.lemmas.List.{length-map}
use Rattle.std.proofs.lemmas.Result.{IfOk-from_err}
use Rattle.polygon.specs.Accepted.{Accepted}
use Rattle.polygon.specs.Corners.{point, points}
use Rattle.polygon.specs.Plans.{nothing, short, planned}
use Rattle.polygon.proofs.Answering.{long_enough, short_so, err_so, ok_so}
use Rattle.polygon.specs.Understood.{spaces}
use Rattle.polygon.proofs.Understanding.{understands}
use Rattle.polygon.proofs.plans.read.Goals as goal

pub returns-then-too_short : goal.returns-then-too_short
returns-then-too_short c =
    let t = c.args.text.now in
    let ds = c.args.doorways.now in
    let cs = c.args.corners.now in
    let ns = c.args.numbers.now in
    let many = length-map cs point in
    let q = short_so t ds (points cs) ns ((λ i. short (length ds) (many i) (length ns)) ∙ sym c.if-too_short.ensures) in
    let r = ap Err c.new.ensures ∙ sym (ap (λ x. x.result) q) in
    let d = sym (ap (λ x. x.doorways) q) in
    let p = sym (ap (λ x. x.corners) q) in
    let n = sym (ap (λ x. x.numbers) q) in
    record { answer = r; doorways = d; corners = p; numbers = n; accepted = tt; understood = understands t (spaces ds (points cs) ns) _ _ r d p n }

pub read_plan-answer-requires : goal.read_plan-answer-requires
read_plan-answer-requires c =
    let l = long_enough (length c.args.doorways.now) (length c.args.corners.now) (length c.args.numbers.now) (sym c.if-too_short.ensures) in
    record { doorways = omega (arith, l.0); corners = omega (arith, l.1); numbers = omega (arith, l.2) }

pub returns-then-is_err : goal.returns-then-is_err
returns-then-is_err c =
    let t = c.args.text.now in
    let ds = c.args.doorways.now in
    let cs = c.args.corners.now in
    let ns = c.args.numbers.now in
    let many = length-map cs point in
    let told = c.read_plan-answer.ensures in
    let z = c.clear.ensures in
    let over = c.clear-then-is_err.ensures in
    let q = err_so t ds (points cs) ns (length ds) (length cs) (length ns) refl (sym many) refl ((λ i. short (length ds) (many i) (length ns)) ∙ sym c.if-too_short.ensures) c.read_plan-answer.result (told.answer ∙ (λ i. (planned t (z.doorways i) (z.corners i) (z.numbers i)).result)) (sym c.if-is_err.ensures.value) in
    let a : length c.read_plan-answer.new.doorways ≡ length ds = omega arith in
    let b : length c.read_plan-answer.new.corners ≡ length cs = omega arith in
    let n : length c.read_plan-answer.new.numbers ≡ length ns = omega arith in
    let r = sym (ap (λ x. x.result) q) in
    let d = over.doorways ∙ ap (λ k. replicate k nothing) a ∙ sym (ap (λ x. x.doorways) q) in
    let p = over.corners ∙ ap (λ k. replicate k (pos 0, pos 0)) b ∙ sym (ap (λ x. x.corners) q) in
    let s = over.numbers ∙ ap (λ k. replicate k 0) n ∙ sym (ap (λ x. x.numbers) q) in
    record { answer = r; doorways = d; corners = p; numbers = s; accepted = IfOk-from_err c.read_plan-answer.result _ (sym c.if-is_err.ensures.value); understood = understands t (spaces ds (points cs) ns) _ _ r d p s }

pub returns-else-is_err : goal.returns-else-is_err
returns-else-is_err c =
    let t = c.args.text.now in
    let ds = c.args.doorways.now in
    let cs = c.args.corners.now in
    let ns = c.args.numbers.now in
    let many = length-map cs point in
    let told = c.read_plan-answer.ensures in
    let z = c.clear.ensures in
    let q = ok_so t ds (points cs) ns (length ds) (length cs) (length ns) refl (sym many) refl ((λ i. short (length ds) (many i) (length ns)) ∙ sym c.if-too_short.ensures) c.read_plan-answer.result (told.answer ∙ (λ i. (planned t (z.doorways i) (z.corners i) (z.numbers i)).result)) (sym c.if-is_err.ensures.value) in
    let r = sym (ap (λ x. x.result) q) in
    let d = told.doorways ∙ (λ i. (planned t (z.doorways i) (z.corners i) (z.numbers i)).doorways) ∙ sym (ap (λ x. x.doorways) q) in
    let p = told.corners ∙ (λ i. (planned t (z.doorways i) (z.corners i) (z.numbers i)).corners) ∙ sym (ap (λ x. x.corners) q) in
    let n = told.numbers ∙ (λ i. (planned t (z.doorways i) (z.corners i) (z.numbers i)).numbers) ∙ sym (ap (λ x. x.numbers) q) in
    let ds1 = c.read_plan-answer.new.doorways in
    let ps1 = points c.read_plan-answer.new.corners in
    let ns1 = c.read_plan-answer.new.numbers in
    let r0 = c.read_plan-answer.result in
    let s1 = subst (λ x. IfOk r0 (λ n. Accepted t x (points c.clear.new.corners) c.clear.new.numbers n ds1 ps1 ns1)) z.doorways told.accepted in
    let s2 = subst (λ x. IfOk r0 (λ n. Accepted t (replicate (length ds) nothing) x c.clear.new.numbers n ds1 ps1 ns1)) z.corners s1 in
    let s3 = subst (λ x. IfOk r0 (λ n. Accepted t (replicate (length ds) nothing) (replicate (length cs) (pos 0, pos 0)) x n ds1 ps1 ns1)) z.numbers s2 in
    record { answer = r; doorways = d; corners = p; numbers = n; accepted = s3; understood = understands t (spaces ds (points cs) ns) _ _ r d p n }
