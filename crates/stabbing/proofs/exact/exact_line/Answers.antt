use Rattle.std.proofs.Common.{sym, ap, ◌∙◌}
use Rattle.std.specs.Option.{option_map}
use Rattle.plane.specs.Shapes.{coefficients}
use Rattle.plane.proofs.TwoPosts.{two_posts}
use Rattle.stabbing.specs.Exact.{line_through}
use Rattle.stabbing.specs.Found.{decides_as_exact, exact_no_path, exact_path}
use Rattle.stabbing.proofs.Unstabbed.{some_unstabbed}
use Rattle.stabbing.proofs.exact.exact_line.Goals as goal

pub returns-in_err-new : goal.returns-in_err-new
returns-in_err-new c =
    let value = ap (option_map coefficients) c.from_residual.ensures ∙ sym (exact_no_path c.args.path.now c.in_err-new.ensures) in
    record { value = value; test = decides_as_exact coefficients c.from_residual.result _ value; posts = two_posts; some = some_unstabbed }

pub returns : goal.returns
returns c =
    let new = c.in_ok-new.ensures in
    let value = c.line.ensures ∙ ap line_through new.1 ∙ sym (exact_path c.args.path.now new.0) in
    record { value = value; test = decides_as_exact coefficients c.line.result _ value; posts = two_posts; some = some_unstabbed }
