use Rattle.std.proofs.Common.{◌≡◌, sym, ◌∙◌, rules}
use Rattle.stabbing.specs.Answers.{if_some}
use Rattle.stabbing.specs.Exact.{exact_line}
use Rattle.stabbing.specs.Found.{exact_is}
use Rattle.stabbing.proofs.exact.ExactSharp.stabbing_line.Goals as goal

pub returns-clause-some : goal.returns-clause-some
returns-clause-some c =
    let value : c.map.result ≡ exact_line c.args.path.now = search rules in
    if_some _ c.map.result (λ l e. let is = exact_is c.args.path.now l (sym value ∙ e) in (is.1, is.2, is.3))
