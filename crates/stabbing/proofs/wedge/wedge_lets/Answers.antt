use Rattle.std.proofs.Common.{◌&&◌, ap, ◌∙◌}
use Rattle.std.proofs.lemmas.Bool.Decides.{Decides-at}
use Rattle.stabbing.specs.Threes.{wedge_decides}
use Rattle.stabbing.specs.Wedge.{all_stabbed, threes, wedge_lets}
use Rattle.stabbing.proofs.wedge.wedge_lets.Goals as goal

pub returns-then-is_path : goal.returns-then-is_path
unfolding wedge_lets
returns-then-is_path c =
    let value = c.all_threes.ensures ∙ ap (λ b. b && all_stabbed (threes c.args.path.now)) c.if-is_path.ensures.value in
    record { value = value; test = Decides-at _ _ value (wedge_decides c.args.path.now) }

pub returns-else-is_path-clause-value : goal.returns-else-is_path-clause-value
unfolding wedge_lets
returns-else-is_path-clause-value c = c.if-is_path.false ∙ ap (λ b. b && all_stabbed (threes c.args.path.now)) c.if-is_path.ensures.value
