use Rattle.std.proofs.Common.{rules, ◌≡◌}
use Rattle.std.proofs.lemmas.Bool.Decides.{Decides-at}
use Rattle.plane.specs.Tests.{is_path}
use Rattle.plane.proofs.Tests.{is_path_decides}
use Rattle.plane.proofs.path.is_path.Goals as goal

pub returns-then-list-le-LONGEST-clause-test : goal.returns-then-list-le-LONGEST-clause-test
returns-then-list-le-LONGEST-clause-test c =
    let same : c.all_cross.result ≡ is_path c.args.list.now = search rules in
    Decides-at _ _ same (is_path_decides c.args.list.now)
