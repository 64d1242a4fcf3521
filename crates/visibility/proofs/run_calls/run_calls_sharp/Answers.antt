use Rattle.visibility.specs.Worlds.{meant}
use Rattle.visibility.proofs.Paths.{true_lined, sharp_stabbed}
use Rattle.visibility.proofs.run_calls.run_calls_sharp.Goals as goal

pub returns-clause-sharp : goal.returns-clause-sharp
returns-clause-sharp g c =
    let s = c.args.stabber in
    λ h a b. true_lined (meant g.M.Map g.S.Stabber c.args.map s)
    (sharp_stabbed (g.S.Stabber.lets s) (g.S.Sharp.line s) (g.met.S.Sharp.sharp s) (g.met.S.Sharp.separates s)) _ a b
