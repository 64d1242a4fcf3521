use Rattle.visibility.specs.States.{state_of}
use Rattle.visibility.specs.Worlds.{meant}
use Rattle.visibility.proofs.Paths.{lined_true, true_lined, sharp_stabbed}
use Rattle.visibility.proofs.Portals.{sees_lined, lined_sees}
use Rattle.visibility.proofs.Walked.{fresh_stands}
use Rattle.visibility.proofs.run.run_sharp.Goals as goal

pub serve_all-requires : goal.serve_all-requires
serve_all-requires g c = fresh_stands _ (state_of c.new.result) c.new.ensures.shut c.new.ensures.filled

pub returns-clause-complete : goal.returns-clause-complete
returns-clause-complete g c = λ h a b v.
    lined_true (meant g.M.Map g.S.Stabber c.args.map c.args.stabber) (g.met.M.Map.inside c.args.map) (g.met.M.Map.bounded c.args.map)
    (g.met.S.Stabber.stabbed c.args.stabber) _ a b (sees_lined _ _ a b v)

pub returns-clause-sharp : goal.returns-clause-sharp
returns-clause-sharp g c =
    let s = c.args.stabber in
    λ h a b v. lined_sees _ _ a b (true_lined (meant g.M.Map g.S.Stabber c.args.map s)
    (sharp_stabbed (g.S.Stabber.lets s) (g.S.Sharp.line s) (g.met.S.Sharp.sharp s) (g.met.S.Sharp.separates s)) _ a b v)
