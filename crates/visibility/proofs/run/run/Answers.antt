use Rattle.visibility.specs.States.{state_of}
use Rattle.visibility.specs.Worlds.{meant}
use Rattle.visibility.proofs.Paths.{lined_true}
use Rattle.visibility.proofs.Portals.{sees_lined}
use Rattle.visibility.proofs.Walked.{fresh_stands}
use Rattle.visibility.proofs.run.run.Goals as goal

pub serve_all-requires : goal.serve_all-requires
serve_all-requires g c = fresh_stands _ (state_of c.new-table.result) c.new-table.ensures.shut c.new-table.ensures.filled

pub returns-clause-complete : goal.returns-clause-complete
returns-clause-complete g c = λ h a b v.
    lined_true (meant g.M.Map g.S.Stabber c.args.map c.args.stabber) (g.met.M.Map.inside c.args.map) (g.met.M.Map.bounded c.args.map)
    (g.met.S.Stabber.stabbed c.args.stabber) _ a b (sees_lined _ _ a b v)
