use Rattle.std.proofs.Common.{◌%◌, ap, arith}
use Rattle.polygon.proofs.Linking.{linked_more}
use Rattle.polygon.proofs.chains.Chains.push.Goals as goal

pub invariant_of-self-clause-linked : goal.invariant_of-self-clause-linked
invariant_of-self-clause-linked c =
    linked_more c.args.self.now.edges.now c.args.self.now.known c.args.self.now.heads c.args.self.now.nexts c.args.self.now.linked (omega arith) _ (ap (λ b. b % 1024) c.from-b.ensures) (omega arith)
