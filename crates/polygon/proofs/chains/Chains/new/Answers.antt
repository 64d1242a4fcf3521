use Rattle.std.proofs.Common.{refl, arith}
use Rattle.polygon.proofs.Linking.{linked_none, get_or_nones}
use Rattle.polygon.proofs.chains.Chains.new.Goals as goal

pub invariant_of-result : goal.invariant_of-result
invariant_of-result c = record { few = c.requires; within = omega arith; linked = linked_none c.args.edges.now _ _ refl refl (get_or_nones 1024) }
