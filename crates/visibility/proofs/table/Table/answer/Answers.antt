use Rattle.std.proofs.Common.{rules, []}
use Rattle.visibility.proofs.Replies.{no_space}
use Rattle.visibility.proofs.table.Table.answer.Goals as goal

pub returns-clause-value : goal.returns-clause-value
returns-clause-value g c = λ h st. no_space _ h c.args.call c.reply.result c.reply.new.bytes (search rules) (c.reply.ensures.value h st [])
