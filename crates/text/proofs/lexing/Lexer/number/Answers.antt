-- What was read is spelt so, and spelt so for no other outcome.
use Rattle.text.proofs.Numerals.{settles, bounded}
use Rattle.std.proofs.Common.{refl}
use Rattle.text.proofs.lexing.Lexer.number.Goals as goal

pub returns : goal.returns
returns c =
    let told = c.scan-answer.ensures in
    let all = settles c.args.signed c.args.self.now.text.now c.args.self.now.at _ _ told.answer told.stands in
    record {
      read = record { answer = told.answer; stands = told.stands; same = told.same };
      ready = refl;
      bound = bounded _ _ _ _ _ all.spelt;
      settled = all;
    }
