use Rattle.std.proofs.Common.{sym, ap, ◌∙◌, w32, SFits, rules}
use Rattle.std.proofs.lemmas.Int.{to_z-of_z}
use Rattle.plane.proofs.StoredLine.{made_stored}
use Rattle.stabbing.specs.Memory.{kept}
use Rattle.stabbing.proofs.memory.keep.Goals as goal

pub returns-in-Some : goal.returns-in-Some
returns-in-Some c =
    let fa : SFits w32 c.in-Some.a = search rules in
    let fb : SFits w32 c.in-Some.b = search rules in
    let fc : SFits w32 c.in-Some.c = search rules in
    let made = simp to_z-of_z at c.new.ensures in
    c.ok.ensures.value ∙ made_stored (c.in-Some.a, c.in-Some.b, c.in-Some.c) c.new.result made ∙ sym (ap (kept c.args.held) c.in-Some.is)
