use Rattle.std.proofs.Common.{not, ap, length, arith}
use Rattle.visibility.specs.Sets.{marks}
use Rattle.visibility.proofs.Numbers.{number_le}
use Rattle.visibility.proofs.deck.Deck.search_from.Goals as goal

pub search-requires : goal.search-requires
search-requires g c =
    let t = c.new-trail.result in
    let m = c.args.self.now.map.now in
    let few = g.met.M.Map.bounded m in
    let long = c.new-trail.ensures.entered.1 in
    let free = number_le (g.M.Map.rooms m) (λ x. not (marks t.entered x)) in
    let doors = ap length c.new-trail.ensures.walk.0 in
    let path = ap length c.new-trail.ensures.walk.1 in
    record { entered = omega (arith, few, long); doors = omega (arith, few, free, doors); path = omega (arith, few, free, path); index = c.new-index.ensures }
