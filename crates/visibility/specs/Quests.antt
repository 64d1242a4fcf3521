-- The search for the first walk to a room.
--   kept v l ks      the quest v with the line l and the doorways ks
--   quested v o t    the quest v after it was told of the walk t, for which the stabber answered o
use Rattle.std.specs.Prelude.{ℕ, cond, List, Some, None, Option, ◌==◌}
use Rattle.plane.specs.Separation.{Coefficients}
use Rattle.visibility.specs.declared.quest.Quest.{Quest}
use Rattle.visibility.specs.Trips.{Trip}

abbrev pub kept : Quest → Coefficients → List ℕ → Quest
kept v l ks = record { goal = v.goal; found = Some (record { line = l; doors = record { items = ks } }) }

abbrev pub quested : Quest → Option Coefficients → Trip → Quest
quested v None t = v
quested v (Some l) t = cond (t.room == v.goal) (kept v l t.doors) v
