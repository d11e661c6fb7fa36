use Rattle.std.proofs.Common.{map, take}
use Rattle.toml.specs.View.{view}
use Rattle.match_file.specs.Said.{EachSays, SaysDeal}
use Rattle.match_file.proofs.node_tables.deals_of.Given as goal

abbrev pub invariant-loop-value : goal.invariant-loop-value
invariant-loop-value l = EachSays (SaysDeal l.players) (map view (take l.value-index l.values)) l.deals.items
