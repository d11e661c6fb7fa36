use Rattle.std.proofs.Common.{map, take}
use Rattle.toml.specs.View.{view}
use Rattle.match_file.specs.Said.{EachSays, SaysOutage}
use Rattle.match_file.proofs.outages.outages_of.Given as goal

abbrev pub invariant-loop-value : goal.invariant-loop-value
invariant-loop-value l = EachSays (SaysOutage l.nodes) (map view (take l.value-index l.values)) l.outages.items
