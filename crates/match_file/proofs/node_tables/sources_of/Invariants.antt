use Rattle.std.proofs.Common.{map, take}
use Rattle.toml.specs.View.{view}
use Rattle.match_file.specs.Said.{EachSays, SaysSource}
use Rattle.match_file.proofs.node_tables.sources_of.Given as goal

abbrev pub invariant-loop-value : goal.invariant-loop-value
invariant-loop-value l = EachSays (SaysSource l.players l.hands) (map view (take l.value-index l.values)) l.sources.items
