use Rattle.std.proofs.Common.{map, take}
use Rattle.toml.specs.View.{view}
use Rattle.match_file.specs.Said.{EachSays, SaysName}
use Rattle.match_file.proofs.seat_names.names_of.Given as goal

abbrev pub invariant-loop-value : goal.invariant-loop-value
invariant-loop-value l = EachSays SaysName (map view (take l.value-index l.values)) l.names.items
