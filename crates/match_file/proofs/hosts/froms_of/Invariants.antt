use Rattle.std.proofs.Common.{map, take}
use Rattle.toml.specs.View.{view}
use Rattle.match_file.specs.Said.{EachSays}
use Rattle.match_file.specs.Hosts.{SaysFrom}
use Rattle.match_file.proofs.hosts.froms_of.Given as goal

abbrev pub invariant-loop-value : goal.invariant-loop-value
invariant-loop-value l = EachSays SaysFrom (map view (take l.value-index l.values)) l.froms.items
