use Rattle.std.proofs.Common.{map, take}
use Rattle.toml.specs.View.{view}
use Rattle.match_file.specs.Said.{EachSays}
use Rattle.match_file.specs.Addresses.{SaysStatus}
use Rattle.match_file.proofs.statuses.statuses_of.Given as goal

abbrev pub invariant-loop-value : goal.invariant-loop-value
invariant-loop-value l = EachSays SaysStatus (map view (take l.value-index l.values)) l.addresses.items
