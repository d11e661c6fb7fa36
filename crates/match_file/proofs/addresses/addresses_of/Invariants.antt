use Rattle.std.proofs.Common.{map, take}
use Rattle.toml.specs.View.{view}
use Rattle.match_file.specs.Said.{EachSays}
use Rattle.match_file.specs.Addresses.{SaysAddress}
use Rattle.match_file.proofs.addresses.addresses_of.Given as goal

abbrev pub invariant-loop-value : goal.invariant-loop-value
invariant-loop-value l = EachSays (SaysAddress l.keyed l.key l.ports) (map view (take l.value-index l.values)) l.addresses.items
