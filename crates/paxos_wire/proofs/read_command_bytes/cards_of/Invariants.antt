use Rattle.std.proofs.Common.{◌≡◌, true, take}
use Rattle.paxos_wire.specs.Reading.{are_cards}
use Rattle.paxos_wire.proofs.read_command_bytes.cards_of.Given as goal

abbrev pub invariant-loop-place : goal.invariant-loop-place
invariant-loop-place l = record { cards : are_cards (take l.place l.bytes) ≡ true; kept : take l.place l.cards ≡ take l.place l.bytes }
