use Rattle.std.proofs.Common.{◌≡◌, ◌++◌, map, take, drop}
use Rattle.seat_relay.specs.Relaying.{unsaid}
use Rattle.seat_relay.proofs.machine.unsay.Given as goal

abbrev pub invariant-loop-link : goal.invariant-loop-link
invariant-loop-link l = l.links ≡ map unsaid (take l.link-index l.initial.links) ++ drop l.link-index l.initial.links
