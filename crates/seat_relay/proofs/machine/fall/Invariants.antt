use Rattle.std.proofs.Common.{◌≡◌, ◌++◌, map, take, drop}
use Rattle.seat_relay.specs.Relaying.{fallen}
use Rattle.seat_relay.proofs.machine.fall.Given as goal

abbrev pub invariant-loop-link : goal.invariant-loop-link
invariant-loop-link l = l.links ≡ map fallen (take l.link-index l.initial.links) ++ drop l.link-index l.initial.links
