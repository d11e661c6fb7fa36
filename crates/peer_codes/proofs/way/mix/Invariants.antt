use Rattle.std.proofs.Common.{◌≡◌}
use Rattle.peer_codes.proofs.Mixing.{mixed}
use Rattle.peer_codes.proofs.way.mix.Given as goal

abbrev pub invariant-loop-place : goal.invariant-loop-place
invariant-loop-place l = l.bytes ≡ mixed l.place l.initial.bytes l.others
