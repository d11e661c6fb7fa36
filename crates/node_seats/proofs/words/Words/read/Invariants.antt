use Rattle.std.proofs.Common.{◌≡◌, drop}
use Rattle.node_seats.specs.Words.{with_bytes}
use Rattle.node_seats.proofs.words.Words.read.Given as goal

abbrev pub invariant-loop-byte : goal.invariant-loop-byte
invariant-loop-byte l = with_bytes l.self (drop l.byte-index l.bytes) ≡ with_bytes l.initial.self l.initial.bytes
