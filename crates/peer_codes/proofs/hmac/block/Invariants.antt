use Rattle.std.proofs.Common.{◌≡◌, bit_xor}
use Rattle.peer_codes.proofs.Mapping.{mapped}
use Rattle.peer_codes.proofs.hmac.block.Given as goal

abbrev pub invariant-loop-byte : goal.invariant-loop-byte
invariant-loop-byte l = l.byte-items ≡ mapped (λ byte. bit_xor byte l.fn.mask) l.byte-index l.initial.byte-items
