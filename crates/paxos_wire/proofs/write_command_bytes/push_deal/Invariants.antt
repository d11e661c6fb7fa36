use Rattle.std.proofs.Common.{◌≡◌, ◌+◌, ◌++◌, ◌∷◌, length, take}
use Rattle.arrayvec.specs.ArrayVec.{array_vec_len}
use Rattle.paxos_wire.proofs.write_command_bytes.push_deal.Given as goal

abbrev pub invariant-loop-card : goal.invariant-loop-card
invariant-loop-card l = record {
  items : l.out.items ≡ l.fn.out.items ++ (length l.cards ∷ take l.card-index l.cards);
  len : array_vec_len l.out ≡ array_vec_len l.fn.out + 1 + l.card-index;
}
