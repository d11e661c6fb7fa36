use Rattle.std.proofs.Common.{◌≡◌, ◌*◌}
use Rattle.arrayvec.specs.ArrayVec.{array_vec_len}
use Rattle.node_links.specs.Lives.{text_of}
use Rattle.node_links.proofs.lives.Lives.text.Given as goal

abbrev pub invariant-loop-number : goal.invariant-loop-number
invariant-loop-number l = record {
  items : l.text.items ≡ text_of l.number l.self.lives;
  len : array_vec_len l.text ≡ 16 * l.number;
}
