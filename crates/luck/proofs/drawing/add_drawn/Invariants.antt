use Rattle.std.proofs.Common.{◌≡◌, ◌+◌}
use Rattle.rand_core.specs.Steps.{stream_of, steps_u32}
use Rattle.rand_chacha.specs.ChaCha.{next_word}
use Rattle.luck.specs.CardList.{cards_of}
use Rattle.luck.specs.Draws.{drawn}
use Rattle.luck.specs.Sums.{AddsPaid}
use Rattle.luck.proofs.drawing.add_drawn.Given as goal

abbrev pub invariant-loop-number : goal.invariant-loop-number
invariant-loop-number l = record {
  stream : stream_of (steps_u32 (next_word 10)) l.generator ≡ (drawn (cards_of l.known) (stream_of (steps_u32 (next_word 10)) l.fn.generator) l._number).1;
  count : l.sums.deals ≡ l.fn.sums.deals + l._number;
  adds : AddsPaid l.stakes.spent l.stakes.folded (drawn (cards_of l.known) (stream_of (steps_u32 (next_word 10)) l.fn.generator) l._number).0 l.fn.sums l.sums;
}
