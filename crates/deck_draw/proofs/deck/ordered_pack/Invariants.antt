use Rattle.std.proofs.Common.{◌≡◌, ◌<◌, ℕ, get_or, length}
use Rattle.deck_draw.proofs.deck.ordered_pack.Given as goal

abbrev pub invariant-loop-number : goal.invariant-loop-number
invariant-loop-number l = record {
  full : length l.cards ≡ 52;
  so_far : (k : ℕ) → k < l.number → get_or l.cards k 0 ≡ k;
}
