use Rattle.std.proofs.Common.{◌≡◌}
use Rattle.std.specs.List.{filter, range_with_len}
use Rattle.luck.specs.CardList.{cards_of}
use Rattle.luck.proofs.Left.{is_left}
use Rattle.luck.proofs.left_cards.left_cards.Given as goal

abbrev pub invariant-loop-number : goal.invariant-loop-number
invariant-loop-number l = cards_of l.left ≡ filter (is_left l.known) (range_with_len 0 l.number)
