use Rattle.std.proofs.Common.{◌≡◌, take}
use Rattle.luck.specs.CardList.{cards_of}
use Rattle.luck.proofs.hand_luck.known_cards.Given as goal

abbrev pub invariant-loop-card : goal.invariant-loop-card
invariant-loop-card l = cards_of l.known ≡ take l.card-index l.card-items
