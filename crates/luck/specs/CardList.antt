-- Some cards in order.
use Rattle.std.specs.Prelude.{ℕ, List, take}
use Rattle.luck.specs.declared.card_list.CardList.{CardList}

-- the cards of a list
abbrev pub cards_of : CardList → List ℕ
cards_of list = take list.count list.cards
