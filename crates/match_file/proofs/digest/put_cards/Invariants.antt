use Rattle.std.proofs.Common.{◌≡◌, ◌++◌, take}
use Rattle.matchstate.specs.Cards.{cards_text}
use Rattle.match_file.proofs.digest.put_cards.Given as goal

abbrev pub invariant-loop-card : goal.invariant-loop-card
invariant-loop-card l = l.text.items ≡ l.fn.text.items ++ cards_text (take l.card-index l.cards)
