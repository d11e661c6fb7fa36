use Rattle.deck_draw.specs.Deck.{deck_of}
use Rattle.std.proofs.Common.{rules}
use Rattle.deck_draw.proofs.deck.deck.Goals as goal

pub returns-clause-value : goal.returns-clause-value
unfolding deck_of
returns-clause-value c = search rules

pub returns-clause-permutation : goal.returns-clause-permutation
unfolding deck_of
returns-clause-permutation c = search rules
