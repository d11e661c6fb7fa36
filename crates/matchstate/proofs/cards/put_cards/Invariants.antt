use Rattle.std.proofs.Common.{◌≡◌, ◌+◌, ◌*◌, ◌≤◌, ◌++◌, take, vec_len}
use Rattle.std.specs.Vec.{vec_capacity}
use Rattle.matchstate.specs.Cards.{cards_text}
use Rattle.matchstate.proofs.cards.put_cards.Given as goal

abbrev pub invariant-loop-card : goal.invariant-loop-card
invariant-loop-card l =
    (l.out.items ≡ l.fn.out.items ++ cards_text (take l.card-index l.cards))
    × (vec_len l.out ≡ vec_len l.fn.out + 2 * l.card-index)
    × (vec_capacity l.fn.out ≤ vec_capacity l.out)
