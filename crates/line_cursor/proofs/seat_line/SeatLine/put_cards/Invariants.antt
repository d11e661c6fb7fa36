use Rattle.std.proofs.Common.{◌≡◌, ◌+◌, ◌*◌, ◌++◌, length, take}
use Rattle.matchstate.specs.Cards.{cards_text}
use Rattle.line_cursor.proofs.seat_line.SeatLine.put_cards.Given as goal

abbrev pub invariant-loop-card : goal.invariant-loop-card
invariant-loop-card l =
    (l.self ≡ l.fn.self ++ cards_text (take l.card-index l.cards))
    × (length l.self ≡ length l.fn.self + 2 * l.card-index)
