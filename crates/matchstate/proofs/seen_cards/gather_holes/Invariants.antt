use Rattle.std.proofs.Common.{◌≡◌, ◌*◌, ◌≤◌, map, take, length}
use Rattle.std.specs.List.{concat}
use Rattle.matchstate.specs.SeenCards.{hole_in}
use Rattle.matchstate.proofs.seen_cards.gather_holes.Given as goal

abbrev pub invariant-loop-position : goal.invariant-loop-position
invariant-loop-position l =
    (length l.cards ≡ 25)
    × (l.count ≤ 2 * l.position)
    × (l.position ≤ l.players)
    × (take l.count l.cards ≡ concat (map hole_in (take l.position l.holes)))
