use Rattle.std.proofs.Common.{◌≡◌, ◌+◌, ◌*◌, ◌≤◌, ◌++◌, ◌∷◌, [], map, take, vec_len}
use Rattle.std.specs.Vec.{vec_capacity}
use Rattle.std.specs.List.{join_by}
use Rattle.matchstate.specs.Cards.{cards_text}
use Rattle.matchstate.specs.SeenCards.{hole_in}
use Rattle.matchstate.proofs.cards_field.put_holes.Given as goal

abbrev pub invariant-loop-position : goal.invariant-loop-position
invariant-loop-position l =
    (l.out.items ≡ l.fn.out.items ++ join_by cards_text (124 ∷ []) (map hole_in (take l.position l.holes)))
    × (vec_len l.out ≤ vec_len l.fn.out + 5 * l.position)
    × (vec_capacity l.fn.out ≤ vec_capacity l.out)
    × (l.position ≤ 10)
