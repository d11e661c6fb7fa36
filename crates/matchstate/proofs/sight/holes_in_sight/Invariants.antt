use Rattle.std.proofs.Common.{◌≡◌, cond, [], map, take, length}
use Rattle.std.specs.List.{range_with_len}
use Rattle.card_core.specs.Deal.{hole_of}
use Rattle.matchstate.specs.SeenCards.{hole_in}
use Rattle.matchstate.specs.View.{sees}
use Rattle.matchstate.proofs.sight.holes_in_sight.Given as goal

abbrev pub invariant-loop-position : goal.invariant-loop-position
invariant-loop-position l =
    (length l.holes ≡ 10)
    × (map hole_in (take l.position l.holes) ≡ map (λ p. cond (sees l.play.game l.play.past l.viewer p) (hole_of l.deal p) []) (range_with_len 0 l.position))
