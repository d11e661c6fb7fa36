use Rattle.std.proofs.Common.{◌≡◌, ◌++◌, ◌∷◌, [], map}
use Rattle.std.specs.List.{join_by, range_with_len}
use Rattle.card_core.specs.Deal.{hole_of}
use Rattle.matchstate.specs.Cards.{cards_text}
use Rattle.match_file.proofs.digest.put_holes.Given as goal

abbrev pub invariant-loop-position : goal.invariant-loop-position
invariant-loop-position l = l.text.items ≡ l.initial.text.items ++ join_by cards_text (124 ∷ []) (map (hole_of l.deal) (range_with_len 0 l.position))
