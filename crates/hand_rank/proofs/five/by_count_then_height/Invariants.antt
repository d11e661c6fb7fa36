use Rattle.std.proofs.Common.{◌≡◌, take, [], ◌∷◌}
use Rattle.std.specs.List.{flat_map}
use Rattle.hand_rank.specs.Five.{ranks_coming}
use Rattle.hand_rank.proofs.five.by_count_then_height.Given as goal

abbrev pub invariant-loop-size : goal.invariant-loop-size
invariant-loop-size l = l.ranks.items ≡ flat_map (ranks_coming l.counts) (take l.size-index (5 ∷ 4 ∷ 3 ∷ 2 ∷ 1 ∷ []))
