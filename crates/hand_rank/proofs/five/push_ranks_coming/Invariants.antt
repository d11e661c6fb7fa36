use Rattle.std.proofs.Common.{◌≡◌, ◌++◌, take}
use Rattle.std.specs.List.{flat_map}
use Rattle.hand_rank.specs.Five.{copies_of, ranks_down}
use Rattle.hand_rank.proofs.five.push_ranks_coming.Given as goal

abbrev pub invariant-loop-rank : goal.invariant-loop-rank
invariant-loop-rank l = l.ranks.items ≡ l.initial.ranks.items ++ flat_map (copies_of l.counts l.size) (take l.rank-index ranks_down)
