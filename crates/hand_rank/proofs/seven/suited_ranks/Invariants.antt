use Rattle.std.proofs.Common.{take}
use Rattle.hand_rank.specs.Ranks.{IsAtLeast}
use Rattle.hand_rank.specs.Profile.{suited_count}
use Rattle.hand_rank.proofs.seven.suited_ranks.Given as goal

abbrev pub invariant-loop-card : goal.invariant-loop-card
invariant-loop-card l = IsAtLeast l.ranks.bits 1 (suited_count (take l.card-index l.cards) l.suit)
