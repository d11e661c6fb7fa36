use Rattle.std.proofs.Common.{◌≡◌, take}
use Rattle.std.specs.List.{sum}
use Rattle.hand_rank.specs.Five.{counts_of}
use Rattle.hand_rank.proofs.five.rank_counts.Given as goal

abbrev pub invariant-loop-card : goal.invariant-loop-card
invariant-loop-card l = record { counts : l.counts ≡ counts_of (take l.card-index l.cards); total : sum l.counts ≡ l.card-index }
