use Rattle.std.proofs.Common.{◌≡◌, ◌++◌, replicate}
use Rattle.hand_rank.proofs.five.push_copies.Given as goal

abbrev pub invariant-loop-copy : goal.invariant-loop-copy
invariant-loop-copy l = l.ranks.items ≡ l.initial.ranks.items ++ replicate l._copy l.rank
