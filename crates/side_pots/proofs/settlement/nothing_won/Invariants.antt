use Rattle.std.proofs.Common.{◌≡◌, replicate}
use Rattle.side_pots.proofs.settlement.nothing_won.Given as goal

abbrev pub invariant-loop-player : goal.invariant-loop-player
invariant-loop-player l = l.won.items ≡ replicate l._player 0
