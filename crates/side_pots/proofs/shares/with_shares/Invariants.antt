use Rattle.side_pots.proofs.OddChips.{IsSharedUpto}
use Rattle.side_pots.proofs.shares.with_shares.Given as goal

abbrev pub invariant-loop-position : goal.invariant-loop-position
invariant-loop-position l = IsSharedUpto l.won l.shared.items l.winners l.pot l.winners_before l.position
