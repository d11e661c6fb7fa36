-- What the fields of stakes keep.
use Rattle.luck.specs.Stakes.{AtStake, AreStakes}
use Rattle.luck.specs.declared.stakes.Stakes.TheInside.{Inside}

abbrev pub at_stake : Inside → AtStake
at_stake s = record { spent = s.spent.items; folded = s.folded.items }

abbrev pub IsKept : Inside → Type 0
IsKept s = AreStakes s.spent.items s.folded.items
