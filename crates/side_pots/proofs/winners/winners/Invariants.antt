use Rattle.std.proofs.Common.{◌≡◌, map}
use Rattle.std.specs.List.{range_with_len}
use Rattle.side_pots.specs.Pots.{is_eligible, is_winner}
use Rattle.side_pots.proofs.winners.winners.Given as goal

abbrev pub invariant-loop-position : goal.invariant-loop-position
invariant-loop-position l = l.winners.items ≡ map (is_winner l.values (is_eligible l.spent l.folded l.level)) (range_with_len 0 l.position)
