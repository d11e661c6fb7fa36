use Rattle.std.proofs.Common.{◌≡◌, map, pos, ◌-ℤ◌, slice_index}
use Rattle.std.specs.List.{range_with_len}
use Rattle.side_pots.proofs.settlement.less_spent.Given as goal

abbrev pub invariant-loop-position : goal.invariant-loop-position
invariant-loop-position l = l.payoffs.items ≡ map (λ position. pos (slice_index l.won position) -ℤ pos (slice_index l.spent position)) (range_with_len 0 l.position)
