use Rattle.std.proofs.Common.{◌≡◌, ◌*◌, ◌≤◌, take}
use Rattle.side_pots.specs.Amounts.{chips_between}
use Rattle.side_pots.proofs.amounts.chips_between.Given as goal

abbrev pub invariant-loop-amount : goal.invariant-loop-amount
invariant-loop-amount l = record { chips : l.chips ≡ chips_between (take l.amount-index l.spent) l.below l.top; fits : l.chips ≤ 4294967295 * l.amount-index }
