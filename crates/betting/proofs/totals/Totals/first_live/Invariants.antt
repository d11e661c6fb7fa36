use Rattle.std.proofs.Common.{◌≡◌, ◌-◌}
use Rattle.betting.specs.Rounds.{first_from}
use Rattle.betting.specs.TotalsInside.{seat_lives}
use Rattle.betting.proofs.totals.Totals.first_live.Given as goal

abbrev pub invariant-loop-position : goal.invariant-loop-position
invariant-loop-position l = first_from (seat_lives l.game l.self) l.from (l.to - l.from) ≡ first_from (seat_lives l.game l.self) l.position (l.to - l.position)
