use Rattle.std.proofs.Common.{◌≡◌, reverse, take}
use Rattle.betting.specs.Betting.{Betting}
use Rattle.line_cursor.proofs.past.beginning.Given as goal

abbrev pub invariant-loop-action : goal.invariant-loop-action
invariant-loop-action l = l.earlier ≡ (let b : Betting = record { game = l.fn.play.game; past = reverse (take l.action-index (reverse l.fn.play.past)) } in b)
