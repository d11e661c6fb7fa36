use Rattle.std.proofs.Common.{pos, length, get_or}
use Rattle.matchstate.specs.View.{position_of}
use Rattle.match_log.proofs.Adding.{IsAddedUpto}
use Rattle.match_log.proofs.score.Score.add.Given as goal

abbrev pub invariant-loop-seat : goal.invariant-loop-seat
invariant-loop-seat l =
    IsAddedUpto l.fn.self.totals l.totals l.fn.self.hands (λ seat. get_or l.payoffs (position_of (length l.payoffs) l.fn.self.hands seat) (pos 0)) l.seat
