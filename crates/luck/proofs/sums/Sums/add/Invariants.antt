use Rattle.std.proofs.Common.{pos, get_or}
use Rattle.match_log.proofs.Adding.{IsAddedUpto}
use Rattle.luck.proofs.sums.Sums.add.Given as goal

abbrev pub invariant-loop-position : goal.invariant-loop-position
invariant-loop-position l = IsAddedUpto l.fn.self.amounts l.amounts l.fn.self.deals (λ position. get_or l.payoffs position (pos 0)) l.position
