use Rattle.match_log.proofs.SoFar.{SoFar}
use Rattle.match_log.proofs.checking.verdict.Given as goal

abbrev pub invariant-loop-hand : goal.invariant-loop-hand
invariant-loop-hand l = SoFar l.game l.log l.header.hands l.hand l.rest l.checked
