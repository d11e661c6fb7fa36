use Rattle.match_log.specs.Check.{IsMatchLog}
use Rattle.luck.proofs.Told.{IsTold}
use Rattle.luck.proofs.lines.lines_of_log.Given as goal

abbrev pub invariant-loop-number : goal.invariant-loop-number
invariant-loop-number l = (read : IsMatchLog l.game l.log) → IsTold l.game l.log read l.number l.rest l.lines.items
