use Rattle.match_log.specs.Tally.{IsTallyOf}
use Rattle.match_log.proofs.Tallies.{older}
use Rattle.match_log.proofs.score_lines.score_of.Given as goal

abbrev pub invariant-loop-hand : goal.invariant-loop-hand
invariant-loop-hand l = IsTallyOf l.table.game (older l.table.hands l.hand) l.score
