use Rattle.node_rules.proofs.Ways.{calm_round_moves}
use Rattle.node_rules.proofs.Fresh.{fresh_is_calm}
use Rattle.node_rules.proofs.laws.calm_rounds_move.Goals as goal

pub returns-clause-round : goal.returns-clause-round
returns-clause-round c = calm_round_moves c.no_dead_end.ensures.ways c.no_dead_end.ensures.calm

pub returns-clause-fresh : goal.returns-clause-fresh
returns-clause-fresh c = fresh_is_calm
