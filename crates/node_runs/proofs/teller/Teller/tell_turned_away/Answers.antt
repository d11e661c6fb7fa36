use Rattle.std.proofs.Common.{sym, refl, ◌∙◌}
use Rattle.stations.specs.Looking.{look_of}
use Rattle.node_runs.specs.Tellers as teller
use Rattle.node_runs.specs.Tellers.{TurnsAway}
use Rattle.node_runs.proofs.Telling.{told_away}
use Rattle.node_runs.proofs.teller.Teller.tell_turned_away.Goals as goal

pub returns-then-count-eq0-clause-away : goal.returns-then-count-eq0-clause-away
returns-then-count-eq0-clause-away g c = teller.TurnsAway.none (sym c.saturating_sub-count.ensures ∙ c.if-count-eq0.true) refl

pub returns-clause-away : goal.returns-clause-away
returns-clause-away g c = rw c.saturating_sub-count.ensures at
    (told_away (look_of c.args.station.now) c.args.self.now.port c.saturating_sub-count.result c.take_count-is_told.result c.args.self.now.waiting c.take_count-is_told.new.self _ _ c.take_count-is_told.ensures.takes c.tell_group_if.ensures)
