use Rattle.stations.specs.Looking.{look_of}
use Rattle.node_runs.specs.NoteLimits.{waiting_at}
use Rattle.node_runs.specs.Tellers.{TellsOf}
use Rattle.node_runs.proofs.Telling.{below}
use Rattle.node_runs.proofs.teller.Teller.tell_rest.Given as goal

abbrev pub invariant-loop-group : goal.invariant-loop-group
invariant-loop-group g l =
    TellsOf (look_of l.station) l.self.port (below (waiting_at l.self.waiting.limits) l.group) (below (λ _. 1) l.group) l.self.waiting (g.N.Write.contents l.fn.notes) (g.N.Write.contents l.notes)
