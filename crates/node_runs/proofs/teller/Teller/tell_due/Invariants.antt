use Rattle.std.proofs.Common.{◌≡◌, max}
use Rattle.stations.specs.Looking.{look_of}
use Rattle.node_runs.specs.Tellers.{TellsSome}
use Rattle.node_runs.proofs.teller.Teller.tell_due.Given as goal

abbrev pub invariant-loop-line : goal.invariant-loop-line
invariant-loop-line g l =
    TellsSome (look_of l.station) l.fn.self.port (max l.fn.self.waiting.limits.clock l.now) l._line l.fn.self.waiting l.self.waiting (g.N.Write.contents l.fn.notes) (g.N.Write.contents l.notes)
    × (l.self.waiting.limits.clock ≡ max l.fn.self.waiting.limits.clock l.now) × (l.self.port ≡ l.fn.self.port)
