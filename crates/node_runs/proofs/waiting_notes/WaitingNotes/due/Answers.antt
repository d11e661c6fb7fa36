use Rattle.std.proofs.Common.{refl}
use Rattle.node_runs.proofs.Waiting.{due_some, same_clock}
use Rattle.node_runs.proofs.waiting_notes.WaitingNotes.due.Goals as goal

pub returns-clause-clock : goal.returns-clause-clock
returns-clause-clock c = same_clock c.args.self.now.limits c.args.self.now.limits c.due.new.self c.clock-now.result refl c.clock-now.ensures c.due.ensures.clock

pub returns-clause-some : goal.returns-clause-some
returns-clause-some c = due_some c.due.result c.args.self.now _ refl c.due.ensures.account

pub returns-clause-same : goal.returns-clause-same
returns-clause-same c = λ none things came lines holds. record { account = c.due.ensures.same none came lines holds.account; newest = holds.newest }
