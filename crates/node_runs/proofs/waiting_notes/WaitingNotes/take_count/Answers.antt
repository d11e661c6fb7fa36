use Rattle.std.proofs.Common.{refl}
use Rattle.node_runs.proofs.Waiting.{same_clock, takes_count}
use Rattle.node_runs.proofs.waiting_notes.WaitingNotes.take_count.Goals as goal

pub returns-clause-takes : goal.returns-clause-takes
returns-clause-takes c =
    takes_count c.note.new.self.clock c.args.group c.args.count c.note.result c.args.self.now _
    (same_clock c.args.self.now.limits c.args.self.now.limits c.note.new.self c.clock-now.result refl c.clock-now.ensures c.note.ensures.clock) refl c.note.ensures.account c.note.ensures.at_once

pub returns-clause-clock : goal.returns-clause-clock
returns-clause-clock c = same_clock c.args.self.now.limits c.args.self.now.limits c.note.new.self c.clock-now.result refl c.clock-now.ensures c.note.ensures.clock
