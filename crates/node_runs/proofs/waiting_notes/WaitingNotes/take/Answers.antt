use Rattle.std.proofs.Common.{refl}
use Rattle.node_runs.proofs.Waiting.{same_clock, takes_one}
use Rattle.node_runs.proofs.waiting_notes.WaitingNotes.take.Goals as goal

pub returns-clause-takes : goal.returns-clause-takes
returns-clause-takes c =
    takes_one c.args.told.now c.note.new.self.clock _ c.args.self.now c.keep.new.self _ c.group_of-group.result c.weight_of.result
    (same_clock c.args.self.now.limits c.keep.new.self.limits c.note.new.self c.clock-now.result c.keep.ensures.limits c.clock-now.ensures c.note.ensures.clock) c.group_of-group.ensures.value c.weight_of.ensures
    c.keep.ensures.limits c.keep.ensures.newest refl c.note.ensures.account c.note.ensures.at_once

pub returns-clause-clock : goal.returns-clause-clock
returns-clause-clock c = same_clock c.args.self.now.limits c.keep.new.self.limits c.note.new.self c.clock-now.result c.keep.ensures.limits c.clock-now.ensures c.note.ensures.clock
