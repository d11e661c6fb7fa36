use Rattle.learner.specs.Cells.{learned_by}
use Rattle.learner.proofs.HeardRuns.{answer_past, hearing_past}
use Rattle.std.proofs.Common.{arith}
use Rattle.learner.proofs.hearing.hear_run.Goals as goal

pub returns-then-slot-ge-SLOTS-clause-answer : goal.returns-then-slot-ge-SLOTS-clause-answer
returns-then-slot-ge-SLOTS-clause-answer c =
    answer_past (learned_by c.args.nodes c.args.cells.now.items c.args.log.now.log) c.args.from c.args.ballot c.args.slot c.args.commands.now (omega arith) c.requires.most

pub returns-then-slot-ge-SLOTS-clause-learned : goal.returns-then-slot-ge-SLOTS-clause-learned
returns-then-slot-ge-SLOTS-clause-learned c =
    hearing_past (learned_by c.args.nodes c.args.cells.now.items c.args.log.now.log) c.args.from c.args.ballot c.args.slot c.args.commands.now (omega arith)
