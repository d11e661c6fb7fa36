use Rattle.slot_log.specs.Slots.{known_at}
use Rattle.learner.specs.Learning.{is_other}
use Rattle.learner.proofs.Log.{answer_is, log_is}
use Rattle.learner.proofs.hearing.put.Goals as goal

pub returns-clause-answer : goal.returns-clause-answer
returns-clause-answer c =
    answer_is c.args.slot (known_at c.args.log.now.log c.args.slot) c.args.command c.put_reserved.result c.requires.slot c.put_reserved.ensures.ok c.put_reserved.ensures.conflict

pub returns-clause-log : goal.returns-clause-log
returns-clause-log c =
    log_is c.args.log.now.log c.args.slot c.args.command c.put_reserved.new.self.log c.put_reserved.result (is_other (known_at c.args.log.now.log c.args.slot) c.args.command)
    (answer_is c.args.slot (known_at c.args.log.now.log c.args.slot) c.args.command c.put_reserved.result c.requires.slot c.put_reserved.ensures.ok c.put_reserved.ensures.conflict)
    c.put_reserved.ensures.log
