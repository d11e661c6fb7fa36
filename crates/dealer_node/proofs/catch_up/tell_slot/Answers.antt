use Rattle.dealer_node.proofs.Told.{told_none, told_some, said_none, said_some}
use Rattle.dealer_node.proofs.catch_up.tell_slot.Goals as goal

pub returns-in-None-clause-texts : goal.returns-in-None-clause-texts
returns-in-None-clause-texts c = told_none c.args.frames.now.texts c.args.log.now.log c.args.to c.args.slot c.in-None.ensures

pub returns-clause-texts : goal.returns-clause-texts
returns-clause-texts c = told_some c.args.frames.now.texts c.send.new.frames.texts c.args.log.now.log c.args.to c.args.slot c.in-Some.command.now c.in-Some.ensures c.send.ensures.texts

pub returns-in-None-clause-fits : goal.returns-in-None-clause-fits
returns-in-None-clause-fits c = said_none c.args.log.now.log c.args.to c.args.slot c.in-None.ensures

pub returns-clause-fits : goal.returns-clause-fits
returns-clause-fits c = said_some c.args.log.now.log c.args.to c.args.slot c.in-Some.command.now c.in-Some.ensures c.send.ensures.message
