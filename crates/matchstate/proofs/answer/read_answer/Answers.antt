use Rattle.std.proofs.Common.{rules}
use Rattle.matchstate.proofs.Answered.{fault_of_line}
use Rattle.matchstate.proofs.answer.read_answer.Goals as goal

pub returns-in-Err : goal.returns-in-Err
returns-in-Err c =
    fault_of_line c.args.game.now c.args.bytes.now c.in-Some.line.now c.in-Some.field.now c.in-Err.fault
    (record { whole = c.in-Some.ensures.found.0; last = c.in-Some.ensures.found.1 }) c.in-Err.ensures

pub returns-in-None : goal.returns-in-None
returns-in-None c = search rules
