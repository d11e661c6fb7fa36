use Rattle.std.proofs.Common.{◌∙◌}
use Rattle.node_links.proofs.PlainSpeaking.{plain_calls_so}
use Rattle.node_links.proofs.CodedSpeaking.{coded_calls_so}
use Rattle.node_links.proofs.connection.Connection.call.Goals as goal

pub returns-in-None-clause-speaks : goal.returns-in-None-clause-speaks
returns-in-None-clause-speaks c node number key = plain_calls_so node number c.call.result c.args.own (key ∙ c.in-None.is) c.call.ensures.phase c.call.ensures.came c.call.ensures.out

pub returns-in-Some-clause-speaks : goal.returns-in-Some-clause-speaks
returns-in-Some-clause-speaks c node number key =
    coded_calls_so node number c.call-in-Some.result c.in-Some.key c.args.own (key ∙ c.in-Some.is) c.call-in-Some.ensures.stage c.call-in-Some.ensures.phase c.call-in-Some.ensures.key c.call-in-Some.ensures.came c.call-in-Some.ensures.out
