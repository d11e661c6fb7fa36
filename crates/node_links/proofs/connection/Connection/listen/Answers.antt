use Rattle.std.proofs.Common.{◌∙◌}
use Rattle.node_links.proofs.PlainSpeaking.{plain_listens_so}
use Rattle.node_links.proofs.CodedSpeaking.{coded_listens_so}
use Rattle.node_links.proofs.connection.Connection.listen.Goals as goal

pub returns-in-None-clause-speaks : goal.returns-in-None-clause-speaks
returns-in-None-clause-speaks c node key = plain_listens_so node c.listen.result (key ∙ c.in-None.is) c.listen.ensures.phase c.listen.ensures.came c.listen.ensures.out

pub returns-in-Some-clause-speaks : goal.returns-in-Some-clause-speaks
returns-in-Some-clause-speaks c node key =
    coded_listens_so node c.listen-in-Some.result c.in-Some.key (key ∙ c.in-Some.is) c.listen-in-Some.ensures.stage c.listen-in-Some.ensures.phase c.listen-in-Some.ensures.key c.listen-in-Some.ensures.came c.listen-in-Some.ensures.out
