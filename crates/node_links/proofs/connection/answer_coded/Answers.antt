use Rattle.std.proofs.Common.{refl, ap}
use Rattle.peer_codes.specs.declared.hello.Link.{Link}
use Rattle.peer_codes.specs.Steps.{is_coded}
use Rattle.node_links.proofs.CodedSaying.{coded_answers}
use Rattle.node_links.proofs.CodedSpeaking.{coded_answers_so, coded_unanswered_so}
use Rattle.node_links.proofs.connection.answer_coded.Goals as goal

pub returns-in-Coded-clause-goes : goal.returns-in-Coded-clause-goes
returns-in-Coded-clause-goes c = coded_answers c.args.coded.now c.answer.new.self c.args.own (ap (λ (l : Link). is_coded l) c.in-Coded.is) c.answer.ensures

pub returns-in-Coded-clause-speaks : goal.returns-in-Coded-clause-speaks
returns-in-Coded-clause-speaks c = coded_answers_so c.args.coded.now c.answer.new.self c.args.own c.answer.ensures

pub returns-in-Plain-clause-speaks : goal.returns-in-Plain-clause-speaks
returns-in-Plain-clause-speaks c = coded_unanswered_so c.args.coded.now c.args.coded.now c.args.own refl
