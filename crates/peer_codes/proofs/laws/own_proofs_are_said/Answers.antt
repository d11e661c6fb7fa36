use Rattle.peer_codes.proofs.TellingLaws.{out_stays, asked_answers, asked_in_another, refused_answers, others_answer_nothing}
use Rattle.peer_codes.proofs.laws.own_proofs_are_said.Goals as goal

pub returns-clause-next : goal.returns-clause-next
returns-clause-next c = out_stays

pub returns-clause-answer : goal.returns-clause-answer
returns-clause-answer c = asked_answers

pub returns-clause-other : goal.returns-clause-other
returns-clause-other c = asked_in_another

pub returns-clause-refusal : goal.returns-clause-refusal
returns-clause-refusal c = refused_answers

pub returns-clause-others : goal.returns-clause-others
returns-clause-others c = others_answer_nothing
