use Rattle.peer_codes.proofs.CallLaws.{next_happens, next_waits, answer_happens, begin_happens}
use Rattle.peer_codes.proofs.laws.calls_happen.Goals as goal

pub returns-clause-next : goal.returns-clause-next
returns-clause-next c = next_happens

pub returns-clause-waits : goal.returns-clause-waits
returns-clause-waits c = next_waits

pub returns-clause-answer : goal.returns-clause-answer
returns-clause-answer c = answer_happens

pub returns-clause-begin : goal.returns-clause-begin
returns-clause-begin c = begin_happens
