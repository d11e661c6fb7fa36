use Rattle.seat_session.proofs.OneAnswer.{one_answer}
use Rattle.seat_session.proofs.laws.one_answer.Goals as goal

pub returns : goal.returns
returns c = one_answer c.a_text_reads_one_way.ensures.answer c.allowed_without_fault.ensures
