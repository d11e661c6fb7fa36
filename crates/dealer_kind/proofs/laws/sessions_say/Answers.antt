use Rattle.dealer_kind.proofs.Saying.{sessions_say, said_is_heard}
use Rattle.dealer_kind.proofs.laws.sessions_say.Goals as goal

pub returns-clause-heard : goal.returns-clause-heard
returns-clause-heard c = sessions_say c.an_answer_has_one_text.ensures c.fits_without_reason.ensures

pub returns-clause-only : goal.returns-clause-only
returns-clause-only c = said_is_heard c.fits_without_reason.ensures c.right_lines_act.ensures
