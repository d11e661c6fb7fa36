use Rattle.dealer_kind.proofs.Saying.{answers_are_heard}
use Rattle.dealer_kind.proofs.laws.answers_are_heard.Goals as goal

pub returns : goal.returns
returns c = answers_are_heard c.whole_lines.ensures c.an_answer_has_one_text.ensures c.fits_without_reason.ensures
