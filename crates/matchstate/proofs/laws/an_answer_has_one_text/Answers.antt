use Rattle.matchstate.proofs.OneAnswer.{answers_are_texts}
use Rattle.matchstate.proofs.laws.an_answer_has_one_text.Goals as goal

pub returns : goal.returns
returns c = answers_are_texts
