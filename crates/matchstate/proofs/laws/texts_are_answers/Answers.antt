use Rattle.matchstate.proofs.RightTexts.{texts_are_answers}
use Rattle.matchstate.proofs.laws.texts_are_answers.Goals as goal

pub returns : goal.returns
returns c = texts_are_answers
