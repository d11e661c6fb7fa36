use Rattle.matchstate.proofs.OneBetting.{betting_texts_are_one_to_one}
use Rattle.matchstate.proofs.laws.betting_texts_are_one_to_one.Goals as goal

pub returns : goal.returns
returns c = betting_texts_are_one_to_one
