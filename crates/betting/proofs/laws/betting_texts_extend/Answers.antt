use Rattle.betting.proofs.LegalLaws.{betting_texts_extend}
use Rattle.betting.proofs.laws.betting_texts_extend.Goals as goal

pub returns : goal.returns
returns c = betting_texts_extend
