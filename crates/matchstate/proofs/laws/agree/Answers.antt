use Rattle.matchstate.proofs.Agreeing.{lines_agree}
use Rattle.matchstate.proofs.laws.agree.Goals as goal

pub returns : goal.returns
returns c = lines_agree c.betting_texts_extend.ensures
