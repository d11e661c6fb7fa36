use Rattle.betting.proofs.Shown.{showdowns_show_all_rounds}
use Rattle.betting.proofs.laws.showdowns_show_all_rounds.Goals as goal

pub returns : goal.returns
returns c = showdowns_show_all_rounds
