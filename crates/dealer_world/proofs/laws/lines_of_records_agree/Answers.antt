use Rattle.dealer_world.proofs.Reading.{lines_agree}
use Rattle.dealer_world.proofs.laws.lines_of_records_agree.Goals as goal

pub returns : goal.returns
returns c = lines_agree c.agree.ensures
