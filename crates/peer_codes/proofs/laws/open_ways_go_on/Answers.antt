use Rattle.peer_codes.proofs.StepLaws.{open_by_codes, open_goes_on}
use Rattle.peer_codes.proofs.laws.open_ways_go_on.Goals as goal

pub returns-clause-coded : goal.returns-clause-coded
returns-clause-coded c = open_by_codes

pub returns-clause-on : goal.returns-clause-on
returns-clause-on c = open_goes_on
