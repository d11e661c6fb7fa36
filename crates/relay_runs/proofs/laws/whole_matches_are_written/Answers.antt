use Rattle.relay_runs.proofs.Ending.{whole_matches_are_written}
use Rattle.relay_runs.proofs.laws.whole_matches_are_written.Goals as goal

pub returns : goal.returns
returns c = whole_matches_are_written c.over_is_the_end.ensures
