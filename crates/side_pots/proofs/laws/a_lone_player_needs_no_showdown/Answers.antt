use Rattle.side_pots.proofs.Alone.{lone_player_needs_no_showdown}
use Rattle.side_pots.proofs.laws.a_lone_player_needs_no_showdown.Goals as goal

pub returns : goal.returns
returns c = lone_player_needs_no_showdown
