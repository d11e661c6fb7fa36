use Rattle.joined_lines.proofs.Joining.{connections_tell_one_match}
use Rattle.joined_lines.proofs.laws.connections_tell_one_match.Goals as goal

pub returns : goal.returns
returns g c = connections_tell_one_match g.D.Disk c.tables_are_of_one_match.ensures c.commands_make_hands.ensures c.past_is_of_beginnings.ensures.beginning c.cursors_tell_the_lines.ensures.part c.bots_are_given_one_dealers_lines.ensures
