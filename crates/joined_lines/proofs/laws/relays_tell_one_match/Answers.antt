use Rattle.joined_lines.proofs.Joining.{relays_tell_one_match}
use Rattle.joined_lines.proofs.laws.relays_tell_one_match.Goals as goal

pub returns : goal.returns
returns g c =
    relays_tell_one_match g.D.Disk c.tables_are_of_one_match.ensures c.hands_end.ensures c.commands_make_hands.ensures c.past_is_of_beginnings.ensures.beginning c.next_cursor_stays.ensures
    c.cursors_tell_the_lines.ensures.part c.cursors_tell_the_lines.ensures.beginning c.dealers_lines_ascend.ensures c.bots_are_given_one_dealers_lines.ensures c.courses_explain.ensures c.whole_matches_are_written.ensures
