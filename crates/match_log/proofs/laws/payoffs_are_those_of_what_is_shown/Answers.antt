use Rattle.match_log.proofs.ShownPayoffs.{payoffs_shown}
use Rattle.match_log.proofs.laws.payoffs_are_those_of_what_is_shown.Goals as goal

pub returns : goal.returns
returns c = payoffs_shown c.deal_texts_are_one_to_one.ensures.shown c.showdowns_show_all_rounds.ensures c.a_lone_player_needs_no_showdown.ensures
