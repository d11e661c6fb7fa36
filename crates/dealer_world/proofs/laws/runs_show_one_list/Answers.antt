use Rattle.dealer_world.proofs.Keeping.{runs_show_one_list}
use Rattle.dealer_world.proofs.laws.runs_show_one_list.Goals as goal

pub returns : goal.returns
returns c = runs_show_one_list c.layers_below.ensures c.one_dealer.ensures.list c.one_choice.ensures.lists c.deals_are_owned_acts_are_said_and_aways_are_ordered.ensures.chosen
