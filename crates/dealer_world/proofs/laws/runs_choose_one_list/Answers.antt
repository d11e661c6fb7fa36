use Rattle.dealer_world.proofs.Applied.{runs_choose_one_list}
use Rattle.dealer_world.proofs.laws.runs_choose_one_list.Goals as goal

pub returns : goal.returns
returns c = runs_choose_one_list c.layers_below.ensures c.one_choice.ensures.lists
