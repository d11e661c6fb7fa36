-- By the facts about messages that hold in every reached world.
use Rattle.protocol_model.proofs.Choice.{later_carries, one_chosen}
use Rattle.protocol_model.proofs.Dealing.{shorter_begins}
use Rattle.protocol_model.proofs.Runs.{world_facts}
use Rattle.protocol_model.proofs.laws.one_choice.Goals as goal

pub returns-clause-carried : goal.returns-clause-carried
returns-clause-carried c dealer n world lower greater slot chosen command reached is_chosen below proposed =
    later_carries dealer n world.ever lower slot chosen (world_facts dealer n world reached).facts is_chosen greater command below proposed

pub returns-clause-one : goal.returns-clause-one
returns-clause-one c dealer n world slot a b reached first second =
    one_chosen dealer n world.ever slot a b (world_facts dealer n world reached).facts first second

pub returns-clause-lists : goal.returns-clause-lists
returns-clause-lists c = shorter_begins
