-- By what holds of each node in every reached world.
use Rattle.protocol_model.specs.Messages.{Chosen}
use Rattle.protocol_model.proofs.Quorums.{chosen_stays}
use Rattle.protocol_model.proofs.Runs.{world_facts}
use Rattle.protocol_model.proofs.laws.known_is_chosen.Goals as goal

pub returns-clause-known : goal.returns-clause-known
returns-clause-known c dealer n i world slot command reached known =
    let node = (world_facts dealer n world reached).nodes i in node.known slot command known

pub returns-clause-told : goal.returns-clause-told
returns-clause-told c dealer n sender world slot command reached told =
    let facts = (world_facts dealer n world reached).facts in facts.right (Chosen sender slot command) told

pub returns-clause-answered : goal.returns-clause-answered
returns-clause-answered c dealer n i world slot command reached chosen =
    let node = (world_facts dealer n world reached).nodes i in chosen_stays n (world.nodes i).has world.ever slot command node.has chosen
