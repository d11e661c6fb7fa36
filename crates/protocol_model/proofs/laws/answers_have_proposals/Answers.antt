-- By what stands behind each message, and what a node sent since its start.
use Rattle.protocol_model.specs.Messages.{Accepted}
use Rattle.protocol_model.proofs.Runs.{world_facts}
use Rattle.protocol_model.proofs.laws.answers_have_proposals.Goals as goal

pub returns-clause-proposed : goal.returns-clause-proposed
returns-clause-proposed c dealer n sender world ballot slot command run here =
    (world_facts dealer n world run).facts.right (Accepted sender ballot slot command) here

pub returns-clause-own : goal.returns-clause-own
returns-clause-own c dealer n i world ballot first slot command run began here =
    ((world_facts dealer n world run).nodes i).fresh ballot first slot command began here
