-- Which messages of the world a frame carries.
use Rattle.std.specs.Prelude.{ℕ, ◌+◌, List, [], ◌∷◌}
use Rattle.paxos_wire.specs.declared.ballot.Ballot.{Ballot}
use Rattle.paxos_wire.specs.declared.message.Message.{Message as Frame}
use Rattle.paxos_wire.specs.declared.message.Message.TheVariants as frame
use Rattle.slot_log.specs.declared.command.Command.{Command}
use Rattle.protocol_model.specs.Messages.{Message, Prepare, Promise, Refuse, Accept, Accepted, Chosen, Ask, Forward}

-- a proposal of each command of a command run: of the first at this slot, of each further one at the slot behind
abbrev pub proposals : Ballot → ℕ → List Command → List Message
proposals ballot slot [] = []
proposals ballot slot (command ∷ more) = Accept ballot slot command ∷ proposals ballot (slot + 1) more

-- that the sender accepted each of them
abbrev pub answers : ℕ → Ballot → ℕ → List Command → List Message
answers sender ballot slot [] = []
answers sender ballot slot (command ∷ more) = Accepted sender ballot slot command ∷ answers sender ballot (slot + 1) more

-- what a frame from the sender says
abbrev pub carried : ℕ → Frame → List Message
carried sender (frame.Prepare ballot slot) = Prepare ballot slot ∷ []
carried sender (frame.Promise ballot slot entries) = Promise sender ballot slot entries ∷ []
carried sender (frame.Refuse ballot slot promised) = Refuse sender ballot slot promised ∷ []
carried sender (frame.Accept ballot slot commands) = proposals ballot slot commands
carried sender (frame.Accepted ballot slot commands) = answers sender ballot slot commands
carried sender (frame.Chosen slot command) = Chosen sender slot command ∷ []
carried sender (frame.Ask slot) = Ask sender slot ∷ []
carried sender (frame.Forward command) = Forward sender command ∷ []
