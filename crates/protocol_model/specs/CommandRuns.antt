-- A command run as moves send it: one message for each slot, the newest first, since the lowest slot goes first.
use Rattle.std.specs.Prelude.{ℕ, ◌+◌, List, [], ◌∷◌, ◌++◌}
use Rattle.paxos_wire.specs.declared.ballot.Ballot.{Ballot}
use Rattle.slot_log.specs.declared.command.Command.{Command}
use Rattle.protocol_model.specs.Messages.{Message, Accept, Accepted}
use Rattle.protocol_model.specs.Sets.{In}
use Rattle.protocol_model.specs.Quorums.{IsGreatestTold}
use Rattle.protocol_model.specs.Moves.{Output}

-- a proposal of each command
abbrev pub proposed : Ballot → ℕ → List Command → List Message
proposed ballot slot [] = []
proposed ballot slot (command ∷ more) = proposed ballot (slot + 1) more ++ Accept ballot slot command ∷ []

-- that the sender accepted each
abbrev pub answered : ℕ → Ballot → ℕ → List Command → List Message
answered sender ballot slot [] = []
answered sender ballot slot (command ∷ more) = answered sender ballot (slot + 1) more ++ Accepted sender ballot slot command ∷ []

abbrev pub sending_all : List Message → Output
sending_all messages = record { sent = messages; shown = []; came = [] }

-- each command is the told one of the greatest ballot at its slot, and nothing was proposed there in the ballot
abbrev pub MayProposeEach : ℕ → List Message → List Message → Ballot → ℕ → List Command → Type 0
MayProposeEach n has sent ballot slot [] = Unit {0}
MayProposeEach n has sent ballot slot (command ∷ more) =
    IsGreatestTold n has ballot slot command × ((other : Command) → In (Accept ballot slot other) sent → ⊥) × MayProposeEach n has sent ballot (slot + 1) more
