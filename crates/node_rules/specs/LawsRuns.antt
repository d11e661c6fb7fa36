-- What a proposal has in it: the commands that the promises of its ballot tell, slot by slot, or the node's own one alone.
use Rattle.std.specs.Prelude.{◌≡◌, ℕ, ◌+◌, ◌≤◌, ◌⊎◌, Bool, true, List, [], ◌∷◌, length, Option, Some}
use Rattle.paxos_wire.specs.declared.limits.TheConstants.{SLOTS, WINDOW}
use Rattle.paxos_wire.specs.declared.ballot.Ballot.{Ballot}
use Rattle.paxos_wire.specs.declared.message.Message.TheVariants as frame
use Rattle.slot_log.specs.declared.command.Command.{Command}
use Rattle.protocol_model.specs.Sets.{In}
use Rattle.protocol_model.specs.Messages.{Message, Prepare, Accept}
use Rattle.protocol_model.specs.Quorums.{IsFree, IsGreatestTold}
use Rattle.protocol_model.specs.Worlds.{World}
use Rattle.node_rules.specs.Standings.{Place, Standing, front_of}
use Rattle.node_rules.specs.Sending.{Frame}
use Rattle.node_rules.specs.Turns.{Turn}
use Rattle.node_rules.specs.Calls.{Call}
use Rattle.node_rules.specs.Proposing.{own_value}
use Rattle.node_rules.specs.Outcomes.{IsTaken, IsAnswered}

-- each command is the told one of the greatest ballot at its slot: the first at this slot, each further one at the slot behind
abbrev pub AreGreatestTold : ℕ → List Message → Ballot → ℕ → List Command → Type 0
AreGreatestTold n has ballot slot [] = Unit {0}
AreGreatestTold n has ballot slot (command ∷ more) = IsGreatestTold n has ballot slot command × AreGreatestTold n has ballot (slot + 1) more

-- no told command may follow at the slot: it is behind the 64 slots from the first one on, or there is no such slot, or none is told of it, or one
-- was proposed there
abbrev pub EndsAt : ℕ → List Message → List Message → Ballot → ℕ → ℕ → Type 0
EndsAt n has sent ballot first slot =
    (slot ≡ first + WINDOW) ⊎ ((slot ≡ SLOTS) ⊎ (IsFree n has ballot slot ⊎ ((command : Command) × In (Accept ballot slot command) sent)))

-- what a node with these messages, which had sent those, proposes in a ballot that covers the 64 slots from the first one on: told commands, as
-- far as they may follow one another, or where none is told at the slot what it has of its own, alone
abbrev pub IsProposal : ℕ → List Message → Option Command → List Message → Ballot → ℕ → ℕ → List Command → Type 0
IsProposal n has own sent ballot first slot commands =
    ((1 ≤ length commands) × AreGreatestTold n has ballot slot commands × EndsAt n has sent ballot first (slot + length commands))
    ⊎ ((command : Command) × (commands ≡ command ∷ []) × IsFree n has ballot slot × (own ≡ Some command))

-- the node began the ballot since its start; the proposal begins at the front, is of slots that there are, and is one by what the node of the world
-- has got
pub record IsMade (place : Place) (turn : Turn) (sent has began : List Message) (ballot : Ballot) (slot : ℕ) (commands : List Command) : Type 0 where
  pub first : ℕ
  pub prepared : In (Prepare ballot first) began
  pub at_front : slot ≡ front_of turn.after
  pub slots : slot + length commands ≤ SLOTS
  pub proposal : IsProposal place.nodes has (own_value place turn.after) sent ballot first slot commands

-- each proposal that a call sends
abbrev pub CommandRunsAreTold : Type 0
CommandRunsAreTold =
    (own : ℕ → Command → Bool) (place : Place) (world : World) (s : Standing) (called : Call) (turn : Turn) (f : Frame)
    (ballot : Ballot) (slot : ℕ) (commands : List Command)
    → IsAnswered own place world s called turn → s.up ≡ true → (taken : IsTaken own place world s called turn)
    → In f turn.frames → f.message ≡ frame.Accept ballot slot commands
    → IsMade place turn (world.nodes place.node).sent taken.called.last.has taken.called.last.sent ballot slot commands
