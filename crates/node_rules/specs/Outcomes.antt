-- What comes of a quorum's promises and of a quorum's votes.
use Rattle.std.specs.Prelude.{◌≡◌, ℕ, ◌+◌, ◌<◌, ◌≤◌, ◌⊎◌, ◌≢◌, Bool, true, List, Some, Ok}
use Rattle.paxos_wire.specs.declared.limits.TheConstants.{SLOTS, WINDOW}
use Rattle.paxos_wire.specs.declared.ballot.Ballot.{Ballot}
use Rattle.paxos_wire.specs.declared.message.Message.TheVariants as frame
use Rattle.paxos_wire.specs.Faults.{reading}
use Rattle.slot_log.specs.declared.command.Command.{Command}
use Rattle.protocol_model.specs.Sets.{In}
use Rattle.protocol_model.specs.Ballots.{AtMost}
use Rattle.protocol_model.specs.Messages.{Message, Accept, Accepted}
use Rattle.protocol_model.specs.Frames.{answers}
use Rattle.protocol_model.specs.Votes.{command_run_at}
use Rattle.protocol_model.specs.Quorums.{IsFree, IsQuorum}
use Rattle.protocol_model.specs.Nodes.{Node}
use Rattle.protocol_model.specs.Worlds.{World}
use Rattle.proposer.specs.Counted.{HasQuorum}
use Rattle.node_rules.specs.Standings.{Place, Standing, front_of}
use Rattle.node_rules.specs.Turns.{Turn}
use Rattle.node_rules.specs.Calls.{Call}
use Rattle.node_rules.specs.Calls as call
use Rattle.node_rules.specs.Rules.{IsTurn}
use Rattle.node_rules.specs.Proposing.{own_value}
use Rattle.node_rules.specs.Proposed.{IsValue}
use Rattle.node_rules.specs.Being.{Stands as StandsBy, IsOf}
use Rattle.node_rules.specs.Called.{came_in, Comes, log_before, taken_events, IsSaidTo, Taken}
use Rattle.node_rules.specs.Sound.{Stands}

-- the turn of a call of the node, as a chain of its moves that has lost nothing
abbrev pub IsTaken : (ℕ → Command → Bool) → Place → World → Standing → Call → Turn → Type 0
IsTaken own place world s called turn =
    Taken own place world.ever (world.nodes place.node) (log_before place s) (came_in called) (taken_events place.node (front_of s) s.up called)
    turn.frames turn.shown turn.after

-- a call that was taken, of a standing of a node of a reached world, and the node still runs
pub record IsAnswered (own : ℕ → Command → Bool) (place : Place) (world : World) (s : Standing) (called : Call) (turn : Turn) : Type 0 where
  pub stands : Stands own place world s
  pub comes : Comes place world.ever called
  pub turn_is : IsTurn place s called (Ok turn)
  pub runs : turn.after.up ≡ true

-- ---- a quorum's promises make a proposal

-- the node began the ballot since its start, promised none since and got no refusal that tells a greater one; it has promises of it by a quorum, its own
-- counted; its front is one of the 64 slots that they cover
pub record IsElected (place : Place) (s : Standing) (node : Node) (ballot : Ballot) (first : ℕ) : Type 0 where
  pub stands_by : StandsBy node ballot first
  pub quorum : HasQuorum place.nodes node.has ballot first
  pub near : front_of s < first + WINDOW
  pub is_slot : front_of s < SLOTS

-- there is something to propose at the front: each quorum's promises tell of a command there, or the node has one of its own
abbrev pub HasValue : Place → Standing → Node → Ballot → Type 0
HasValue place s node ballot = ¬ IsFree place.nodes node.has ballot (front_of s) ⊎ ((command : Command) × (own_value place s ≡ Some command))

-- a command that is the value at the front by the rule of the close is proposed there in the ballot: the node has voted for it itself, and sent it to each other node,
-- before this call since its start, or by frames of this call
pub record HasProposed (place : Place) (old : Node) (turn : Turn) (node : Node) (ballot : Ballot) : Type 0 where
  pub command : Command
  pub value : IsValue place.nodes node.has ballot (front_of turn.after) (own_value place turn.after) command
  pub voted : node.store.votes (front_of turn.after) ≡ Some (record { ballot = ballot; command = command })
  pub sent : In (Accept ballot (front_of turn.after) command) node.sent
  pub said : In (Accept ballot (front_of turn.after) command) old.sent
      ⊎ ((to : ℕ) → to < place.nodes → to ≢ place.node → IsSaidTo place.node turn.frames to (Accept ballot (front_of turn.after) command))

-- after each call that a node took: where it has a quorum's promises and something to propose at its front, it has proposed there
abbrev pub PromisesMakeProposals : Type 0
PromisesMakeProposals =
    (own : ℕ → Command → Bool) (place : Place) (world : World) (s : Standing) (called : Call) (turn : Turn) (ballot : Ballot) (first : ℕ)
    → IsAnswered own place world s called turn → (taken : IsTaken own place world s called turn)
    → IsElected place turn.after taken.called.last ballot first → HasValue place turn.after taken.called.last ballot
    → HasProposed place (world.nodes place.node) turn taken.called.last ballot

-- ---- learning

-- the slot is one of the 64 from the front on
pub record IsAhead (s : Standing) (slot : ℕ) : Type 0 where
  pub reached : front_of s ≤ slot
  pub within : slot < front_of s + WINDOW
  pub is_slot : slot < SLOTS

-- the front is the first slot whose command the node doesn't know
abbrev pub FrontIsUnknown : Type 0
FrontIsUnknown =
    (own : ℕ → Command → Bool) (place : Place) (world : World) (s : Standing) (called : Call) (turn : Turn)
    → IsAnswered own place world s called turn → (taken : IsTaken own place world s called turn)
    → ((slot : ℕ) → slot < front_of turn.after → (command : Command) × In (slot, command) taken.called.last.known)
    × ((command : Command) → In (front_of turn.after, command) taken.called.last.known → ⊥)

-- what another node tells as chosen at a slot ahead is known
abbrev pub ToldIsKnown : Type 0
ToldIsKnown =
    (own : ℕ → Command → Bool) (place : Place) (world : World) (s : Standing) (from : ℕ) (bytes : List ℕ) (turn : Turn) (slot : ℕ) (command : Command)
    → IsAnswered own place world s (call.Frame from bytes) turn → (taken : IsTaken own place world s (call.Frame from bytes) turn)
    → s.up ≡ true → reading bytes ≡ Ok (frame.Chosen slot command) → IsAhead s slot
    → In (slot, command) taken.called.last.known

-- the votes that a node which runs got in time: those that came while their slots were ahead
abbrev pub in_time : (own : ℕ → Command → Bool) (place : Place) (s : Standing) (node : Node) → IsOf own place s node → s.up ≡ true → List Message
in_time own place s node of up = (of.runs up).knows.learner.in_time

-- the call brings this vote of a node: it came with it, or it is the node's own for an Accept that came with it, of the beginning that is taken of
-- its commands
pub data Brings (place : Place) (s : Standing) (called : Call) (voter : ℕ) (ballot : Ballot) (slot : ℕ) (command : Command) : Type 0 where
  came : In (Accepted voter ballot slot command) (came_in called) → Brings place s called voter ballot slot command
  own_vote : (from first : ℕ) (bytes : List ℕ) (commands : List Command) → called ≡ call.Frame from bytes → reading bytes ≡ Ok (frame.Accept ballot first commands)
      → AtMost s.store.promise ballot → voter ≡ place.node
      → In (Accepted place.node ballot slot command) (answers place.node ballot first (command_run_at s.store ballot first commands))
      → Brings place s called voter ballot slot command

-- it got the vote in time, or the call brings it in time
abbrev pub HasVote : (own : ℕ → Command → Bool) (place : Place) (world : World) (s : Standing) (called : Call) (turn : Turn)
    → Stands own place world s → s.up ≡ true → IsTaken own place world s called turn → ℕ → Ballot → ℕ → Command → Type 0
HasVote own place world s called turn stands up taken voter ballot slot command =
    In (Accepted voter ballot slot command) (in_time own place s (world.nodes place.node) stands.of up)
    ⊎ (Brings place s called voter ballot slot command × IsAhead s slot)

-- what a node got in time, or what a call brings in time, it has in time after the call, as long as its slot isn't passed
abbrev pub VotesStayInTime : Type 0
VotesStayInTime =
    (own : ℕ → Command → Bool) (place : Place) (world : World) (s : Standing) (called : Call) (turn : Turn) (voter : ℕ) (ballot : Ballot) (slot : ℕ) (command : Command)
    → (answered : IsAnswered own place world s called turn) → (up : s.up ≡ true) → (taken : IsTaken own place world s called turn)
    → voter < place.nodes → slot < SLOTS → front_of turn.after ≤ slot
    → HasVote own place world s called turn answered.stands up taken voter ballot slot command
    → In (Accepted voter ballot slot command) (in_time own place turn.after taken.called.last taken.called.of answered.runs)

-- a command for which a quorum's votes in one ballot came in time is known
abbrev pub QuorumIsKnown : Type 0
QuorumIsKnown =
    (own : ℕ → Command → Bool) (place : Place) (world : World) (s : Standing) (called : Call) (turn : Turn) (ballot : Ballot) (slot : ℕ) (command : Command)
    → (answered : IsAnswered own place world s called turn) → (up : s.up ≡ true) → (taken : IsTaken own place world s called turn)
    → (quorum : ℕ → Bool) → IsQuorum place.nodes quorum
    → ((voter : ℕ) → voter < place.nodes → quorum voter ≡ true → HasVote own place world s called turn answered.stands up taken voter ballot slot command)
    → In (slot, command) taken.called.last.known
