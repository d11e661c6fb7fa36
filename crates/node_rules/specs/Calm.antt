-- A cluster at rest, and the round that moves it on.
use Rattle.std.specs.Prelude.{◌≡◌, ℕ, ◌+◌, ◌*◌, ◌^◌, ◌<◌, ◌≤◌, ◌⊎◌, ◌==◌, true, false, if◌then◌else◌, List, [], ◌∷◌, ◌++◌, length, map, Some}
use Rattle.paxos_wire.specs.declared.limits.TheConstants.{SLOTS, WINDOW}
use Rattle.paxos_wire.specs.declared.ballot.Ballot.{Ballot}
use Rattle.paxos_wire.specs.declared.message.Message.{Message}
use Rattle.paxos_wire.specs.declared.message.Message.TheVariants.{Prepare, Promise, Accept, Accepted}
use Rattle.paxos_wire.specs.Spelling.{frame}
use Rattle.slot_log.specs.declared.command.Command.{Command}
use Rattle.protocol_model.specs.Sets.{In}
use Rattle.protocol_model.specs.Ballots.{Below, AtMost}
use Rattle.protocol_model.specs.Messages.{Vote}
use Rattle.proposer.specs.Campaigns.{next_ballot}
use Rattle.node_rules.specs.Standings.{Place, Standing, front_of}
use Rattle.protocol_model.specs.Votes.{told_by}
use Rattle.node_rules.specs.Proposing.{greatest_seen, is_over, own_value}

-- ---- the members of a quorum

-- the numbers rise, from one on, and are below n
abbrev pub Rise : ℕ → ℕ → List ℕ → Type 0
Rise from n [] = Unit {0}
Rise from n (node ∷ nodes) = (from ≤ node) × (node < n) × Rise (node + 1) n nodes

-- more than half of the nodes, and no more than are wanted for that
pub record IsLeastQuorum (n : ℕ) (members : List ℕ) : Type 0 where
  pub rise : Rise 0 n members
  pub most : n < 2 * length members
  pub least : 2 * length members ≤ n + 2

abbrev pub without : ℕ → List ℕ → List ℕ
without i [] = []
without i (node ∷ nodes) = if node == i then without i nodes else node ∷ without i nodes

-- ---- the ballot and the value

-- the ballot that node i's next tick begins
abbrev pub ballot_after : ℕ → Standing → Ballot
ballot_after i s = next_ballot i (greatest_seen s)

-- a member has this vote at the slot
abbrev pub IsHeld : (ℕ → Standing) → List ℕ → ℕ → Vote → Type 0
IsHeld standings members slot vote = (node : ℕ) × In node members × ((standings node).store.votes slot ≡ Some vote)

-- the command of the greatest ballot among the members' votes at the slot
pub record IsGreatestHeld (standings : ℕ → Standing) (members : List ℕ) (slot : ℕ) (command : Command) : Type 0 where
  pub greatest : Vote
  pub held : IsHeld standings members slot greatest
  pub same : greatest.command ≡ command
  pub above : (vote : Vote) → IsHeld standings members slot vote → AtMost vote.ballot greatest.ballot

-- at the slot and those behind it each has its command of the greatest ballot
abbrev pub AreGreatestHeld : (ℕ → Standing) → List ℕ → ℕ → List Command → Type 0
AreGreatestHeld standings members slot [] = Unit {0}
AreGreatestHeld standings members slot (command ∷ more) = IsGreatestHeld standings members slot command × AreGreatestHeld standings members (slot + 1) more

-- no member has a vote at the slot
abbrev pub IsUnheld : (ℕ → Standing) → List ℕ → ℕ → Type 0
IsUnheld standings members slot = (vote : Vote) → IsHeld standings members slot vote → ⊥

-- where members have votes at the slot, the commands of these and of those behind it, as far as they go: up to the first slot where no member has a
-- vote, up to 64 commands, or to the last slot that there is
pub record IsToldCommandRun (standings : ℕ → Standing) (members : List ℕ) (slot : ℕ) (commands : List Command) : Type 0 where
  pub least : 1 ≤ length commands
  pub most : length commands ≤ WINDOW
  pub slots : slot + length commands ≤ SLOTS
  pub held : AreGreatestHeld standings members slot commands
  pub ends : (length commands ≡ WINDOW) ⊎ ((slot + length commands ≡ SLOTS) ⊎ IsUnheld standings members (slot + length commands))

-- where no member has a vote at the slot, what the node has of its own: its deal where that fits, else the act that waits there
abbrev pub IsOwn : Place → Standing → (ℕ → Standing) → List ℕ → ℕ → Command → Type 0
IsOwn place s standings members slot command = IsUnheld standings members slot × (own_value place s ≡ Some command)

-- these commands are what node i has to propose at its front and behind it
abbrev pub WouldPropose : Place → (ℕ → Standing) → ℕ → List ℕ → List Command → Type 0
WouldPropose place standings i members commands =
    IsToldCommandRun standings members (front_of (standings i)) commands
    ⊎ ((command : Command) × (commands ≡ command ∷ []) × IsOwn place (standings i) standings members (front_of (standings i)) command)

-- ---- rest

-- node i could move the members on, to these commands at its front and behind it
pub record Calm (place : Place) (standings : ℕ → Standing) (i : ℕ) (members : List ℕ) (commands : List Command) : Type 0 where
  pub of_node : place.node ≡ i
  pub quorum : IsLeastQuorum place.nodes members
  pub member : In i members
  pub up : (node : ℕ) → In node members → (standings node).up ≡ true
  pub round_left : (ballot_after i (standings i)).round < 2 ^ 32
  pub slot_left : front_of (standings i) < SLOTS
  pub unpromised : (node : ℕ) → In node members → Below (standings node).store.promise (ballot_after i (standings i))
  pub goes_on : is_over place (standings i) ≡ false
  pub value : WouldPropose place standings i members commands

-- ---- the round

pub data Event : Type 0 where
  Ticks : (node : ℕ) → Event
  Delivers : (from to : ℕ) (bytes : List ℕ) → Event

abbrev pub delivers : ℕ → ℕ → Message → Event
delivers from to message = Delivers from to (frame message)

-- a tick that begins this ballot, and then four times, with each other member in order: it is asked to promise, promises, is asked to accept, and accepts
abbrev pub round_by : Ballot → (ℕ → Standing) → ℕ → List ℕ → List Command → List Event
round_by ballot standings i members commands =
    let slot = front_of (standings i) in
    let others = without i members in
    Ticks i ∷ (map (λ j. delivers i j (Prepare ballot slot)) others
    ++ (map (λ j. delivers j i (Promise ballot slot (told_by (standings j).store slot))) others
    ++ (map (λ j. delivers i j (Accept ballot slot commands)) others
    ++ map (λ j. delivers j i (Accepted ballot slot commands)) others)))

-- that of the ballot that node i's next tick begins
abbrev pub round : (ℕ → Standing) → ℕ → List ℕ → List Command → List Event
round standings i members commands = round_by (ballot_after i (standings i)) standings i members commands
