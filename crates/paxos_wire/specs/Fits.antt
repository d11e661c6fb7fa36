-- Which ballots, commands and messages have a frame: the ranges of their numbers.
use Rattle.std.specs.Prelude.{◌≡◌, ℕ, ◌+◌, ◌*◌, ◌^◌, ◌<◌, ◌≤◌, List, [], ◌∷◌, length, map}
use Rattle.std.specs.List.{AllByRecursion}
use Rattle.card_core.specs.Deal.{IsDeal, player_count}
use Rattle.slot_log.specs.declared.command.Command.{Command}
use Rattle.slot_log.specs.declared.command.Command.TheVariants.{Deal, Act, Away}
pub use Rattle.slot_log.specs.Range.{IsInRange}
use Rattle.paxos_wire.specs.declared.limits.TheConstants.{NODES, OLD_NODES, SLOTS, WINDOW, MOST_COMMAND, RUN_FRONT, MOST_SINGLE_FRAME, MOST_FRAME}
use Rattle.paxos_wire.specs.declared.ballot.Ballot.{Ballot}
use Rattle.paxos_wire.specs.declared.entry.Entry.{Entry}
use Rattle.paxos_wire.specs.declared.message.Message.{Message}
use Rattle.paxos_wire.specs.declared.message.Message.TheVariants.{Prepare, Promise, Refuse, Accept, Accepted, Chosen, Ask, Forward}

-- a round from 1 on, of a node that there is
pub record IsBallot (b : Ballot) : Type 0 where
  pub first : 1 ≤ b.round
  pub last : b.round < 2 ^ 32
  pub node : b.node < NODES

-- slots are counted from 0
abbrev pub IsSlot : ℕ → Type 0
IsSlot slot = slot < SLOTS

-- the cards are those of a deal for two to ten players
pub record AreDealt (cards : List ℕ) : Type 0 where
  pub least : 2 ≤ player_count cards
  pub most : player_count cards ≤ 10
  pub deal : IsDeal (player_count cards) cards

-- the cards of a deal are dealt, as those of each value of the program are
abbrev pub IsDealt : Command → Type 0
IsDealt (Deal hand cards) = AreDealt cards
IsDealt (Act hand index action) = Unit {0}
IsDealt (Away hand index) = Unit {0}

-- a command that has a text
pub record IsCommand (c : Command) : Type 0 where
  pub numbers : IsInRange c
  pub cards : IsDealt c

-- the command may be handed on for another node to propose: an act of a player, or what stands for one who is away, and no deal
abbrev pub MayGoOn : Command → Type 0
MayGoOn (Deal hand cards) = ⊥
MayGoOn (Act hand index action) = Unit {0}
MayGoOn (Away hand index) = Unit {0}

-- an entry's numbers are within their ranges
pub record IsEntry (e : Entry) : Type 0 where
  pub slot : IsSlot e.slot
  pub ballot : IsBallot e.ballot
  pub command : IsInRange e.command

-- the entries' slots rise, from one slot on and below another
abbrev pub Rise : ℕ → ℕ → List Entry → Type 0
Rise from limit [] = Unit {0}
Rise from limit (e ∷ es) = (from ≤ e.slot) × (e.slot < limit) × Rise (e.slot + 1) limit es

-- at most 64 entries, with rising slots among the 64 from the slot on
pub record AreEntries (slot : ℕ) (entries : List Entry) : Type 0 where
  pub most : length entries ≤ WINDOW
  pub each : AllByRecursion IsEntry entries
  pub rise : Rise slot (slot + WINDOW) entries

-- 1 to 64 commands in their ranges, for the slots from this one on, all of which there are
pub record IsCommandRun (slot : ℕ) (commands : List Command) : Type 0 where
  pub least : 1 ≤ length commands
  pub most : length commands ≤ WINDOW
  pub slots : slot + length commands ≤ SLOTS
  pub each : AllByRecursion IsInRange commands

-- the numbers of a message are within their ranges, and what is forwarded may go on
abbrev pub Fits : Message → Type 0
Fits (Prepare ballot slot) = IsBallot ballot × IsSlot slot
Fits (Promise ballot slot entries) = IsBallot ballot × IsSlot slot × AreEntries slot entries
Fits (Refuse ballot slot promised) = IsBallot ballot × IsSlot slot × IsBallot promised
Fits (Accept ballot slot commands) = IsBallot ballot × IsCommandRun slot commands
Fits (Accepted ballot slot commands) = IsBallot ballot × IsCommandRun slot commands
Fits (Chosen slot command) = IsSlot slot × IsInRange command
Fits (Ask slot) = IsSlot slot
Fits (Forward command) = MayGoOn command × IsInRange command

-- a message of one command at most: any but a Promise, which tells what was accepted at many slots, and an Accept or an
-- Accepted of more
abbrev pub IsSingle : Message → Type 0
IsSingle (Prepare ballot slot) = Unit {0}
IsSingle (Promise ballot slot entries) = ⊥
IsSingle (Refuse ballot slot promised) = Unit {0}
IsSingle (Accept ballot slot commands) = length commands ≡ 1
IsSingle (Accepted ballot slot commands) = length commands ≡ 1
IsSingle (Chosen slot command) = Unit {0}
IsSingle (Ask slot) = Unit {0}
IsSingle (Forward command) = Unit {0}

-- the nodes of all ballots of a message are below this one
abbrev pub HasNodesBelow : ℕ → Message → Type 0
HasNodesBelow nodes (Prepare ballot slot) = ballot.node < nodes
HasNodesBelow nodes (Promise ballot slot entries) = (ballot.node < nodes) × AllByRecursion (λ e. e.ballot.node < nodes) entries
HasNodesBelow nodes (Refuse ballot slot promised) = (ballot.node < nodes) × (promised.node < nodes)
HasNodesBelow nodes (Accept ballot slot commands) = ballot.node < nodes
HasNodesBelow nodes (Accepted ballot slot commands) = ballot.node < nodes
HasNodesBelow nodes (Chosen slot command) = Unit {0}
HasNodesBelow nodes (Ask slot) = Unit {0}
HasNodesBelow nodes (Forward command) = Unit {0}

-- where it is an Accept or an Accepted, it has one command
abbrev pub HasOneCommand : Message → Type 0
HasOneCommand (Prepare ballot slot) = Unit {0}
HasOneCommand (Promise ballot slot entries) = Unit {0}
HasOneCommand (Refuse ballot slot promised) = Unit {0}
HasOneCommand (Accept ballot slot commands) = length commands ≡ 1
HasOneCommand (Accepted ballot slot commands) = length commands ≡ 1
HasOneCommand (Chosen slot command) = Unit {0}
HasOneCommand (Ask slot) = Unit {0}
HasOneCommand (Forward command) = Unit {0}

-- where it is an Accept or an Accepted, it has 1 to 64 commands
abbrev pub HasCommands : Message → Type 0
HasCommands (Prepare ballot slot) = Unit {0}
HasCommands (Promise ballot slot entries) = Unit {0}
HasCommands (Refuse ballot slot promised) = Unit {0}
HasCommands (Accept ballot slot commands) = (1 ≤ length commands) × (length commands ≤ WINDOW)
HasCommands (Accepted ballot slot commands) = (1 ≤ length commands) × (length commands ≤ WINDOW)
HasCommands (Chosen slot command) = Unit {0}
HasCommands (Ask slot) = Unit {0}
HasCommands (Forward command) = Unit {0}

-- a message that frames of the old version can say: the node of each of its ballots is one of that version's, and an Accept or an Accepted has one command
abbrev pub IsOld : Message → Type 0
IsOld m = HasNodesBelow OLD_NODES m × HasOneCommand m

-- the most bytes of the frame of a message of this kind and, where its commands are counted, of so many
abbrev pub most_bytes : Message → ℕ
most_bytes (Prepare ballot slot) = MOST_SINGLE_FRAME
most_bytes (Promise ballot slot entries) = MOST_FRAME
most_bytes (Refuse ballot slot promised) = MOST_SINGLE_FRAME
most_bytes (Accept ballot slot commands) = RUN_FRONT + MOST_COMMAND * length commands
most_bytes (Accepted ballot slot commands) = RUN_FRONT + MOST_COMMAND * length commands
most_bytes (Chosen slot command) = MOST_SINGLE_FRAME
most_bytes (Ask slot) = MOST_SINGLE_FRAME
most_bytes (Forward command) = MOST_SINGLE_FRAME

-- the commands that a message carries
abbrev pub commands : Message → List Command
commands (Prepare ballot slot) = []
commands (Promise ballot slot entries) = map (λ e. e.command) entries
commands (Refuse ballot slot promised) = []
commands (Accept ballot slot listed) = listed
commands (Accepted ballot slot listed) = listed
commands (Chosen slot command) = command ∷ []
commands (Ask slot) = []
commands (Forward command) = command ∷ []

-- a message that has a frame
pub record IsMessage (m : Message) : Type 0 where
  pub numbers : Fits m
  pub cards : AllByRecursion IsDealt (commands m)
