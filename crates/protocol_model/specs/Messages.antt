-- What nodes say to each other, each message with its sender.
use Rattle.std.specs.Prelude.{ℕ, ◌+◌, ◌≤◌, List}
use Rattle.paxos_wire.specs.declared.ballot.Ballot.{Ballot}
use Rattle.paxos_wire.specs.declared.entry.Entry.{Entry}
use Rattle.slot_log.specs.declared.command.Command.{Command}

-- a command, and the ballot in which it was accepted
pub record Vote : Type 0 where
  pub ballot : Ballot
  pub command : Command

-- the entry that tells of a vote at a slot, and the vote of an entry
abbrev pub entry_of : ℕ → Vote → Entry
entry_of slot vote = record { slot = slot; ballot = vote.ballot; command = vote.command }

abbrev pub vote_of : Entry → Vote
vote_of entry = record { ballot = entry.ballot; command = entry.command }

-- what a node says, and who says it
pub data Message : Type 0 where
  -- the node of the ballot asks for promises
  Prepare : (ballot : Ballot) (slot : ℕ) → Message
  -- the sender promised to accept nothing of a lower ballot, and tells what it accepted of the 64 slots from the slot on
  Promise : (sender : ℕ) (ballot : Ballot) (slot : ℕ) (told : List Entry) → Message
  -- the sender has promised a ballot that is not below it
  Refuse : (sender : ℕ) (ballot : Ballot) (slot : ℕ) (promised : Ballot) → Message
  -- the node of the ballot proposes the command
  Accept : (ballot : Ballot) (slot : ℕ) (command : Command) → Message
  -- the sender accepted the command
  Accepted : (sender : ℕ) (ballot : Ballot) (slot : ℕ) (command : Command) → Message
  -- the sender knows that the command was chosen
  Chosen : (sender : ℕ) (slot : ℕ) (command : Command) → Message
  -- the sender asks for what was chosen from the slot on
  Ask : (sender : ℕ) (slot : ℕ) → Message
  -- the sender passes on a command that was said to it
  Forward : (sender : ℕ) (command : Command) → Message
  -- the sender's note to itself that the command was said to it: no frame carries it
  Said : (sender : ℕ) (command : Command) → Message

abbrev pub sender_of : Message → ℕ
sender_of (Prepare ballot slot) = ballot.node
sender_of (Promise sender ballot slot told) = sender
sender_of (Refuse sender ballot slot promised) = sender
sender_of (Accept ballot slot command) = ballot.node
sender_of (Accepted sender ballot slot command) = sender
sender_of (Chosen sender slot command) = sender
sender_of (Ask sender slot) = sender
sender_of (Forward sender command) = sender
sender_of (Said sender command) = sender

-- what is said of a first slot covers 64 slots
abbrev pub Covers : ℕ → ℕ → Type 0
Covers first slot = (first ≤ slot) × (slot ≤ first + 63)
