-- Quorums, what they promised and what they chose.
use Rattle.std.specs.Prelude.{◌≡◌, ℕ, ◌*◌, ◌<◌, Bool, true, List, [], ◌∷◌, length}
use Rattle.paxos_wire.specs.declared.ballot.Ballot.{Ballot}
use Rattle.slot_log.specs.declared.command.Command.{Command}
use Rattle.protocol_model.specs.Sets.{In}
use Rattle.protocol_model.specs.Ballots.{AtMost}
use Rattle.paxos_wire.specs.declared.entry.Entry.{Entry}
pub use Rattle.paxos_wire.specs.NodeSets.{count}
use Rattle.protocol_model.specs.Messages.{Vote, entry_of, Message, Covers, Promise, Accepted}

-- more than half of the n nodes; nodes are counted, not messages
abbrev pub IsQuorum : ℕ → (ℕ → Bool) → Type 0
IsQuorum n quorum = n < 2 * count quorum n

-- among the messages a quorum says that it accepted the command at the slot, in one ballot
abbrev pub IsChosenIn : ℕ → List Message → Ballot → ℕ → Command → Type 0
IsChosenIn n messages ballot slot command =
    (quorum : ℕ → Bool) × IsQuorum n quorum
    × ((node : ℕ) → node < n → quorum node ≡ true → In (Accepted node ballot slot command) messages)

-- in some ballot
abbrev pub IsChosen : ℕ → List Message → ℕ → Command → Type 0
IsChosen n messages slot command = (ballot : Ballot) × IsChosenIn n messages ballot slot command

-- each command of the list, newest first, is chosen at its slot
abbrev pub AreChosen : ℕ → List Message → List Command → Type 0
AreChosen n messages [] = Unit {0}
AreChosen n messages (command ∷ before) = IsChosen n messages (length before) command × AreChosen n messages before

-- among the messages is a promise of the node for the ballot that covers the slot, and all that it tells of the slot is so
abbrev pub HasPromise : List Message → ℕ → Ballot → ℕ → (Entry → Type 0) → Type 0
HasPromise messages node ballot slot IsSo =
    (first : ℕ) × (told : List Entry) × In (Promise node ballot first told) messages × Covers first slot
    × ((entry : Entry) → In entry told → entry.slot ≡ slot → IsSo entry)

-- of each node of some quorum
abbrev pub HasPromises : ℕ → List Message → Ballot → ℕ → (Entry → Type 0) → Type 0
HasPromises n messages ballot slot IsSo =
    (quorum : ℕ → Bool) × IsQuorum n quorum
    × ((node : ℕ) → node < n → quorum node ≡ true → HasPromise messages node ballot slot IsSo)

-- a quorum promised the ballot, and tells of no command at the slot
abbrev pub IsFree : ℕ → List Message → Ballot → ℕ → Type 0
IsFree n messages ballot slot = HasPromises n messages ballot slot (λ entry. ⊥)

-- a promise of the ballot tells of the vote at the slot
abbrev pub IsTold : List Message → Ballot → ℕ → Vote → Type 0
IsTold messages ballot slot vote =
    (node : ℕ) × (first : ℕ) × (told : List Entry) × In (Promise node ballot first told) messages × In (entry_of slot vote) told

-- a promise of the ballot tells of the command, and a quorum's promises of the ballot tell of no greater ballot at the slot
abbrev pub IsGreatestTold : ℕ → List Message → Ballot → ℕ → Command → Type 0
IsGreatestTold n messages ballot slot command =
    (greatest : Ballot) × IsTold messages ballot slot (record { ballot = greatest; command = command })
    × HasPromises n messages ballot slot (λ entry. AtMost entry.ballot greatest)
