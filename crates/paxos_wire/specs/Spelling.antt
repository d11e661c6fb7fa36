-- The one text of each ballot and command, and the texts of each message: big-endian numbers, and a length in front of
-- each frame.
use Rattle.std.specs.Prelude.{◌≡◌, ◌⊎◌, ℕ, List, [], ◌∷◌, ◌++◌, length}
use Rattle.std.specs.List.{flat_map}
use Rattle.byteorder.specs.Endian.{big_bytes}
use Rattle.betting.specs.declared.action.Action.{Action}
use Rattle.betting.specs.declared.action.Action.TheVariants.{Fold, Call, Raise}
use Rattle.slot_log.specs.declared.command.Command.{Command}
use Rattle.slot_log.specs.declared.command.Command.TheVariants.{Deal, Act, Away}
use Rattle.paxos_wire.specs.declared.ballot.Ballot.{Ballot}
use Rattle.paxos_wire.specs.declared.entry.Entry.{Entry}
use Rattle.paxos_wire.specs.declared.message.Message.{Message}
use Rattle.paxos_wire.specs.declared.message.Message.TheVariants.{Prepare, Promise, Refuse, Accept, Accepted, Chosen, Ask, Forward}
use Rattle.paxos_wire.specs.declared.version.Version.{Version}
use Rattle.paxos_wire.specs.declared.version.Version.TheVariants.{Old, New}
use Rattle.paxos_wire.specs.Versions.{version_byte}
use Rattle.paxos_wire.specs.Fits.{IsOld}

-- four bytes of a round, and the node
abbrev pub ballot_text : Ballot → List ℕ
ballot_text b = big_bytes 4 b.round ++ b.node ∷ []

-- four bytes
abbrev pub slot_text : ℕ → List ℕ
slot_text slot = big_bytes 4 slot

-- a byte for the kind, and the amount, which is 0 unless it is a raise
abbrev pub action_text : Action → List ℕ
action_text Fold = 0 ∷ big_bytes 4 0
action_text Call = 1 ∷ big_bytes 4 0
action_text (Raise amount) = 2 ∷ big_bytes 4 amount

-- the count of the cards, and a byte for each
abbrev pub deal_text : List ℕ → List ℕ
deal_text cards = length cards ∷ cards

-- a byte for the kind, the hand, and the deal, or the index of an act and what it is, or that index alone for a player who is away
abbrev pub command_text : Command → List ℕ
command_text (Deal hand cards) = 1 ∷ (big_bytes 4 hand ++ deal_text cards)
command_text (Act hand index action) = 2 ∷ (big_bytes 4 hand ++ (big_bytes 2 index ++ action_text action))
command_text (Away hand index) = 3 ∷ (big_bytes 4 hand ++ big_bytes 2 index)

-- the count of commands for slots that follow one another, and each of them
abbrev pub run_text : List Command → List ℕ
run_text commands = length commands ∷ flat_map command_text commands

-- the slot, the ballot and the command
abbrev pub entry_text : Entry → List ℕ
entry_text e = slot_text e.slot ++ (ballot_text e.ballot ++ command_text e.command)

-- the count of the entries, and each of them
abbrev pub entries_text : List Entry → List ℕ
entries_text entries = length entries ∷ flat_map entry_text entries

-- the byte that tells the kind of a message
abbrev pub kind : Message → ℕ
kind (Prepare ballot slot) = 1
kind (Promise ballot slot entries) = 2
kind (Refuse ballot slot promised) = 3
kind (Accept ballot slot commands) = 4
kind (Accepted ballot slot commands) = 5
kind (Chosen slot command) = 6
kind (Ask slot) = 7
kind (Forward command) = 8

-- what an Accept or an Accepted tells behind its slot: the commands for the slots from there on, behind their count,
-- which the old version, where there is one command, doesn't have
abbrev pub proposed_text : Version → List Command → List ℕ
proposed_text Old commands = flat_map command_text commands
proposed_text New commands = run_text commands

-- the fields of a message, in their order
abbrev pub body : Version → Message → List ℕ
body version (Prepare ballot slot) = ballot_text ballot ++ slot_text slot
body version (Promise ballot slot entries) = ballot_text ballot ++ (slot_text slot ++ entries_text entries)
body version (Refuse ballot slot promised) = ballot_text ballot ++ (slot_text slot ++ ballot_text promised)
body version (Accept ballot slot commands) = ballot_text ballot ++ (slot_text slot ++ proposed_text version commands)
body version (Accepted ballot slot commands) = ballot_text ballot ++ (slot_text slot ++ proposed_text version commands)
body version (Chosen slot command) = slot_text slot ++ command_text command
body version (Ask slot) = slot_text slot
body version (Forward command) = command_text command

-- the version, the kind and the fields
abbrev pub payload : Version → Message → List ℕ
payload version m = version_byte version ∷ kind m ∷ body version m

-- a frame of a version: four bytes that count what follows, and that
unfoldable pub frame_of : Version → Message → List ℕ
frame_of version m = big_bytes 4 (length (payload version m)) ++ payload version m

-- the one frame that is written of a message
abbrev pub frame : Message → List ℕ
frame m = frame_of New m

-- the frame that was written of it in the old version
abbrev pub old_frame : Message → List ℕ
old_frame m = frame_of Old m

-- what is read as the message: the frame that is written of it, and that of the old version, where there was one
abbrev pub IsText : Message → List ℕ → Type 0
IsText m text = (text ≡ frame m) ⊎ (IsOld m × (text ≡ old_frame m))
