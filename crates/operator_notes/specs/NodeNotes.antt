-- The notes of a node's process, and what standard error has of one.
use Rattle.std.specs.Prelude.{ℕ, ◌/◌, ◌%◌, ◌==◌, if◌then◌else◌, Bool, true, false, List, [], ◌∷◌, ◌++◌, Option, Some, None, codes, decimal}
use Rattle.std.specs.Net.Text.{socket_text}
use Rattle.node_links.specs.Lines.{peer_fault_line}
use Rattle.paxos_wire.specs.Lines.{ballot_line}
use Rattle.operator_notes.specs.Notes.{source_text}
use Rattle.operator_notes.specs.Shown.{shown}
use Rattle.operator_notes.specs.KeyFaults.{fault_line}
use Rattle.operator_notes.specs.declared.node_note.NodeNote.{NodeNote}
use Rattle.operator_notes.specs.declared.node_note.NodeNote.TheVariants as note

-- a match, and one of its nodes
abbrev pub match_text : List ℕ → ℕ → List ℕ
match_text name node = codes "match " ++ name ++ codes ", node " ++ decimal node

-- that a node begins, by its front
abbrev pub started_text : ℕ → List ℕ
started_text front = codes ": started, first unchosen slot " ++ decimal front

-- that the seed of a node is 0
abbrev pub seed_text : ℕ → List ℕ
seed_text node = codes "seed 0 of node " ++ decimal node

-- whether this is the machine of that node
abbrev pub machine_text : ℕ → List ℕ
machine_text node = codes ": is this the machine of node " ++ decimal node ++ codes "?"

-- something of a peer
abbrev pub peer_text : ℕ → List ℕ → List ℕ
peer_text peer what = codes "peer " ++ decimal peer ++ codes ": " ++ what

-- of which peer the address of a caller is, if it is one's
abbrev pub at_text : Option ℕ → List ℕ
at_text None = []
at_text (Some peer) = codes " (from peer " ++ decimal peer ++ codes "'s address)"

-- three digits behind a point, where there are thousandths
abbrev pub thousandths_text : ℕ → List ℕ
thousandths_text part = if part == 0 then [] else codes "." ++ decimal (part / 100) ++ decimal (part / 10 % 10) ++ decimal (part % 10)

-- so many milliseconds in seconds
abbrev pub time_text : ℕ → List ℕ
time_text milliseconds = if milliseconds == 0 then codes "none" else decimal (milliseconds / 1000) ++ thousandths_text (milliseconds % 1000)

-- so many microseconds in seconds, with three digits behind the point
abbrev pub seconds_text : ℕ → List ℕ
seconds_text microseconds = decimal (microseconds / 1000000) ++ codes "." ++ decimal (microseconds / 1000 % 1000 / 100) ++ decimal (microseconds / 1000 % 1000 / 10 % 10) ++ decimal (microseconds / 1000 % 1000 % 10)

-- how many commands behind a peer is
abbrev pub behind_text : ℕ → ℕ → List ℕ
behind_text peer behind = peer_text peer (decimal behind ++ codes " commands behind")

-- how many microseconds the slowest of its answers took
abbrev pub slowest_text : ℕ → List ℕ
slowest_text microseconds = codes ", slowest answer in seconds: " ++ seconds_text microseconds

-- what stands at `away`
abbrev pub away_text : Bool → List ℕ
away_text true = codes "wait"
away_text false = codes "play"

-- what stands at a key there and here
abbrev pub difference_text : List ℕ → List ℕ → List ℕ → List ℕ
difference_text key there here = key ++ codes " " ++ there ++ codes ", here " ++ here

-- what a note says
abbrev pub note_text : NodeNote → List ℕ
note_text (note.Begins name node front) = match_text name node ++ started_text front
note_text (note.CanStart name node) = match_text name node ++ codes ": can be started (its ports were not tried)"
note_text (note.OtherMachine node) = seed_text node ++ machine_text node
note_text (note.PassedOver key) = codes "key " ++ key.now ++ codes " is for serve only, ignored"
note_text (note.NotCopied path) = shown path.now ++ codes ": not found: copy it from the machine of node 0"
note_text (note.NotMade path) = shown path.now ++ codes ": not found: run init only if this node never ran"
note_text (note.NotReplaced path) = shown path.now ++ codes ": left by an earlier store: a lost store can't be replaced"
note_text (note.OlderCopy path) = shown path.now ++ codes ": an older copy: put the newest one back, or leave this node out"
note_text (note.LogDiffers log hand kept) = shown log.now ++ codes ": hand " ++ decimal hand ++ codes " differs from that of " ++ shown kept.now
note_text note.NoKey = codes "no key: connections between nodes are neither authenticated nor encrypted"
note_text note.NoTokens = codes "no tokens: whoever reaches a seat's port gets its cards and acts"
note_text (note.KnownToken seat) = codes "token of seat " ++ decimal seat ++ codes " is an example's: draw another"
note_text (note.BadKey path fault) = shown path.now ++ fault_line fault
note_text (note.Status address) = codes "status at " ++ socket_text address
note_text (note.Joined peer) = peer_text peer (codes "connected")
note_text (note.Gone peer) = peer_text peer (codes "disconnected")
note_text (note.Refused peer fault source) = peer_text peer (peer_fault_line fault) ++ source_text source
note_text (note.Caller peer fault) = (codes "inbound connection refused: " ++ peer_fault_line fault) ++ at_text peer
note_text (note.OtherTime peer key there here) = peer_text peer (difference_text key.now (time_text there) (time_text here))
note_text (note.OtherAway peer there here) = peer_text peer (difference_text (codes "away") (away_text there) (away_text here))
note_text (note.OtherTokens peer) = peer_text peer (codes "tokens differ")
note_text note.NoPlace = codes "inbound connection refused: no Hello, or no place"
note_text (note.Unreached peer true) = peer_text peer (codes "its address refuses")
note_text (note.Unreached peer false) = peer_text peer (codes "answers no dial")
note_text (note.Behind peer behind slowest) = behind_text peer behind ++ slowest_text slowest
note_text note.Quorum = codes "quorum: more than half of the nodes are connected"
note_text note.QuorumLost = codes "quorum lost: bots are disconnected until it returns"
note_text (note.Campaigns ballot) = codes "campaigns in ballot " ++ ballot_line ballot
note_text (note.LeftOut count) = decimal count ++ codes " notes left out"
note_text note.Over = codes "the match is over"

-- and its line feed
abbrev pub note_line : NodeNote → List ℕ
note_line told = note_text told ++ 10 ∷ []
