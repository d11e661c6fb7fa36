-- The notes of `serve`, and of seats those of `node` too, and what standard error has of one.
use Rattle.std.specs.Prelude.{◌≡◌, ℕ, zero, suc, ◌+◌, ◌*◌, nat_lt, Bool, true, false, if◌then◌else◌, List, [], ◌∷◌, ◌++◌, Option, Some, None, codes, decimal}
use Rattle.std.specs.List.{flat_map}
use Rattle.std.specs.Io.KnownBytes.{Appends, Keeps}
use Rattle.std.specs.Net.Text.{ip_text}
use Rattle.std.specs.declared.net.ip_addr.IpAddr.{IpAddr}
use Rattle.seat_session.specs.Fault.{fault_text}
use Rattle.seat_session.specs.declared.session_fault.SessionFault.{SessionFault}
use Rattle.dealer_node.specs.FaultText.{fault_text as node_fault_text}
use Rattle.operator_notes.specs.declared.note.About.{About}
use Rattle.operator_notes.specs.declared.note.About.TheVariants.{Seated, Gone, Played, Ordered, Missing, WrongToken, NoPlace, OtherLine, Faulty, FaultyIn, Refused}
use Rattle.operator_notes.specs.declared.note.Note.{Note}
use Rattle.operator_notes.specs.declared.note.Note.TheVariants as note
use Rattle.operator_notes.specs.declared.seat_ports.SeatPorts.{SeatPorts}
use Rattle.operator_notes.specs.Causes.{cause_text}
use Rattle.operator_notes.specs.Shown.{shown}

-- which seat it is: its number, and its name in brackets
abbrev pub seat_text : ℕ → List ℕ → List ℕ
seat_text seat name = codes "seat " ++ decimal seat ++ codes " (" ++ name ++ codes ")"

abbrev pub port_text : ℕ → List ℕ
port_text port = codes " " ++ decimal port

-- the port at which a seat is awaited at a node: the seats' ports stand one behind another, node by node
abbrev pub port_at : SeatPorts → ℕ → ℕ → ℕ
port_at ports node seat = ports.first + node * ports.players + seat

-- the ports of a seat at so many nodes, node by node
abbrev pub ports_text : SeatPorts → ℕ → ℕ → List ℕ
ports_text ports seat zero = []
ports_text ports seat (suc node) = ports_text ports seat node ++ port_text (port_at ports node seat)

-- where a seat is awaited
abbrev pub place_text : ℕ → ℕ → List ℕ
place_text node port = codes " at node " ++ decimal node ++ codes ", port " ++ decimal port

-- that a seat isn't connected, and where it is expected
abbrev pub expected_text : ℕ → ℕ → List ℕ
expected_text node port = codes " not connected: expected" ++ place_text node port

-- whom all wait for, and where; one that is read from has a line, if it was shown one
abbrev pub waiting_text : ℕ → List ℕ → ℕ → ℕ → Option (List ℕ) → List ℕ
waiting_text seat name node port None = codes "waiting for " ++ seat_text seat name ++ place_text node port
waiting_text seat name node port (Some line) = codes "waiting for " ++ seat_text seat name ++ place_text node port ++ codes ", to answer " ++ line

-- what happened to a node
abbrev pub node_text : ℕ → List ℕ → List ℕ
node_text node what = codes "node " ++ decimal node ++ codes ": " ++ what

-- what is wrong with what a seat sent to a node
abbrev pub faulty_text : ℕ → SessionFault → List ℕ
faulty_text node fault = codes " at node " ++ decimal node ++ codes ": " ++ fault_text fault

-- the same in a hand
abbrev pub faulty_in_text : ℕ → ℕ → SessionFault → List ℕ
faulty_in_text node hand fault = codes " at node " ++ decimal node ++ codes ", hand " ++ decimal hand ++ codes ": " ++ fault_text fault

abbrev pub late_text : Bool → List ℕ
late_text true = codes " (answers an earlier line)"
late_text false = []

-- an answer that was refused: of which hand it is, what the player does, why it was, and whether it came late
abbrev pub refused_text : ℕ → ℕ → List ℕ → SessionFault → Bool → List ℕ
refused_text node hand action fault late =
    codes " at node " ++ decimal node ++ codes ", hand " ++ decimal hand ++ codes ": " ++ action ++ codes ": " ++ fault_text fault ++ late_text late

-- what happened to a seat at a node, and in which hand
abbrev pub in_hand_text : ℕ → ℕ → List ℕ → List ℕ
in_hand_text node hand what = codes " at node " ++ decimal node ++ codes ", hand " ++ decimal hand ++ codes ": " ++ what

-- that it is played for
abbrev pub played_text : ℕ → ℕ → List ℕ
played_text node hand = in_hand_text node hand (codes "absent, default action ordered")

-- what happened to a seat at a node
abbrev pub there_text : ℕ → List ℕ → List ℕ
there_text node what = codes " at node " ++ decimal node ++ codes ": " ++ what

-- where a connection came from or went to, where that is known
abbrev pub source_text : Option IpAddr → List ℕ
source_text None = []
source_text (Some address) = codes " (from " ++ ip_text address ++ codes ")"

-- how many times it was, where it was more than once
abbrev pub times_text : ℕ → List ℕ
times_text count = if nat_lt 1 count then codes " (" ++ decimal count ++ codes " times)" else []

-- what is told of a seat: at which node, and what
abbrev pub about_text : About → List ℕ
about_text (Seated node) = there_text node (codes "seated")
about_text (Gone node) = there_text node (codes "disconnected")
about_text (Played node hand) = played_text node hand
about_text (Ordered node) = there_text node (codes "timed out, default action ordered")
about_text Missing = codes ": not connected yet, the match waits"
about_text (WrongToken node source) = there_text node (codes "wrong token") ++ source_text source
about_text (NoPlace node) = there_text node (codes "inbound connection refused: no place")
about_text (OtherLine node) = there_text node (codes "86 OtherLine")
about_text (Faulty node fault) = faulty_text node fault
about_text (FaultyIn node hand fault) = faulty_in_text node hand fault
about_text (Refused node hand action fault late) = refused_text node hand action.now fault late

-- what a note says
abbrev pub note_text : Note → List ℕ
note_text (note.Ports seat name ports nodes) = seat_text seat name ++ codes ": ports" ++ ports_text ports seat nodes
note_text (note.Awaiting seat name node port) = seat_text seat name ++ expected_text node port
note_text (note.Waiting seat name node port None) = waiting_text seat name node port None
note_text (note.Waiting seat name node port (Some line)) = waiting_text seat name node port (Some line.now)
note_text (note.Seat seat name about) = seat_text seat name ++ about_text about
note_text (note.Stopped node) = node_text node (codes "stopped")
note_text (note.Started node) = node_text node (codes "started")
note_text (note.Failed node fault) = node_text node (node_fault_text fault)
note_text (note.Port port cause) = codes "port " ++ decimal port ++ cause_text cause
note_text (note.File path cause) = shown path.now ++ cause_text cause
note_text (note.Unlocked path) = shown path.now ++ codes ": no file locks here, make sure that only one process uses it"
note_text (note.Unused key) = codes "unknown key " ++ shown key.now ++ codes " in the match file, ignored"
note_text (note.UnusedInNode node key) = codes "unknown key " ++ shown key.now ++ codes " of node " ++ decimal node ++ codes " in the match file, ignored"
note_text (note.Open path) = shown path.now ++ codes ": open to others than its owner"
note_text (note.ShortSeeds nodes) = codes "seeds below 2^55 can be guessed from one hand: of node" ++ flat_map port_text nodes.now
note_text (note.NoSuchNode node nodes) = codes "node " ++ decimal node ++ codes ": the match has " ++ decimal nodes ++ codes " nodes, counted from 0"
note_text (note.Made path) = codes "created " ++ shown path.now
note_text note.NotKept = codes "match.kept not found: can't verify that the stores belong to this match"
note_text (note.Score line) = line.now

-- and its line feed
abbrev pub note_line : Note → List ℕ
note_line told = note_text told ++ 10 ∷ []

-- of a line the writer got all, a beginning, or nothing
abbrev pub IsNoted : List ℕ → Option (List ℕ) → Option (List ℕ) → Type 0
IsNoted line held held_after = (shown missing : List ℕ) × (line ≡ shown ++ missing) × Appends held held_after shown

-- the same of several lines, one after another
abbrev pub AreNoted : List (List ℕ) → Option (List ℕ) → Option (List ℕ) → Type 0
AreNoted [] held held_after = Keeps held held_after
AreNoted (line ∷ lines) held held_after = (between : Option (List ℕ)) × IsNoted line held between × AreNoted lines between held_after
