-- What all nodes sent, were given and showed, as anybody sees it who stands outside. Lists have the oldest first.
use Rattle.std.specs.Prelude.{ℕ, ◌+◌, ◌-◌, ◌==◌, ◌&&◌, if◌then◌else◌, List, [], ◌∷◌, ◌++◌, map, reverse, Result, Ok, Err}
use Rattle.paxos_wire.specs.declared.message.Message.{Message as Content}
use Rattle.paxos_wire.specs.declared.fault.FrameFault.{FrameFault}
use Rattle.paxos_wire.specs.Faults.{reading}
use Rattle.protocol_model.specs.Messages.{Message}
use Rattle.protocol_model.specs.Frames.{carried}
use Rattle.protocol_model.specs.Dealers.{Reader, Seat, Log}

-- a frame on its way, all its bytes
pub record Frame : Type 0 where
  pub from : ℕ
  pub to : ℕ
  pub bytes : List ℕ

-- what reached a running node from outside
pub data Arrived : Type 0 where
  Delivered : (frame : Frame) → Arrived
  Came : (node seat : ℕ) (bytes : List ℕ) → Arrived
  Connected : (node seat : ℕ) → Arrived
  Dropped : (node seat : ℕ) → Arrived
  -- it was ordered that the player to act is played for, at a node with this front
  Ordered : (node front : ℕ) → Arrived

-- and how many frames had been sent when it came
pub record Arrival : Type 0 where
  pub what : Arrived
  pub sent_before : ℕ

-- a start of a node; its starts are counted from 0
pub record Start : Type 0 where
  pub node : ℕ
  pub start : ℕ

-- what a node showed within a start: a line to a seat, without its end, or what it added to its log
pub record Piece : Type 0 where
  pub node : ℕ
  pub start : ℕ
  pub reader : Reader
  pub text : List ℕ

-- what was sent and delivered, the starts, and what was shown, each in its order
pub record Record : Type 0 where
  pub sent : List Frame
  pub delivered : List Arrival
  -- the starts that went well; each began a log of its own
  pub starts : List Start
  pub shown : List Piece

abbrev pub no_record : Record
no_record = record { sent = []; delivered = []; starts = []; shown = [] }

-- a line to a seat
pub record Line : Type 0 where
  pub node : ℕ
  pub start : ℕ
  pub seat : ℕ
  pub text : List ℕ

-- a whole log
pub record Written : Type 0 where
  pub node : ℕ
  pub start : ℕ
  pub text : List ℕ

abbrev pub line_by : Reader → Piece → List Line
line_by (Seat seat) piece = (record { node = piece.node; start = piece.start; seat = seat; text = piece.text }) ∷ []
line_by Log piece = []

-- the lines among what was shown, in their order
abbrev pub lines_of : List Piece → List Line
lines_of [] = []
lines_of (piece ∷ pieces) = line_by piece.reader piece ++ lines_of pieces

-- what a piece adds to the log of this node and start
abbrev pub logged_by : Reader → Piece → ℕ → ℕ → List ℕ
logged_by (Seat seat) piece node start = []
logged_by Log piece node start = if (piece.node == node) && (piece.start == start) then piece.text else []

-- the log of a node and a start after these pieces, newest first
abbrev pub log_in : List Piece → ℕ → ℕ → List ℕ
log_in [] node start = []
log_in (latest ∷ before) node start = log_in before node start ++ logged_by latest.reader latest node start

-- the log of a node and a start: all that was added to it, in order
abbrev pub log_of : List Piece → ℕ → ℕ → List ℕ
log_of pieces node start = log_in (reverse pieces) node start

-- the logs, one for each start
abbrev pub logs_of : Record → List Written
logs_of all = map (λ begun. record { node = begun.node; start = begun.start; text = log_of all.shown begun.node begun.start }) all.starts

-- how often a node was started
abbrev pub start_count : List Start → ℕ → ℕ
start_count [] node = 0
start_count (begun ∷ more) node = if begun.node == node then 1 + start_count more node else start_count more node

-- the number of a node's last start
abbrev pub last_start : List Start → ℕ → ℕ
last_start starts node = start_count starts node - 1

-- what bytes say, as a frame of this sender; bytes that are no frame say nothing
abbrev pub messages_of : ℕ → Result Content FrameFault → List Message
messages_of from (Ok content) = carried from content
messages_of from (Err fault) = []

-- what a frame says
abbrev pub said_by : Frame → List Message
said_by frame = messages_of frame.from (reading frame.bytes)

-- what the frames say
abbrev pub said : List Frame → List Message
said [] = []
said (frame ∷ frames) = said_by frame ++ said frames
