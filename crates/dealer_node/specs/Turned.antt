-- What a turn sends, shows and tells, as it stands in an `Out`.
use Rattle.std.specs.Prelude.{ℕ, List, map, Option}
use Rattle.std.specs.Option.{option_map}
use Rattle.paxos_wire.specs.Spelling.{frame}
use Rattle.protocol_model.specs.Dealers as model
use Rattle.seat_session.specs.Session.{Standing as Talk, Conversation}
use Rattle.node_rules.specs.Sending.{Frame}
use Rattle.node_rules.specs.Showing.{Piece, SeatFault as Fault}
use Rattle.node_rules.specs.Turns.{Turn}
use Rattle.dealer_node.specs.declared.reader.Reader.{Reader}
use Rattle.dealer_node.specs.declared.reader.Reader.TheVariants.{Seat, Log}
use Rattle.dealer_node.specs.declared.seat_fault.SeatFault.{SeatFault}
use Rattle.dealer_node.specs.Texts.{Marked}
use Rattle.dealer_node.specs.Outs.{Told}

-- who reads
abbrev pub reader_of : model.Reader → Reader
reader_of (model.Seat seat) = Seat seat
reader_of model.Log = Log

-- a frame's bytes, under the number of the node that it goes to
abbrev pub framed : Frame → Marked ℕ
framed one = record { mark = one.to; text = frame one.message }

-- a text, under its reader
abbrev pub printed : Piece → Marked Reader
printed piece = record { mark = reader_of piece.reader; text = piece.text }

abbrev pub fault_of : Fault → SeatFault
fault_of told = record { seat = told.seat; fault = told.fault }

-- all that a turn sends, shows and tells
abbrev pub told_of : Turn → Told
told_of turn = record { frames = map framed turn.frames; shown = map printed turn.shown; faults = map fault_of turn.faults }

-- where the sessions of the seats stand
abbrev pub talk_of : Option Conversation → Option Talk
talk_of session = option_map (λ c. c.standing) session

abbrev pub talks : List (Option Conversation) → List (Option Talk)
talks sessions = map talk_of sessions
