-- How what comes of an event is printed.
use Rattle.std.specs.Prelude.{ℕ, ◌+◌, true, List, [], ◌∷◌, ◌++◌, Result, Ok, Err, codes, decimal}
use Rattle.std.specs.List.{flat_map}
use Rattle.match_log.specs.Fronted.{fronted}
use Rattle.seat_session.specs.Fault.{fault_text as session_fault_text}
use Rattle.dealer_node.specs.FaultText.{fault_text as node_fault_text}
use Rattle.dealer_node.specs.declared.fault.NodeFault.{NodeFault}
use Rattle.dealer_node.specs.declared.reader.Reader.{Reader as Kept}
use Rattle.dealer_node.specs.declared.seat_fault.SeatFault.{SeatFault}
use Rattle.dealer_node.specs.Texts.{Marked}
use Rattle.dealer_node.specs.Outs.{Told}
use Rattle.protocol_model.specs.Dealers.{Reader, Seat, Log}
use Rattle.dealer_world.specs.KeptShown.{reader_by}
use Rattle.play_script.specs.Shown.{whole_line, frame_text, seat_text, node_text}

-- frames of a node, the first of which has this number
abbrev pub frames_text : ℕ → ℕ → List (Marked ℕ) → List ℕ
frames_text node number [] = []
frames_text node number (frame ∷ frames) = whole_line (frame_text number node frame.mark frame.text) ++ frames_text node (number + 1) frames

-- what stands in front of the lines of a node's log
abbrev pub log_front : ℕ → List ℕ
log_front node = decimal node ++ codes " L "

-- what a reader gets: a seat its line, the log lines with their ends
abbrev pub text_for : ℕ → Reader → List ℕ → List ℕ
text_for node (Seat seat) text = whole_line (seat_text node seat text)
text_for node Log text = fronted (log_front node) true text

abbrev pub piece_text : ℕ → Marked Kept → List ℕ
piece_text node piece = text_for node (reader_by piece.mark) piece.text

-- what is wrong with what a seat sent
abbrev pub seat_fault_text : ℕ → SeatFault → List ℕ
seat_fault_text node told = whole_line (seat_text node told.seat (codes "E " ++ session_fault_text told.fault))

-- why the node did nothing, or went down
abbrev pub answer_text : ℕ → Result (Unit {0}) NodeFault → List ℕ
answer_text node (Ok done) = []
answer_text node (Err fault) = whole_line (node_text node (codes "E") (node_fault_text fault))

-- all that comes of an event at a node: the frames, of which the first has this number; lines and log lines in their order; faults
abbrev pub event_text : ℕ → ℕ → Told → Result (Unit {0}) NodeFault → List ℕ
event_text node number told answer =
    frames_text node number told.frames ++ (flat_map (piece_text node) told.shown ++ (flat_map (seat_fault_text node) told.faults ++ answer_text node answer))
