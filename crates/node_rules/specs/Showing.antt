-- What is shown, in one order, and to whom; and faults of seats.
use Rattle.std.specs.Prelude.{ℕ, ◌+◌, Bool, false, List, [], ◌∷◌, ◌++◌, Option, Some, None, if◌then◌else◌}
use Rattle.std.specs.Option.{option_map, option_to_list}
use Rattle.slot_log.specs.Hand.{Hand}
use Rattle.slot_log.specs.Dealer.{is_running}
use Rattle.matchstate.specs.View.{View, seat_view}
use Rattle.matchstate.specs.Line.{line_text}
use Rattle.match_log.specs.Lines.{header_line}
use Rattle.match_log.specs.Further.{further_lines}
use Rattle.protocol_model.specs.Dealers.{Reader, Seat, Log}
use Rattle.seat_session.specs.Session.{Standing as Talk, is_ready}
use Rattle.seat_session.specs.declared.session_fault.SessionFault.{SessionFault}
use Rattle.dealer_kind.specs.Kind.{Setting}

-- a line to a seat, without its end, or what is added to the log
pub record Piece : Type 0 where
  pub reader : Reader
  pub text : List ℕ

-- what is told of a line of a seat
pub record SeatFault : Type 0 where
  pub seat : ℕ
  pub fault : SessionFault

-- the seat has named the version, and its session goes on
abbrev pub is_connected : Option Talk → Bool
is_connected None = false
is_connected (Some talk) = is_ready talk.phase

abbrev pub line_piece : ℕ → View → Piece
line_piece seat view = record { reader = Seat seat; text = line_text view }

-- the line that the seat has after these hands; none before the first deal
abbrev pub seat_line : Setting → List Hand → ℕ → List Piece
seat_line setting hands seat = option_to_list (option_map (line_piece seat) (seat_view setting.game hands seat))

-- the lines of all connected seats from this one on, in order
abbrev pub seat_lines : Setting → List Hand → ℕ → List (Option Talk) → List Piece
seat_lines setting hands seat [] = []
seat_lines setting hands seat (talk ∷ others) =
    (if is_connected talk then seat_line setting hands seat else []) ++ seat_lines setting hands (seat + 1) others

-- what the log gets by a command that took effect: nothing while a hand runs
abbrev pub log_piece : Setting → List Hand → List Piece
log_piece setting hands =
    if is_running setting.game hands then []
    else (record { reader = Log; text = further_lines setting.game setting.title.hands setting.names hands }) ∷ []

-- all that is shown of a command that took effect, by the hands then: first the lines of the seats, and then the log
abbrev pub news : Setting → List (Option Talk) → List Hand → List Piece
news setting sessions hands = seat_lines setting hands 0 sessions ++ log_piece setting hands

-- what a log begins with
abbrev pub header : Setting → Piece
header setting = record { reader = Log; text = header_line setting.title.name setting.title.game setting.title.hands }
