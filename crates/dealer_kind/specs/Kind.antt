-- The sequential dealer of a match, as the protocol sees it. Lists of commands have the newest first.
use Rattle.std.specs.Prelude.{ℕ, Bool, false, ◌&&◌, ◌==◌, nat_lt, is_none, bytes_eq, if◌then◌else◌, List, [], ◌∷◌, ◌++◌, Option, Some, None}
use Rattle.game_def.specs.Game.{Game}
use Rattle.betting.specs.declared.action.Action.{Action}
use Rattle.betting.specs.Rounds.{turns, to_act}
use Rattle.betting.specs.Text.{action_text}
use Rattle.slot_log.specs.Hand.{Hand}
use Rattle.slot_log.specs.Dealer.{hands_of, reason_of}
use Rattle.slot_log.specs.declared.command.Command.{Command}
use Rattle.slot_log.specs.declared.command.Command.TheVariants.{Deal, Act, Away}
use Rattle.matchstate.specs.View.{View, seat_view}
use Rattle.matchstate.specs.Line.{line, line_text}
use Rattle.match_log.specs.Log.{Title, log_lines}
use Rattle.seat_session.specs.Lines.{text_of}
use Rattle.protocol_model.specs.Dealers.{Dealer}

-- what all nodes of a match share: its game, what its log's header says, and its seats' names in seat order
pub record Setting : Type 0 where
  pub game : Game
  pub title : Title
  pub names : List (List ℕ)

-- the hands that these commands make
abbrev pub hands_after : Setting → List Command → List Hand
hands_after setting before = hands_of setting.game setting.title.hands before

-- the command takes effect after these: there is no reason against it
abbrev pub fits : Setting → List Command → Command → Bool
fits setting before command = is_none (reason_of setting.game setting.title.hands (hands_after setting before) command)

-- a seat of the table is shown its line after these; a seat that there isn't is shown none
abbrev pub line_of : Setting → List Command → ℕ → Option (List ℕ)
line_of setting before seat = if nat_lt seat setting.game.players then line setting.game setting.title.hands before seat else None

-- the log after these
abbrev pub log_of : Setting → List Command → List ℕ
log_of setting before = log_lines setting.game setting.title setting.names before

-- this position is to act
abbrev pub is_position : Option ℕ → ℕ → Bool
is_position None position = false
is_position (Some to_act) position = to_act == position

-- it is the turn of the view's player, and the text is the view's line, a colon (58) and the action's text
abbrev pub echoes : Game → Option View → List ℕ → Action → Bool
echoes game None text action = false
echoes game (Some view) text action =
    is_position (to_act game (turns game view.past)) view.position && bytes_eq text (line_text view ++ 58 ∷ action_text game action)

-- after these commands the line, which a seat of the table sent, says the command: the command is an act that fits, it is the seat's turn, and the
-- line's text is the seat's line, a colon and the action's text
abbrev pub says : Setting → List Command → ℕ → List ℕ → Command → Bool
says setting before seat line (Deal hand deal) = false
says setting before seat line (Away hand index) = false
says setting before seat line (Act hand index action) =
    (nat_lt seat setting.game.players && fits setting before (Act hand index action))
    && echoes setting.game (seat_view setting.game (hands_after setting before) seat) (text_of line) action

-- after these commands an order that the player to act is played for means the command: it plays for a player who is away, and fits
abbrev pub orders : Setting → List Command → Command → Bool
orders setting before (Deal hand deal) = false
orders setting before (Act hand index action) = false
orders setting before (Away hand index) = fits setting before (Away hand index)

-- the dealer whose commands the nodes of the match order, where these commands are each node's own
abbrev pub dealer_of : Setting → (ℕ → Command → Bool) → Dealer
dealer_of setting own = record {
  fits = fits setting;
  own = own;
  line = line_of setting;
  log = log_of setting;
  says = says setting;
  orders = orders setting;
}
