-- What a seat's bytes do at a node, as the rules have it.
use Rattle.std.specs.Prelude.{◌≡◌, ℕ, ◌+◌, ◌≤◌, ◌<◌, false, List, Option, Some, None, Result, Ok, Err, length, vec_len, vec_capacity}
use Rattle.paxos_wire.specs.declared.ballot.Ballot.{Ballot}
use Rattle.paxos_wire.specs.Fits.{MayGoOn, IsInRange}
use Rattle.paxos_wire.specs.declared.limits.TheConstants.{MOST_SINGLE_FRAME}
use Rattle.slot_log.specs.Hand.{Match}
use Rattle.slot_log.specs.declared.command.Command.{Command}
use Rattle.seat_session.specs.Feeds.{line_feeds}
use Rattle.seat_session.specs.Session.{Standing as Talk, Conversation, with_piece, is_closed}
use Rattle.seat_session.specs.declared.said.Said.{Said}
use Rattle.seat_session.specs.declared.said.Said.TheVariants.{Ready, Act}
use Rattle.seat_session.specs.declared.session_fault.SessionFault.{SessionFault}
use Rattle.dealer_kind.specs.Kind.{Setting}
use Rattle.node_rules.specs.Standings.{Place, applied}
use Rattle.node_rules.specs.Turns.{Turn, sending, joined}
use Rattle.node_rules.specs.Seats.{pending_act, forwarding, answering, answering_all, Drains, left}
use Rattle.dealer_node.specs.declared.made.Made.{Made}
use Rattle.dealer_node.specs.Rooms.{Makes, piece_need}
use Rattle.dealer_node.specs.Outs.{Told, both_told}
use Rattle.dealer_node.specs.Turned.{told_of, talk_of}
use Rattle.dealer_node.specs.Fitting.{AreMessages}
use Rattle.dealer_node.specs.Scenes.{IsTableOf}

-- what is said can be handed on: an act has its numbers in their ranges
abbrev pub IsForwardable : Result Said SessionFault → Type 0
IsForwardable (Ok Ready) = Unit {0}
IsForwardable (Ok (Act command)) = MayGoOn command × IsInRange command
IsForwardable (Err fault) = Unit {0}

-- the table is that of the match, and this is one of its seats
pub record IsSeatOf (setting : Setting) (table : Match) (seat : ℕ) : Type 0 where
  pub game : table.game ≡ setting.game
  pub within : seat < table.game.players

-- there is room for all that this answer may make: a frame, a fault, and where the seat gets ready its line
pub record HasAnswerRoom (said : Result Said SessionFault) (made : Made) : Type 0 where
  pub frames : 1 ≤ made.frames.text_room
  pub frame_bytes : MOST_SINGLE_FRAME ≤ made.frames.byte_room
  pub texts : said ≡ Ok Ready → 1 ≤ made.shown.text_room
  pub text_bytes : said ≡ Ok Ready → 4096 ≤ made.shown.byte_room
  pub faults : vec_len made.faults < vec_capacity made.faults

-- no more was made than of one answer, and nothing is shown where the seat doesn't get ready
pub record MakesAnswer (said : Result Said SessionFault) (old new : Made) : Type 0 where
  pub makes : Makes old new (piece_need 1)
  pub still : (said ≡ Ok Ready → ⊥) → new.shown ≡ old.shown

-- the table, the promise, the act that waits, and what was made behind other things, are those of a turn, whose messages have frames
pub record IsHeard (place : Place) (table : Match) (promised : Ballot) (turn : Turn) (pending : Option Command) (before now : Told) : Type 0 where
  pub hands : IsTableOf place.setting (applied turn.after) table
  pub promise : turn.after.store.promise ≡ promised
  pub waits : pending ≡ turn.after.pending
  pub told : now ≡ both_told before (told_of turn)
  pub fits : AreMessages turn.frames

-- an act is taken, of a seat or by an order: it waits where none does, and goes on
abbrev pub TakesAct : Place → Match → Ballot → Command → Option Command → Option Command → Told → Told → Type 0
TakesAct place table promised act old new earlier later =
    (turn : Turn) (before : Told) → IsHeard place table promised turn old before earlier
    → IsHeard place table promised (joined turn (sending (forwarding place act turn.after) (pending_act place act turn.after))) new before later

-- one answer is taken
abbrev pub TakesAnswer : Place → Match → Ballot → ℕ → Result Said SessionFault → Option Command → Option Command → Told → Told → Type 0
TakesAnswer place table promised seat said old new earlier later =
    (turn : Turn) (before : Told) → IsHeard place table promised turn old before earlier
    → IsHeard place table promised (joined turn (answering place seat said turn.after)) new before later

-- answers are taken in order
abbrev pub TakesAnswers : Place → Match → Ballot → ℕ → List (Result Said SessionFault) → Option Command → Option Command → Told → Told → Type 0
TakesAnswers place table promised seat answers old new earlier later =
    (turn : Turn) (before : Told) → IsHeard place table promised turn old before earlier
    → IsHeard place table promised (answering_all place seat answers turn) new before later

-- all that waits is answered, and the answers are taken in order
pub record Hears (place : Place) (table : Match) (promised : Ballot) (seat : ℕ) (old new : Talk) (waited waits : Option Command) (earlier later : Told) : Type 0 where
  pub answers : List (Result Said SessionFault)
  pub drains : Drains table.game table.hands seat old answers new
  pub taken : TakesAnswers place table promised seat answers waited waits earlier later

-- a piece of a seat's bytes: without a session it is passed over, and a session that it closes is dropped
abbrev pub HearsPiece : Place → Match → Ballot → ℕ → List ℕ → Option Conversation → Option Conversation → Option Command → Option Command → Told → Told → Type 0
HearsPiece place table promised seat piece None session waited waits earlier later = (session ≡ None) × (waits ≡ waited) × (later ≡ earlier)
HearsPiece place table promised seat piece (Some old) session waited waits earlier later =
    (talk : Talk) × Hears place table promised seat (with_piece old.standing piece) talk waited waits earlier later × (talk_of session ≡ left talk)

-- a session that can take a piece without memory, and gives fewer answers to it than these
pub record CanHear (seat : ℕ) (piece : List ℕ) (limit : ℕ) (session : Conversation) : Type 0 where
  pub own : session.seat ≡ seat
  pub stays : is_closed session.standing.phase ≡ false
  pub room : length piece ≤ session.room
  pub few : line_feeds session.standing.waiting + line_feeds piece < limit
