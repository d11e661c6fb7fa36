-- What a node does with what comes of seats.
use Rattle.std.specs.Prelude.{◌≡◌, ℕ, ◌⊎◌, Bool, true, false, nat_lt, not, ◌==◌, ◌&&◌, if◌then◌else◌, List, [], ◌∷◌, Option, Some, None, is_none, Result, Ok, Err, slice_index_or, slice_set}
use Rattle.game_def.specs.Game.{Game}
use Rattle.slot_log.specs.Hand.{Hand}
use Rattle.slot_log.specs.Dealer.{next_away}
use Rattle.slot_log.specs.declared.command.Command.{Command}
use Rattle.paxos_wire.specs.declared.ballot.Ballot.{Ballot}
use Rattle.paxos_wire.specs.declared.message.Message.TheVariants.{Forward}
use Rattle.seat_session.specs.Session.{Standing as Talk, fresh, with_piece, is_closed, Answers}
use Rattle.seat_session.specs.declared.said.Said.{Said}
use Rattle.seat_session.specs.declared.said.Said.TheVariants.{Ready, Act}
use Rattle.seat_session.specs.declared.session_fault.SessionFault.{SessionFault}
use Rattle.dealer_kind.specs.Kind.{fits}
use Rattle.node_rules.specs.Standings.{Place, Standing, applied, hands_at}
use Rattle.node_rules.specs.Sending.{Frame, one}
use Rattle.node_rules.specs.Showing.{seat_line}
use Rattle.node_rules.specs.Turns.{Turn, Refusal, NothingToAct, still, sending, joined}

-- the session of a seat
abbrev pub session_at : List (Option Talk) → ℕ → Option Talk
session_at sessions seat = slice_index_or sessions seat None

abbrev pub with_session : Standing → ℕ → Option Talk → Standing
with_session s seat talk = record s { sessions = slice_set s.sessions seat talk }

-- a seat connects, again too: it begins anew
abbrev pub connecting : ℕ → Standing → Turn
connecting seat s = still (with_session s seat (Some fresh))

abbrev pub dropping : ℕ → Standing → Turn
dropping seat s = still (with_session s seat None)

-- ---- acts

-- the act waits where it fits and none does
abbrev pub waiting : Place → Command → Standing → Option Command
waiting place act s = if is_none s.pending && fits place.setting (applied s) act then Some act else s.pending

abbrev pub pending_act : Place → Command → Standing → Standing
pending_act place act s = record s { pending = waiting place act s }

-- the promise is another node's ballot
abbrev pub is_others : Place → Ballot → Bool
is_others place promise = nat_lt 0 promise.round && (nat_lt promise.node place.nodes && not (promise.node == place.node))

-- an act goes on to the node whose ballot was promised, where that is another
abbrev pub forwarding : Place → Command → Standing → List Frame
forwarding place act s = if is_others place s.store.promise then one s.store.promise.node (Forward act) else []

-- an act that another node hands on waits
abbrev pub taking_over : Place → Command → Standing → Turn
taking_over place act s = still (pending_act place act s)

-- ---- an order

-- the command that plays for the player to act of the hand that runs at the node; none where none runs
abbrev pub away_at : Place → Standing → Option Command
away_at place s = next_away place.setting.game (hands_at place s)

-- it waits and goes on, as an act of the player's
abbrev pub ordering_by : Place → Option Command → Standing → Result Turn Refusal
ordering_by place None s = Err NothingToAct
ordering_by place (Some act) s = Ok (sending (forwarding place act s) (pending_act place act s))

-- it is ordered that the player to act is played for
abbrev pub ordering : Place → Standing → Result Turn Refusal
ordering place s = ordering_by place (away_at place s) s

-- ---- a piece of a seat's bytes

-- one answer of the session: a seat that gets ready is shown its line, an act waits and goes on, a fault is told
abbrev pub answering : Place → ℕ → Result Said SessionFault → Standing → Turn
answering place seat (Ok Ready) s = record { after = s; frames = []; shown = seat_line place.setting (hands_at place s) seat; faults = [] }
answering place seat (Ok (Act act)) s = sending (forwarding place act s) (pending_act place act s)
answering place seat (Err fault) s = record { after = s; frames = []; shown = []; faults = (record { seat = seat; fault = fault }) ∷ [] }

-- answers, one after another, behind a turn
unfoldable pub answering_all : Place → ℕ → List (Result Said SessionFault) → Turn → Turn
answering_all place seat [] turn = turn
answering_all place seat (said ∷ more) turn = answering_all place seat more (joined turn (answering place seat said turn.after))

-- these are all answers to what waits, up to none or to the first that closes the session
unfoldable pub Drains : Game → List Hand → ℕ → Talk → List (Result Said SessionFault) → Talk → Type 0
Drains game hands seat old [] new = Answers game hands seat old None new
Drains game hands seat old (said ∷ more) new =
    (between : Talk) × Answers game hands seat old (Some said) between
    × (((is_closed between.phase ≡ true) × (more ≡ []) × (new ≡ between)) ⊎ ((is_closed between.phase ≡ false) × Drains game hands seat between more new))

-- a session that is closed is dropped
abbrev pub left : Talk → Option Talk
left talk = if is_closed talk.phase then None else Some talk

-- the piece goes to the seat's session, and its answers are taken in order
abbrev pub hearing : Place → ℕ → List (Result Said SessionFault) → Talk → Standing → Turn
hearing place seat answers talk s = answering_all place seat answers (still (with_session s seat (left talk)))

-- the turn of a piece: of a seat that isn't connected it is passed over
abbrev pub HearsPiece : Place → ℕ → List ℕ → Option Talk → Standing → Turn → Type 0
HearsPiece place seat piece None s turn = turn ≡ still s
HearsPiece place seat piece (Some old) s turn =
    (answers : List (Result Said SessionFault)) × (new : Talk)
    × Drains place.setting.game (hands_at place s) seat (with_piece old piece) answers new
    × (turn ≡ hearing place seat answers new s)
