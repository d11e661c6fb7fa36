-- Which frames each call sends, told by what came, by what the node of the world has stored, knows and has heard, and by its front and its table as
-- its readers show them. First stand the frames that answer what came, then those of the close of the call, and last a question.
use Rattle.std.specs.Prelude.{◌≡◌, ℕ, zero, suc, ◌+◌, ◌-◌, ◌⊎◌, Bool, true, false, nat_lt, min, if◌then◌else◌, ◌≤◌, List, [], ◌∷◌, ◌++◌, length, Option, Some, None, Result, Ok, Err}
use Rattle.game_def.specs.Game.{Game}
use Rattle.paxos_wire.specs.declared.ballot.Ballot.{Ballot}
use Rattle.paxos_wire.specs.declared.entry.Entry.{Entry}
use Rattle.paxos_wire.specs.declared.message.Message.{Message}
use Rattle.paxos_wire.specs.declared.message.Message.TheVariants as frame
use Rattle.paxos_wire.specs.Faults.{reading}
use Rattle.slot_log.specs.Hand.{Hand}
use Rattle.slot_log.specs.declared.command.Command.{Command}
use Rattle.protocol_model.specs.Sets.{In}
use Rattle.protocol_model.specs.Ballots.{Below, AtMost}
use Rattle.protocol_model.specs.Stores.{Store, Tells}
use Rattle.protocol_model.specs.Nodes.{Node}
use Rattle.protocol_model.specs.Worlds.{World}
use Rattle.seat_session.specs.Session.{Standing as Talk, with_piece}
use Rattle.seat_session.specs.declared.said.Said.{Said}
use Rattle.seat_session.specs.declared.said.Said.TheVariants.{Ready, Act}
use Rattle.seat_session.specs.declared.session_fault.SessionFault.{SessionFault}
use Rattle.node_rules.specs.Standings.{Place, Standing, front_of, hands_at}
use Rattle.node_rules.specs.Sending.{Frame, one, to_others}
use Rattle.node_rules.specs.Turns.{Turn}
use Rattle.node_rules.specs.Learning.{comes_to_window, next_window}
use Rattle.protocol_model.specs.Votes.{command_run_at}
use Rattle.node_rules.specs.Seats.{is_others, away_at, Drains}
use Rattle.node_rules.specs.Calls.{Call, Start, Tick, Away, Line, Connect, Drop, Stop}
use Rattle.node_rules.specs.Calls as call
use Rattle.node_rules.specs.Rules.{IsTurn}
use Rattle.node_rules.specs.Being.{IsTalk}
use Rattle.node_rules.specs.Called.{Comes}
use Rattle.node_rules.specs.Sound.{Stands}

-- ---- the close, and questions

-- what the close sends: nothing, or a proposal of an own ballot from the front on, of one command or more, to each other node, and behind it the
-- vote for it, to each other node
abbrev pub IsOfClose : Place → ℕ → List Frame → Type 0
IsOfClose place front frames =
    (frames ≡ [])
    ⊎ ((ballot : Ballot) × (commands : List Command) × (1 ≤ length commands) × (ballot.node ≡ place.node)
    × (frames ≡ to_others place (frame.Accept ballot front commands) ++ to_others place (frame.Accepted ballot front commands)))

-- the turn sends these, what its close sends, and then those
pub record Sends (place : Place) (turn : Turn) (answers asked : List Frame) : Type 0 where
  pub closing : List Frame
  pub of_close : IsOfClose place (front_of turn.after) closing
  pub frames : turn.frames ≡ answers ++ (closing ++ asked)

-- a question for what was chosen from the slot on
abbrev pub asks_if : Bool → ℕ → ℕ → List Frame
asks_if b to slot = if b then one to (frame.Ask slot) else []

-- who spoke of a slot that is above the front after the call is asked
abbrev pub asks_above : Turn → ℕ → ℕ → List Frame
asks_above turn from slot = asks_if (nat_lt (front_of turn.after) slot) from (front_of turn.after)

-- ---- answers

-- to a Prepare: a Promise with exactly the votes of the 64 slots, where the ballot is above what the store has promised; else a Refuse that tells that
pub data AnswersPrepare (store : Store) (from : ℕ) (ballot : Ballot) (slot : ℕ) (frames : List Frame) : Type 0 where
  promises : (told : List Entry) → Below store.promise ballot → Tells store slot told → frames ≡ one from (frame.Promise ballot slot told)
      → AnswersPrepare store from ballot slot frames
  refuses : AtMost ballot store.promise → frames ≡ one from (frame.Refuse ballot slot store.promise) → AnswersPrepare store from ballot slot frames

-- to an Accept: one Accepted to each other node, of the beginning that is taken, of each slot with the command that the ballot has there, unless the
-- store has promised a greater ballot; else a Refuse that tells that, of the first slot
pub data AnswersAccept (place : Place) (store : Store) (from : ℕ) (ballot : Ballot) (slot : ℕ) (commands : List Command) (frames : List Frame) : Type 0 where
  accepts : AtMost store.promise ballot → frames ≡ to_others place (frame.Accepted ballot slot (command_run_at store ballot slot commands))
      → AnswersAccept place store from ballot slot commands frames
  refuses : Below ballot store.promise → frames ≡ one from (frame.Refuse ballot slot store.promise) → AnswersAccept place store from ballot slot commands frames

-- one Chosen for each of so many slots from one on, with the command that the node knows there
abbrev pub AreChosenFrames : List (ℕ × Command) → ℕ → ℕ → ℕ → List Frame → Type 0
AreChosenFrames known to slot zero frames = frames ≡ []
AreChosenFrames known to slot (suc more) frames =
    (command : Command) × (later : List Frame) × In (slot, command) known × (frames ≡ one to (frame.Chosen slot command) ++ later)
    × AreChosenFrames known to (slot + 1) more later

-- what a node sends on a frame of another that says this
abbrev pub IsAnswered : Place → Standing → Node → ℕ → Message → Turn → Type 0
IsAnswered place s node from (frame.Prepare ballot slot) turn =
    (answers : List Frame) × AnswersPrepare node.store from ballot slot answers × Sends place turn answers (asks_above turn from slot)
IsAnswered place s node from (frame.Promise ballot slot told) turn = Sends place turn [] []
IsAnswered place s node from (frame.Refuse ballot slot promised) turn = Sends place turn [] []
IsAnswered place s node from (frame.Accept ballot slot commands) turn =
    (answers : List Frame) × AnswersAccept place node.store from ballot slot commands answers × Sends place turn answers (asks_above turn from slot)
IsAnswered place s node from (frame.Accepted ballot slot commands) turn = Sends place turn [] (asks_above turn from slot)
IsAnswered place s node from (frame.Chosen slot command) turn =
    Sends place turn (asks_if (comes_to_window (front_of s) (front_of turn.after)) from (front_of turn.after)) []
IsAnswered place s node from (frame.Ask slot) turn =
    (answers : List Frame) × AreChosenFrames node.known from slot (min (front_of s) (next_window slot) - slot) answers × Sends place turn answers []
IsAnswered place s node from (frame.Forward command) turn = Sends place turn [] []

-- ---- seats

-- the acts among answers, in order
abbrev pub act_in : Result Said SessionFault → List Command
act_in (Ok Ready) = []
act_in (Ok (Act act)) = act ∷ []
act_in (Err fault) = []

abbrev pub acts_in : List (Result Said SessionFault) → List Command
acts_in [] = []
acts_in (said ∷ more) = act_in said ++ acts_in more

-- an act goes to the node of the ballot that the store has promised, where there is such another node
abbrev pub forwards : Place → Ballot → List Command → List Frame
forwards place promise [] = []
forwards place promise (act ∷ acts) = (if is_others place promise then one promise.node (frame.Forward act) else []) ++ forwards place promise acts

-- the session's answers to a piece, where it stood where all that was heard of the seat before had led it: all that there are by these hands
pub record Hears (game : Game) (hands : List Hand) (seat : ℕ) (before bytes : List ℕ) (answers : List (Result Said SessionFault)) : Type 0 where
  pub old : Talk
  pub new : Talk
  pub stood : IsTalk game seat old before
  pub drains : Drains game hands seat (with_piece old bytes) answers new

-- what a node sends on a piece of a seat's bytes, where this was heard of the seat before; of a seat that isn't connected it was passed over
abbrev pub IsHeard : Place → Standing → Node → ℕ → List ℕ → Option (List ℕ) → Turn → Type 0
IsHeard place s node seat bytes None turn = Sends place turn [] []
IsHeard place s node seat bytes (Some before) turn =
    (answers : List (Result Said SessionFault)) × Hears place.setting.game (hands_at place s) seat before bytes answers
    × Sends place turn (forwards place node.store.promise (acts_in answers)) []

-- ---- every call

-- a tick sends nothing, or Prepare of an own ballot at the front to each other node, besides what its close sends
abbrev pub IsTicked : Place → Standing → Turn → Type 0
IsTicked place s turn =
    (prepares : List Frame) × ((prepares ≡ []) ⊎ ((ballot : Ballot) × (ballot.node ≡ place.node) × (prepares ≡ to_others place (frame.Prepare ballot (front_of s)))))
    × Sends place turn prepares []

-- what an order sends: the command that plays for the player to act of the node's hands goes on as an act does
abbrev pub IsPlayedFor : Place → Standing → Node → Turn → Type 0
IsPlayedFor place s node turn =
    (act : Command) × (away_at place s ≡ Some act) × Sends place turn (forwards place node.store.promise (act ∷ [])) []

-- a start asks all others for what was chosen, where the store that it found has promised anything
abbrev pub IsStarted : Place → Store → Turn → Type 0
IsStarted place found turn = turn.frames ≡ (if nat_lt 0 found.promise.round then to_others place (frame.Ask 0) else [])

-- what a node that runs sends in a call
abbrev pub SendsUp : Place → Standing → Node → Call → Turn → Type 0
SendsUp place s node (Start found) turn = turn.frames ≡ []
SendsUp place s node Tick turn = IsTicked place s turn
SendsUp place s node Away turn = IsPlayedFor place s node turn
SendsUp place s node (call.Frame from bytes) turn = (message : Message) × (reading bytes ≡ Ok message) × IsAnswered place s node from message turn
SendsUp place s node (Line seat bytes) turn = IsHeard place s node seat bytes (node.heard seat) turn
SendsUp place s node (Connect seat) turn = turn.frames ≡ []
SendsUp place s node (Drop seat) turn = turn.frames ≡ []
SendsUp place s node Stop turn = turn.frames ≡ []

-- and one that is down
abbrev pub SendsDown : Place → Call → Turn → Type 0
SendsDown place (Start found) turn = IsStarted place found turn
SendsDown place Tick turn = ⊥
SendsDown place Away turn = ⊥
SendsDown place (call.Frame from bytes) turn = ⊥
SendsDown place (Line seat bytes) turn = ⊥
SendsDown place (Connect seat) turn = ⊥
SendsDown place (Drop seat) turn = ⊥
SendsDown place Stop turn = turn.frames ≡ []

abbrev pub SendsBy : Bool → Place → Standing → Node → Call → Turn → Type 0
SendsBy true place s node called turn = SendsUp place s node called turn
SendsBy false place s node called turn = SendsDown place called turn

abbrev pub FramesAnswer : Type 0
FramesAnswer =
    (own : ℕ → Command → Bool) (place : Place) (world : World) (s : Standing) (called : Call) (turn : Turn)
    → Stands own place world s → Comes place world.ever called → IsTurn place s called (Ok turn)
    → SendsBy (world.nodes place.node).up place s (world.nodes place.node) called turn

-- an Accept's answer is what the store has, whatever the standing is and whoever sent it
abbrev pub AcceptsAreAnswered : Type 0
AcceptsAreAnswered =
    (place : Place) (s : Standing) (from : ℕ) (bytes : List ℕ) (turn : Turn) (ballot : Ballot) (slot : ℕ) (commands : List Command)
    → s.up ≡ true → IsTurn place s (call.Frame from bytes) (Ok turn) → reading bytes ≡ Ok (frame.Accept ballot slot commands)
    → (answers : List Frame) × (later : List Frame) × AnswersAccept place s.store from ballot slot commands answers × (turn.frames ≡ answers ++ later)
