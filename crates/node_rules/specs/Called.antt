-- What a call of a node is in the world: a chain of the node's moves, whatever it answered.
use Rattle.std.specs.Prelude.{◌≡◌, ◌≢◌, ℕ, ◌<◌, ◌⊎◌, Bool, true, false, List, [], ◌∷◌, ◌++◌, map, reverse, Result, Ok, Err, if◌then◌else◌}
use Rattle.slot_log.specs.declared.command.Command.{Command}
use Rattle.paxos_wire.specs.declared.ballot.Ballot.{Ballot}
use Rattle.paxos_wire.specs.declared.fault.FrameFault.{FrameFault}
use Rattle.paxos_wire.specs.declared.message.Message.{Message as Wire}
use Rattle.paxos_wire.specs.Faults.{reading}
use Rattle.protocol_model.specs.Sets.{In}
use Rattle.protocol_model.specs.Messages.{Message, Prepare, Promise, Refuse, Accept, Accepted, Chosen, Ask, Forward, Said, sender_of}
use Rattle.protocol_model.specs.Frames.{carried}
use Rattle.protocol_model.specs.Stores.{Store}
use Rattle.protocol_model.specs.Nodes.{Node}
use Rattle.protocol_model.specs.Dealers.{Reader, Seat, Log}
use Rattle.protocol_model.specs.Arrivals.{Event, Arrival, Started, Connected, Dropped, Closed, Came, Ordered}
use Rattle.protocol_model.specs.Moves.{Shown, Output, Chain}
use Rattle.protocol_model.specs.Calls.{HasGotAtMost}
use Rattle.protocol_model.specs.Laws.{IsLeft}
use Rattle.dealer_kind.specs.Kind.{dealer_of, log_of}
use Rattle.node_rules.specs.Standings.{Place, Standing, applied, front_of, stopped}
use Rattle.node_rules.specs.Sending.{Frame}
use Rattle.node_rules.specs.Showing.{Piece}
use Rattle.node_rules.specs.Turns.{Turn, Refusal}
use Rattle.node_rules.specs.Calls.{Call, Start, Tick, Away, Line, Connect, Drop, Stop}
use Rattle.node_rules.specs.Calls as call
use Rattle.node_rules.specs.Rules.{IsTurn, standing_after}
use Rattle.node_rules.specs.Being.{IsOf}

-- ---- what came

-- what the bytes of a frame say
abbrev pub said_in : ℕ → Result Wire FrameFault → List Message
said_in from (Ok message) = carried from message
said_in from (Err fault) = []

abbrev pub came_in : Call → List Message
came_in (Start found) = []
came_in Tick = []
came_in Away = []
came_in (call.Frame from bytes) = said_in from (reading bytes)
came_in (Line seat bytes) = []
came_in (Connect seat) = []
came_in (Drop seat) = []
came_in Stop = []

-- a frame is of another node, which sent what it says
pub record IsSent (place : Place) (ever : List Message) (from : ℕ) (messages : List Message) : Type 0 where
  pub node : from < place.nodes
  pub other : from ≢ place.node
  pub sent : (message : Message) → In message messages → In message ever
  pub sender : (message : Message) → In message messages → sender_of message ≡ from

-- and a seat is one of the table
abbrev pub Comes : Place → List Message → Call → Type 0
Comes place ever (Start found) = Unit {0}
Comes place ever Tick = Unit {0}
Comes place ever Away = Unit {0}
Comes place ever (call.Frame from bytes) = IsSent place ever from (said_in from (reading bytes))
Comes place ever (Line seat bytes) = seat < place.setting.game.players
Comes place ever (Connect seat) = seat < place.setting.game.players
Comes place ever (Drop seat) = seat < place.setting.game.players
Comes place ever Stop = Unit {0}

-- ---- what is sent

-- what a node says to itself alone: that an act was said, and its own promise
abbrev pub IsNote : Message → Type 0
IsNote (Prepare ballot slot) = ⊥
IsNote (Promise sender ballot slot told) = sender ≡ ballot.node
IsNote (Refuse sender ballot slot promised) = ⊥
IsNote (Accept ballot slot command) = ⊥
IsNote (Accepted sender ballot slot command) = ⊥
IsNote (Chosen sender slot command) = ⊥
IsNote (Ask sender slot) = ⊥
IsNote (Forward sender command) = ⊥
IsNote (Said sender command) = Unit {0}

-- what goes to all others
abbrev pub IsForAll : Message → Type 0
IsForAll (Prepare ballot slot) = Unit {0}
IsForAll (Promise sender ballot slot told) = ⊥
IsForAll (Refuse sender ballot slot promised) = ⊥
IsForAll (Accept ballot slot command) = Unit {0}
IsForAll (Accepted sender ballot slot command) = Unit {0}
IsForAll (Chosen sender slot command) = ⊥
IsForAll (Ask sender slot) = ⊥
IsForAll (Forward sender command) = ⊥
IsForAll (Said sender command) = ⊥

-- a frame of node i among these says it, to that node
abbrev pub IsSaidTo : ℕ → List Frame → ℕ → Message → Type 0
IsSaidTo i frames to message = (frame : Frame) × In frame frames × (frame.to ≡ to) × In message (carried i frame.message)

abbrev pub IsSaid : ℕ → List Frame → Message → Type 0
IsSaid i frames message = (to : ℕ) × IsSaidTo i frames to message

-- frames of node i of n, and what it sent: each frame goes to another node and says a part of that, and that it accepted something
-- is said by some frame
pub record Carry (n i : ℕ) (frames : List Frame) (sent : List Message) : Type 0 where
  pub others : (frame : Frame) → In frame frames → (frame.to < n) × (frame.to ≢ i)
  pub said : (message : Message) → IsSaid i frames message → In message sent
  pub own : (message : Message) → In message sent → sender_of message ≡ i
  pub accepted : (sender : ℕ) (ballot : Ballot) (slot : ℕ) (command : Command)
      → In (Accepted sender ballot slot command) sent → IsSaid i frames (Accepted sender ballot slot command)
  -- what it proposes it has accepted
  pub accepts : (ballot : Ballot) (slot : ℕ) (command : Command)
      → IsSaid i frames (Accept ballot slot command) → IsSaid i frames (Accepted i ballot slot command)

-- nothing is lost: what was sent is said by a frame, but for the node's notes; and what is for all is said to each other node
pub record CarryAll (n i : ℕ) (frames : List Frame) (sent : List Message) : Type 0 where
  pub covers : (message : Message) → In message sent → IsNote message ⊎ IsSaid i frames message
  pub to_all : (message : Message) → In message sent → IsForAll message → (to : ℕ) → to < n → to ≢ i → IsSaidTo i frames to message

-- ---- what is shown

-- a text, and who reads it: of the log the whole log
pub record Text : Type 0 where
  pub reader : Reader
  pub text : List ℕ

abbrev pub text_in : Shown → Text
text_in shown = record { reader = shown.reader; text = shown.text }

-- what the log is after a piece, and the text that is then shown
abbrev pub log_with : List ℕ → Reader → List ℕ → List ℕ
log_with log (Seat seat) text = log
log_with log Log text = log ++ text

abbrev pub text_with : List ℕ → Reader → List ℕ → Text
text_with log (Seat seat) text = record { reader = Seat seat; text = text }
text_with log Log text = record { reader = Log; text = log ++ text }

-- the log after pieces, and the texts that they show, where the log was this before
abbrev pub log_after : List ℕ → List Piece → List ℕ
log_after log [] = log
log_after log (piece ∷ pieces) = log_after (log_with log piece.reader piece.text) pieces

abbrev pub texts_of : List ℕ → List Piece → List Text
texts_of log [] = []
texts_of log (piece ∷ pieces) = text_with log piece.reader piece.text ∷ texts_of (log_with log piece.reader piece.text) pieces

-- the pieces of node i in one of its starts, and all that it showed, newest first
pub record AreShown (i start : ℕ) (log : List ℕ) (pieces : List Piece) (shown : List Shown) : Type 0 where
  pub texts : map text_in shown ≡ reverse (texts_of log pieces)
  pub of_node : (text : Shown) → In text shown → text.node ≡ i
  pub of_start : (text : Shown) → In text shown → text.start ≡ start

-- the log of a node's present start; a node that is down begins a new one
abbrev pub log_before : Place → Standing → List ℕ
log_before place s = if s.up then log_of place.setting (applied s) else []

-- ---- what came from outside

abbrev pub events_of : List Arrival → List Event
events_of came = map (λ (arrival : Arrival). arrival.event) came

-- the events of a call that was taken, newest first, of a node whose front was this; of a line one of these: the node may close the seat
abbrev pub taken_events : ℕ → ℕ → Bool → Call → List (List Event)
taken_events i front true Away = (Ordered i front ∷ []) ∷ []
taken_events i front true (Line seat bytes) = (Came i seat bytes ∷ []) ∷ (Closed i seat ∷ Came i seat bytes ∷ []) ∷ []
taken_events i front true (Connect seat) = (Connected i seat ∷ []) ∷ []
taken_events i front true (Drop seat) = (Dropped i seat ∷ []) ∷ []
taken_events i front false (Start found) = (Started i ∷ []) ∷ []
taken_events i front up other = [] ∷ []

-- of a call that failed: a line may have come, and so may an order
abbrev pub failed_events : ℕ → ℕ → Call → List (List Event)
failed_events i front Away = [] ∷ (Ordered i front ∷ []) ∷ []
failed_events i front (Line seat bytes) = [] ∷ (Came i seat bytes ∷ []) ∷ []
failed_events i front other = [] ∷ []

-- ---- the whole

-- a call of a node that was `first`, in a world where `ever` is all that was sent: a chain of the node's moves to a node that the standing after it is of,
-- with output that the frames carry and the pieces show
pub record Called (own : ℕ → Command → Bool) (place : Place) (ever : List Message) (first : Node) (log : List ℕ) (came : List Message) (events : List (List Event))
    (frames : List Frame) (pieces : List Piece) (after : Standing) : Type 0 where
  pub output : Output
  pub last : Node
  pub chain : Chain (dealer_of place.setting own) place.nodes place.node ever first output last
  pub of : IsOf own place after last
  pub carry : Carry place.nodes place.node frames output.sent
  pub shown : AreShown place.node last.starts log pieces output.shown
  pub logged : after.up ≡ true → log_after log pieces ≡ log_of place.setting (applied after)
  pub got : HasGotAtMost first.has came output.sent last.has
  pub happened : In (events_of output.came) events

-- and one that was taken has lost nothing: all that it sent is in its frames, and all that came was got
pub record Taken (own : ℕ → Command → Bool) (place : Place) (ever : List Message) (first : Node) (log : List ℕ) (came : List Message) (events : List (List Event))
    (frames : List Frame) (pieces : List Piece) (after : Standing) : Type 0 where
  pub called : Called own place ever first log came events frames pieces after
  pub all_carried : CarryAll place.nodes place.node frames called.output.sent
  pub all_got : (message : Message) → In message came → In message called.last.has

-- as far as its append, which shows nothing and tells of nothing accepted: the append may leave this store
pub record Begins (own : ℕ → Command → Bool) (place : Place) (ever : List Message) (first : Node) (events : List (List Event)) (store : Store) : Type 0 where
  pub output : Output
  pub last : Node
  pub chain : Chain (dealer_of place.setting own) place.nodes place.node ever first output last
  pub up : last.up ≡ true
  pub same_store : last.store ≡ first.store
  pub left : IsLeft place.node last store
  pub own_messages : (message : Message) → In message output.sent → sender_of message ≡ place.node
  pub unaccepted : (sender : ℕ) (ballot : Ballot) (slot : ℕ) (command : Command) → In (Accepted sender ballot slot command) output.sent → ⊥
  pub unshown : output.shown ≡ []
  pub happened : In (events_of output.came) events

-- ---- how calls end

-- the standing after a call, its frames and what it showed, whatever it answered
pub data Ends (place : Place) (s : Standing) (called : Call) (after : Standing) (frames : List Frame) (shown : List Piece) : Type 0 where
  -- Ok: its turn
  took : (turn : Turn) → IsTurn place s called (Ok turn) → after ≡ turn.after → frames ≡ turn.frames → shown ≡ turn.shown
      → Ends place s called after frames shown
  -- 90, 93, 94, 95, 96: the reason why there is none
  refused : (refusal : Refusal) → IsTurn place s called (Err refusal) → after ≡ standing_after place s (Err refusal) → frames ≡ [] → shown ≡ []
      → Ends place s called after frames shown
  -- 91 of a node that ran: it is down, with its append begun or not
  failed : (outcome : Result Turn Refusal) (begun : Store) → s.up ≡ true → IsTurn place s called outcome
      → (begun ≡ s.store) ⊎ (begun ≡ (standing_after place s outcome).begun) → after ≡ stopped place s.store begun → frames ≡ [] → shown ≡ []
      → Ends place s called after frames shown
  -- 92, or a start that failed: nothing has changed
  unchanged : after ≡ s → frames ≡ [] → shown ≡ [] → Ends place s called after frames shown

-- what may have come from outside
abbrev pub events_by : (place : Place) (s : Standing) (called : Call) (after : Standing) (frames : List Frame) (shown : List Piece)
    → Ends place s called after frames shown → List (List Event)
events_by place s called after frames shown (took turn rule e f g) = taken_events place.node (front_of s) s.up called
events_by place s called after frames shown (refused refusal rule e f g) = [] ∷ []
events_by place s called after frames shown (failed outcome begun up rule b e f g) = failed_events place.node (front_of s) called
events_by place s called after frames shown (unchanged e f g) = [] ∷ []
