-- What a call of a node makes, and what it is in the world.
use Rattle.std.specs.Prelude.{◌≡◌, ◌≢◌, ℕ, suc, ◌<◌, ◌⊎◌, Bool, true, false, if◌then◌else◌, List, [], ◌∷◌, ◌++◌, length, map, reverse}
use Rattle.paxos_wire.specs.declared.ballot.Ballot.{Ballot}
use Rattle.slot_log.specs.declared.command.Command.{Command}
use Rattle.protocol_model.specs.Sets.{In}
use Rattle.protocol_model.specs.Messages.{Message, Accept, Accepted, sender_of}
use Rattle.protocol_model.specs.Arrivals as model
use Rattle.protocol_model.specs.Nodes.{Node as WorldNode, Knows}
use Rattle.protocol_model.specs.Dealers.{Dealer, Reader, Seat, Log}
use Rattle.protocol_model.specs.Moves.{Output, Shown, Chain}
use Rattle.protocol_model.specs.Worlds.{World, Reached}
use Rattle.dealer_world.specs.Records.{Frame, Arrived, Delivered, Came, Connected, Dropped, Ordered, said, said_by}

-- a text for one reader: a line, or what is added to the log
pub record Text : Type 0 where
  pub reader : Reader
  pub text : List ℕ

-- what one call sends and shows, in order, and whether a start began
pub record Made : Type 0 where
  pub frames : List Frame
  pub texts : List Text
  pub began : Bool

abbrev pub nothing_made : Made
nothing_made = record { frames = []; texts = []; began = false }

-- what the text adds to the log
abbrev pub added_by : Reader → List ℕ → List ℕ
added_by (Seat seat) text = []
added_by Log text = text

-- the log after these texts, newest first
abbrev pub log_after : List ℕ → List Text → List ℕ
log_after log [] = log
log_after log (latest ∷ before) = log_after log before ++ added_by latest.reader latest.text

-- what the reader reads: a line, or the whole log
abbrev pub read_by : Reader → List ℕ → List ℕ → List ℕ
read_by (Seat seat) log text = text
read_by Log log text = log ++ text

-- the world's text is this one, of this node and start, behind this log
pub record Tells (i start : ℕ) (log : List ℕ) (text : Text) (shown : Shown) : Type 0 where
  pub of_node : shown.node ≡ i
  pub in_start : shown.start ≡ start
  pub to_reader : shown.reader ≡ text.reader
  pub whole : shown.text ≡ read_by text.reader log text.text

-- the world's texts are these, both newest first, of this node and start, the first behind this log
abbrev pub AreTold : ℕ → ℕ → List ℕ → List Shown → List Text → Type 0
AreTold i start log [] [] = Unit {0}
AreTold i start log [] (text ∷ texts) = ⊥
AreTold i start log (latest ∷ before) [] = ⊥
AreTold i start log (latest ∷ before) (text ∷ texts) = Tells i start (log_after log texts) text latest × AreTold i start log before texts

-- the node knows so many commands, from the first slot on
abbrev pub HasKnown : WorldNode → ℕ → Type 0
HasKnown node front = (known : List Command) × (length known ≡ front) × Knows node.known known

-- what an arrival brings into the world, newest first: an own closing of the connection may follow a seat's bytes, and an order brings its arrival, or none
abbrev pub Brings : ℕ → Arrived → List model.Event → Type 0
Brings i (Delivered frame) events = events ≡ []
Brings i (Came node seat bytes) events =
    (events ≡ model.Came node seat bytes ∷ []) ⊎ (events ≡ model.Closed node seat ∷ model.Came node seat bytes ∷ [])
Brings i (Connected node seat) events = events ≡ model.Connected node seat ∷ []
Brings i (Dropped node seat) events = events ≡ model.Dropped node seat ∷ []
Brings i (Ordered node front) events = (events ≡ model.Ordered node front ∷ []) ⊎ (events ≡ [])

-- what a call brings: the one arrival, or where there is none, its node's start
abbrev pub BringsAll : ℕ → Bool → List Arrived → List model.Event → Type 0
BringsAll i began [] events = events ≡ (if began then model.Started i ∷ [] else [])
BringsAll i began (arrived ∷ more) events = (more ≡ []) × (began ≡ false) × Brings i arrived events

-- the frames among what arrived
abbrev pub frames_in : List Arrived → List Frame
frames_in [] = []
frames_in (Delivered frame ∷ more) = frame ∷ frames_in more
frames_in (Came node seat bytes ∷ more) = frames_in more
frames_in (Connected node seat ∷ more) = frames_in more
frames_in (Dropped node seat ∷ more) = frames_in more
frames_in (Ordered node front ∷ more) = frames_in more

-- the log behind which a call shows what it shows: a start begins one
abbrev pub log_before : Bool → List ℕ → List ℕ
log_before began log = if began then [] else log

-- a frame from another node than i, one of n, which says only what that node sent
pub record IsSound (n i : ℕ) (ever : List Message) (frame : Frame) : Type 0 where
  pub is_node : frame.from < n
  pub other : frame.from ≢ i
  pub sent : (message : Message) → In message (said_by frame) → In message ever
  pub own : (message : Message) → In message (said_by frame) → sender_of message ≡ frame.from

-- a frame from a node of n, to another one, which says only what is its sender's
pub record IsOwn (n : ℕ) (frame : Frame) : Type 0 where
  pub is_node : frame.from < n
  pub to_node : frame.to < n
  pub other : frame.to ≢ frame.from
  pub own : (message : Message) → In message (said_by frame) → sender_of message ≡ frame.from

-- among the texts is one for the log
abbrev pub HasHeader : List Text → Type 0
HasHeader texts = (text : Text) × In text texts × (text.reader ≡ Log)

-- The call was a chain of moves of node i, from the first node of the world, whose present log was this, to the last: it sent what the frames say and
-- showed the texts, and what arrived came. `IsOf node there log` says that the code's node is the world's, and that `log` is its present log.
pub record Called {Node : Type 0} (IsOf : Node → WorldNode → List ℕ → Type 0) (dealer : Dealer) (n i : ℕ) (ever : List Message)
    (first : WorldNode) (log : List ℕ) (arrived : List Arrived) (made : Made) (new : Node) : Type 0 where
  pub output : Output
  pub last : WorldNode
  pub chain : Chain dealer n i ever first output last
  pub of : IsOf new last (log_after (log_before made.began log) (reverse made.texts))
  pub carries : (message : Message) → In message (said made.frames) → In message output.sent
  pub accepted : (sender : ℕ) (ballot : Ballot) (slot : ℕ) (command : Command)
      → In (Accepted sender ballot slot command) output.sent → In (Accepted sender ballot slot command) (said made.frames)
  -- what it proposes it has accepted
  pub accepts : (ballot : Ballot) (slot : ℕ) (command : Command)
      → In (Accept ballot slot command) (said made.frames) → In (Accepted ballot.node ballot slot command) (said made.frames)
  pub own : (frame : Frame) → In frame made.frames → IsOwn n frame
  pub told : AreTold i last.starts (log_before made.began log) output.shown (reverse made.texts)
  pub starts : last.starts ≡ (if made.began then suc first.starts else first.starts)
  pub header : made.began ≡ true → HasHeader made.texts
  -- it comes to a node that runs; and one that was down runs, shows and logs only from a start on
  pub runs : arrived ≢ [] → first.up ≡ true
  pub awake : made.began ≡ false → last.up ≡ true → first.up ≡ true
  pub speaks : made.began ≡ false → made.texts ≢ [] → first.up ≡ true
  -- an order met as many commands as the node knows below its front
  pub knew : (node front : ℕ) → In (Ordered node front) arrived → HasKnown first front
  pub came : BringsAll i made.began arrived (map (λ (arrival : model.Arrival). arrival.event) output.came)
      ⊎ ((output.came ≡ []) × (last.up ≡ false))

-- in each reached world, where the node is the world's and the frames that arrived were sent
abbrev pub Calls : {Node : Type 0} → (ℕ → Node → WorldNode → List ℕ → Type 0) → Dealer → ℕ → ℕ → Node → List Arrived → Made → Node → Type 0
Calls IsOf dealer n i old arrived made new =
    (world : World) (log : List ℕ) → Reached dealer n world → i < n → IsOf i old (world.nodes i) log
    → ((frame : Frame) → In frame (frames_in arrived) → IsSound n i world.ever frame)
    → Called (IsOf i) dealer n i world.ever (world.nodes i) log arrived made new
