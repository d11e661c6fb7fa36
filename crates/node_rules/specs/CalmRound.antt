-- The calm round, call by call.
use Rattle.std.specs.Prelude.{◌≡◌, ℕ, ◌+◌, ◌*◌, ◌≤◌, Bool, List, [], ◌∷◌, ◌++◌, length, map, Option, Some, Result, Ok}
use Rattle.paxos_wire.specs.declared.message.Message.{Message}
use Rattle.paxos_wire.specs.Spelling.{frame}
use Rattle.paxos_wire.specs.Faults.{reading}
use Rattle.slot_log.specs.Slots.{Log, known_at}
use Rattle.slot_log.specs.declared.command.Command.{Command}
use Rattle.slot_log.specs.declared.command.Command.TheVariants.{Deal}
use Rattle.protocol_model.specs.Sets.{In, put}
use Rattle.protocol_model.specs.Stores.{empty_store}
use Rattle.protocol_model.specs.Worlds.{World, Reached}
use Rattle.dealer_kind.specs.Kind.{Setting, dealer_of}
use Rattle.dealer_kind.specs.Plans.{IsSetting}
use Rattle.node_rules.specs.Standings.{Place, Standing, started, front_of}
use Rattle.node_rules.specs.Sending.{Frame}
use Rattle.node_rules.specs.Turns.{Turn, Refusal}
use Rattle.node_rules.specs.Calls.{Call, Tick}
use Rattle.node_rules.specs.Calls as call
use Rattle.node_rules.specs.Rules.{IsTurn}
use Rattle.node_rules.specs.Being.{IsPlace, IsOf}
use Rattle.node_rules.specs.Calm.{IsLeastQuorum, Calm, Event, Ticks, Delivers, round}

-- a match's nodes by their numbers: what each may deal of each hand
abbrev pub place_in : Setting → ℕ → (ℕ → ℕ → Option (List ℕ)) → ℕ → Place
place_in setting n deals node = record { setting = setting; nodes = n; node = node; deals = deals node }

-- ---- one event

-- of which node an event is a call, and of which kind
abbrev pub node_of : Event → ℕ
node_of (Ticks node) = node
node_of (Delivers from to bytes) = to

abbrev pub call_of : Event → Call
call_of (Ticks node) = Tick
call_of (Delivers from to bytes) = call.Frame from bytes

-- a frame on its way
pub record Sent : Type 0 where
  pub from : ℕ
  pub to : ℕ
  pub message : Message

abbrev pub sent_by : ℕ → List Frame → List Sent
sent_by from frames = map (λ (f : Frame). record { from = from; to = f.to; message = f.message }) frames

-- what is delivered is on its way, with these bytes
abbrev pub IsOnItsWay : List Sent → Event → Type 0
IsOnItsWay sent (Ticks node) = Unit {0}
IsOnItsWay sent (Delivers from to bytes) = (message : Message) × (bytes ≡ frame message) × In (record { from = from; to = to; message = message }) sent

-- the bytes of frames are read back as their messages
abbrev pub AreReadBack : List Frame → Type 0
AreReadBack frames = (f : Frame) → In f frames → reading (frame f.message) ≡ Ok f.message

-- ---- a list of events

-- at each of the events, whatever the turns before it were: it is a tick, or it delivers a frame that is on its way; by the rules the call comes to a
-- turn, so that 90, 93, 94 and 95 come in none; and at the end all is so
unfoldable pub GoOn : (ℕ → Place) → ((ℕ → Standing) → Type 0) → (ℕ → Standing) → List Sent → List Event → Type 0
GoOn places IsSo standings sent [] = IsSo standings
GoOn places IsSo standings sent (event ∷ events) =
    IsOnItsWay sent event
    × ((outcome : Result Turn Refusal) → IsTurn (places (node_of event)) (standings (node_of event)) (call_of event) outcome
    → (turn : Turn) × (outcome ≡ Ok turn)
    × (AreReadBack turn.frames → GoOn places IsSo (put standings (node_of event) turn.after) (sent_by (node_of event) turn.frames ++ sent) events))

-- each command is known: the first at this slot, each further one at the slot behind
abbrev pub AreKnown : Log → ℕ → List Command → Type 0
AreKnown log slot [] = Unit {0}
AreKnown log slot (command ∷ more) = (known_at log slot ≡ Some command) × AreKnown log (slot + 1) more

-- the node's front has passed the slot and those of the further commands, and there it knows the commands
abbrev pub HasMovedOn : ℕ → ℕ → List Command → (ℕ → Standing) → Type 0
HasMovedOn i slot commands standings = (slot + length commands ≤ front_of (standings i)) × AreKnown (standings i).learned.log slot commands

-- the members' standings are of nodes of a reached world
pub record AreOf (own : ℕ → Command → Bool) (setting : Setting) (n : ℕ) (deals : ℕ → ℕ → Option (List ℕ)) (world : World) (standings : ℕ → Standing) (members : List ℕ) : Type 0 where
  pub reached : Reached (dealer_of setting own) n world
  pub is_place : (node : ℕ) → In node members → IsPlace own (place_in setting n deals node)
  pub of : (node : ℕ) → In node members → IsOf own (place_in setting n deals node) (standings node) (world.nodes node)

-- a cluster at rest moves: its round goes on to the end, and then the node's front has moved past the commands, which are known
abbrev pub CalmRoundMoves : Type 0
CalmRoundMoves =
    (own : ℕ → Command → Bool) (setting : Setting) (n : ℕ) (deals : ℕ → ℕ → Option (List ℕ)) (world : World) (standings : ℕ → Standing) (i : ℕ) (members : List ℕ) (commands : List Command)
    → AreOf own setting n deals world standings members → Calm (place_in setting n deals i) standings i members commands
    → GoOn (place_in setting n deals) (HasMovedOn i (front_of (standings i)) commands) standings [] (round standings i members commands)

-- nodes that have just been started on empty stores are at rest: each could move each least quorum to which it belongs on to its own first deal
abbrev pub FreshIsCalm : Type 0
FreshIsCalm =
    (setting : Setting) (n : ℕ) (deals : ℕ → ℕ → Option (List ℕ)) (i : ℕ) (members : List ℕ) (deal : List ℕ)
    → IsSetting setting → IsLeastQuorum n members → In i members → deals i 0 ≡ Some deal → length deal ≡ 2 * setting.game.players + 5
    → Calm (place_in setting n deals i) (λ node. started (place_in setting n deals node) empty_store) i members (Deal 0 deal ∷ [])
