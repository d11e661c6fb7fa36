-- A cluster whose nodes keep the rules, as plain values: what one call makes of it.
use Rattle.std.specs.Prelude.{◌≡◌, ℕ, ◌<◌, Bool, true, false, List, [], ◌∷◌, map, Ok}
use Rattle.slot_log.specs.declared.command.Command.{Command}
use Rattle.paxos_wire.specs.Faults.{reading}
use Rattle.paxos_wire.specs.Spelling.{frame as bytes_of}
use Rattle.protocol_model.specs.Nodes.{Node as WorldNode}
use Rattle.dealer_kind.specs.Kind.{log_of}
use Rattle.node_rules.specs.Standings.{Place, Standing, applied, front_of}
use Rattle.node_rules.specs.Sending.{Frame as Outgoing}
use Rattle.node_rules.specs.Showing.{Piece as Shown}
use Rattle.node_rules.specs.Calls.{Call, Start, Tick, Away, Line, Connect, Drop, Stop}
use Rattle.node_rules.specs.Calls as call
use Rattle.node_rules.specs.Being.{IsOf}
use Rattle.node_rules.specs.Called.{Ends, took, refused, failed, unchanged}
use Rattle.dealer_world.specs.Records.{Frame, Arrived, Delivered, Came, Connected, Dropped, Ordered}
use Rattle.dealer_world.specs.Calls.{Text, Made}

-- the frames are those that the rules send, each from node i, with the bytes of its message, which read back as it
abbrev pub AreWritten : ℕ → List Outgoing → List Frame → Type 0
AreWritten i [] [] = Unit {0}
AreWritten i [] (frame ∷ frames) = ⊥
AreWritten i (outgoing ∷ more) [] = ⊥
AreWritten i (outgoing ∷ more) (frame ∷ frames) =
    (frame.from ≡ i) × (frame.to ≡ outgoing.to) × (frame.bytes ≡ bytes_of outgoing.message) × (reading frame.bytes ≡ Ok outgoing.message) × AreWritten i more frames

abbrev pub text_by_rule : Shown → Text
text_by_rule piece = record { reader = piece.reader; text = piece.text }

-- what a call is in the record, where its node runs and has this front
abbrev pub arrived_by : ℕ → ℕ → Call → List Arrived
arrived_by i front (Start found) = []
arrived_by i front Tick = []
arrived_by i front Away = Ordered i front ∷ []
arrived_by i front (call.Frame from bytes) = (Delivered (record { from = from; to = i; bytes = bytes })) ∷ []
arrived_by i front (Line seat bytes) = Came i seat bytes ∷ []
arrived_by i front (Connect seat) = Connected i seat ∷ []
arrived_by i front (Drop seat) = Dropped i seat ∷ []
arrived_by i front Stop = []

-- at a node that is down nothing arrives
abbrev pub arrived_at : Bool → ℕ → ℕ → Call → List Arrived
arrived_at true i front called = arrived_by i front called
arrived_at false i front called = []

-- a start begins where a node that was down is started
abbrev pub begins_by : Bool → Call → Bool
begins_by up Tick = false
begins_by up Away = false
begins_by up (call.Frame from bytes) = false
begins_by up (Line seat bytes) = false
begins_by up (Connect seat) = false
begins_by up (Drop seat) = false
begins_by up Stop = false
begins_by true (Start found) = false
begins_by false (Start found) = true

-- by how the call ended: what arrived stands in the record unless the call found no memory, and a start begins where it was taken
abbrev pub Keeps : (place : Place) (s : Standing) (called : Call) (after : Standing) (frames : List Outgoing) (shown : List Shown)
    → Ends place s called after frames shown → List Arrived → Bool → Type 0
Keeps place s called after frames shown (took turn rule e f g) arrived began = (arrived ≡ arrived_at s.up place.node (front_of s) called) × (began ≡ begins_by s.up called)
Keeps place s called after frames shown (refused refusal rule e f g) arrived began = (arrived ≡ arrived_at s.up place.node (front_of s) called) × (began ≡ false)
Keeps place s called after frames shown (failed outcome begun up rule b e f g) arrived began = (arrived ≡ arrived_at s.up place.node (front_of s) called) × (began ≡ false)
Keeps place s called after frames shown (unchanged e f g) arrived began = (arrived ≡ []) × (began ≡ false)

-- the seat of a call is one of the table
abbrev pub IsSeated : ℕ → Call → Type 0
IsSeated players (Start found) = Unit {0}
IsSeated players Tick = Unit {0}
IsSeated players Away = Unit {0}
IsSeated players (call.Frame from bytes) = Unit {0}
IsSeated players (Line seat bytes) = seat < players
IsSeated players (Connect seat) = seat < players
IsSeated players (Drop seat) = seat < players
IsSeated players Stop = Unit {0}

-- a call of a node by the rules: what it was before and is after, what of it arrived, and what it made
pub record Ruled (place : Place) (old : Standing) (called : Call) (arrived : List Arrived) (made : Made) (new : Standing) : Type 0 where
  pub frames : List Outgoing
  pub shown : List Shown
  pub ends : Ends place old called new frames shown
  pub seated : IsSeated place.setting.game.players called
  pub written : AreWritten place.node frames made.frames
  pub texts : made.texts ≡ map text_by_rule shown
  pub keeps : Keeps place old called new frames shown ends arrived made.began

-- a standing is the world's node, and this is the log of its present start
pub record IsOfRule (own : ℕ → Command → Bool) (place : Place) (s : Standing) (there : WorldNode) (log : List ℕ) : Type 0 where
  pub of : IsOf own place s there
  pub logs : s.up ≡ true → log ≡ log_of place.setting (applied s)
