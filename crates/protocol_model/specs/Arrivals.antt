-- What came to the nodes from outside of the protocol, newest first.
use Rattle.std.specs.Prelude.{ℕ, zero, suc, ◌≤◌, ◌&&◌, ◌==◌, if◌then◌else◌, List, [], ◌∷◌, ◌++◌, Option, Some, None}
use Rattle.std.specs.Option.{option_map}

-- what came to a node
pub data Event : Type 0 where
  -- the node started, and has no seat
  Started : (node : ℕ) → Event
  -- the seat connected to the node, again too
  Connected : (node seat : ℕ) → Event
  -- the seat was dropped there
  Dropped : (node seat : ℕ) → Event
  -- the node itself closed the seat's connection
  Closed : (node seat : ℕ) → Event
  -- bytes of the seat came to the node
  Came : (node seat : ℕ) (bytes : List ℕ) → Event
  -- it was ordered at the node that the player to act is played for, when it knew so many commands below the first slot that it doesn't know
  Ordered : (node front : ℕ) → Event

-- what came, and when
pub record Arrival : Type 0 where
  pub event : Event
  -- how many messages had been sent by all nodes when it came
  pub sent : ℕ

-- what an event makes of the bytes that a seat sent to a node since it connected there
abbrev pub heard_after : Event → ℕ → ℕ → Option (List ℕ) → Option (List ℕ)
heard_after (Started other) node seat heard = if node == other then None else heard
heard_after (Connected other place) node seat heard = if node == other && seat == place then Some [] else heard
heard_after (Dropped other place) node seat heard = if node == other && seat == place then None else heard
heard_after (Closed other place) node seat heard = if node == other && seat == place then None else heard
heard_after (Came other place bytes) node seat heard =
    if node == other && seat == place then option_map (λ before. before ++ bytes) heard else heard
heard_after (Ordered other front) node seat heard = heard

-- the bytes that a seat sent to a node since it connected there, oldest first; none where it isn't connected
abbrev pub heard_in : List Arrival → ℕ → ℕ → Option (List ℕ)
heard_in [] node seat = None
heard_in (latest ∷ before) node seat = heard_after latest.event node seat (heard_in before node seat)

-- each came when no fewer messages had been sent than at those before it, and the newest when no more than this many had
abbrev pub AreInOrder : List Arrival → ℕ → Type 0
AreInOrder [] sent = Unit {0}
AreInOrder (latest ∷ before) sent = (latest.sent ≤ sent) × AreInOrder before latest.sent

-- the first nodes up to this number started, the lowest first, when this many messages had been sent
abbrev pub started_below : ℕ → ℕ → List Arrival
started_below zero sent = []
started_below (suc node) sent = (record { event = Started node; sent = sent }) ∷ started_below node sent
