-- A cluster that a script drives, line by line.
use Rattle.std.specs.Prelude.{◌≡◌, ◌⊎◌, ℕ, ◌+◌, ◌-◌, ◌≤◌, Bool, false, true, List, [], ◌∷◌, ◌++◌, length, replicate, slice_get, slice_set, Some, Result, Err, codes}
use Rattle.std.specs.List.{flat_map}
use Rattle.promise_store.specs.declared.memory_disk.MemoryDisk.{MemoryDisk}
use Rattle.promise_store.specs.contracts.memory_disk.MemoryDiskDisk.TheImpl.{ghosts as in_memory}
use Rattle.protocol_model.specs.Stores.{empty_store}
use Rattle.dealer_kind.specs.Plans.{Plan}
use Rattle.dealer_node.specs.declared.fault.NodeFault.{NodeFault}
use Rattle.dealer_node.specs.declared.fault.NodeFault.TheVariants.{OutOfMemory}
use Rattle.dealer_node.specs.Nodes.{Node}
use Rattle.dealer_world.specs.Records.{Frame, Piece, Delivered, Came}
use Rattle.dealer_world.specs.declared.event.Event.{Event}
use Rattle.dealer_world.specs.declared.event.Event.TheVariants as event
use Rattle.dealer_world.specs.Events.{node_of, brought_by}
use Rattle.dealer_world.specs.Promise.{ShowsOneList}
use Rattle.dealer_world.specs.Stepping.{View, Stepped}
use Rattle.dealer_world.specs.Beginning.{AreStarted}
use Rattle.play_script.specs.declared.bounds.Bounds.{Bounds}
use Rattle.play_script.specs.declared.order.Order.{Order}
use Rattle.play_script.specs.declared.order.Order.TheVariants.{Tick, Away, Deliver, Flush, Connect, Drop, Line, Stop, Start}
use Rattle.play_script.specs.Orders.{Says}
use Rattle.play_script.specs.Shown.{whole_line, bad_script_text}
use Rattle.playing.specs.Showing.{event_text, text_for}
use Rattle.playing.specs.Marks.{AreDelivered, IsFirstMissing}

-- a cluster as it is seen, and by number of frame, whether it was ever delivered
pub record Scene : Type 0 where
  pub cluster : View (Node MemoryDisk)
  pub delivered : List Bool

-- what a line of the script may name
abbrev pub bounds_of : Scene → Bounds
bounds_of scene = record {
  nodes = length scene.cluster.config.sources;
  seats = scene.cluster.config.setting.game.players;
  frames = length scene.cluster.all.sent;
}

-- one list of chosen commands is behind all that the cluster showed
abbrev pub HasOneList : Scene → Type 0
HasOneList scene = ∥ ShowsOneList scene.cluster [] ∥₁

-- one event, which finds memory, and what is printed of it; the frames that it sends weren't delivered yet
pub record Happens (old : Scene) (e : Event) (text : List ℕ) (new : Scene) : Type 0 where
  pub answer : Result (Unit {0}) NodeFault
  pub finds_memory : answer ≡ Err OutOfMemory → ⊥
  pub stepped : Stepped in_memory old.cluster e answer new.cluster
  pub printed : text ≡ event_text (node_of e) (length old.cluster.all.sent) new.cluster.last answer
  pub delivered : new.delivered ≡ old.delivered ++ replicate (length new.cluster.last.frames) false

-- the frame of this number counts as delivered
abbrev pub delivering : ℕ → Scene → Scene
delivering number scene = record scene { delivered = slice_set scene.delivered number true }

-- the frame of this number is delivered, and what is printed of that
pub record Delivery (old : Scene) (number : ℕ) (text : List ℕ) (new : Scene) : Type 0 where
  pub frame : Frame
  pub sent : slice_get old.cluster.all.sent number ≡ Some frame
  pub event : Event
  pub brings : (front : ℕ) → brought_by front event ≡ Delivered frame ∷ []
  pub happens : Happens (delivering number old) event text new

-- so many times the frame of least number that was never delivered is delivered
pub data Flushes (first : Scene) : ℕ → List ℕ → Scene → Type 0 where
  none : (count : ℕ) (text : List ℕ) (last : Scene) → count ≡ 0 → text ≡ [] → last ≡ first → Flushes first count text last
  more : (before : ℕ) (earlier here : List ℕ) (between : Scene) (number : ℕ) (count : ℕ) (text : List ℕ) (last : Scene)
      → Flushes first before earlier between → IsFirstMissing between.delivered number → Delivery between number here last
      → count ≡ before + 1 → text ≡ earlier ++ here → Flushes first count text last

-- at most so many times, and fewer only where no frame is left that was never delivered
pub record FlushesUpTo (most : ℕ) (old : Scene) (text : List ℕ) (new : Scene) : Type 0 where
  pub count : ℕ
  pub within : count ≤ most
  pub flushes : Flushes old count text new
  pub enough : (count ≡ most) ⊎ AreDelivered new.delivered (length new.delivered)

-- a seat's line comes to a node, with CR LF behind it
pub record Arrives (node seat : ℕ) (line : List ℕ) (old : Scene) (text : List ℕ) (new : Scene) : Type 0 where
  pub event : Event
  pub brings : (front : ℕ) → brought_by front event ≡ Came node seat (line ++ 13 ∷ 10 ∷ []) ∷ []
  pub happens : Happens old event text new

-- what comes of an order, and what is printed of it
abbrev pub Obeys : Scene → Order → List ℕ → Scene → Type 0
Obeys old (Tick node) text new = Happens old (event.Tick node) text new
Obeys old (Away node) text new = Happens old (event.Away node) text new
Obeys old (Deliver number) text new = Delivery old number text new
Obeys old (Flush most) text new = FlushesUpTo most old text new
Obeys old (Connect node seat) text new = Happens old (event.Connect node seat) text new
Obeys old (Drop node seat) text new = Happens old (event.Drop node seat) text new
Obeys old (Line node seat line) text new = Arrives node seat line.now old text new
Obeys old (Stop node pick) text new = Happens old (event.Stop node pick) text new
Obeys old (Start node) text new = Happens old (event.Start node) text new

-- a line that says no order, or one that names what there isn't
abbrev pub SaysNothing : Bounds → List ℕ → Type 0
SaysNothing bounds line = (order : Order) → ¬ (Says bounds line order)

-- the answer to a line: what is printed of the order that it says; to one that says none a fault, and nothing changes
pub data Answers (old : Scene) (line : List ℕ) (text : List ℕ) (new : Scene) : Type 0 where
  bad_script : SaysNothing (bounds_of old) line → text ≡ whole_line (codes "E " ++ bad_script_text) → new ≡ old → Answers old line text new
  obeyed : (order : Order) → Says (bounds_of old) line order → Obeys old order text new → Answers old line text new

-- what is printed of a piece that a new cluster showed
abbrev pub header_text : Piece → List ℕ
header_text piece = text_for piece.node piece.reader piece.text

-- a new cluster of a match, whose nodes have just been started over new stores, and what is printed of it: all that it showed, the headers of the logs; no
-- frame was delivered yet
pub record Begins (plan : Plan) (text : List ℕ) (scene : Scene) : Type 0 where
  pub match : scene.cluster.config ≡ plan
  pub fresh : scene.cluster.opened ≡ false
  pub started : AreStarted in_memory (λ i. empty_store) scene.cluster
  pub printed : text ≡ flat_map header_text scene.cluster.all.shown
  pub undelivered : scene.delivered ≡ replicate (length scene.cluster.all.sent) false

-- what is printed of a match and of lines of a script, newest first: the headers of a new cluster's logs, and then the answer to each line in its turn
pub data Plays (plan : Plan) : List (List ℕ) → List ℕ → Scene → Type 0 where
  begun : (lines : List (List ℕ)) (text : List ℕ) (scene : Scene) → lines ≡ [] → Begins plan text scene → Plays plan lines text scene
  answered : (before : List (List ℕ)) (line earlier here : List ℕ) (between : Scene) (lines : List (List ℕ)) (text : List ℕ) (scene : Scene)
      → Plays plan before earlier between → Answers between line here scene → lines ≡ line ∷ before → text ≡ earlier ++ here → Plays plan lines text scene
