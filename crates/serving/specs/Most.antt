-- How much a turn shows at most.
use Rattle.std.specs.Prelude.{ℕ, ◌≤◌, ◌<◌, List, length, slice_get, Option, Some, None}
use Rattle.dealer_node.specs.Nodes.{Node}
use Rattle.dealer_node.specs.declared.most_shown.MostShown.{MostShown}
use Rattle.dealer_world.specs.declared.event.Event.{Event}
use Rattle.dealer_world.specs.declared.event.Event.TheVariants as event
use Rattle.dealer_world.specs.Records.{Frame}
use Rattle.dealer_world.specs.Stepping.{View}
use Rattle.dealer_world.specs.Shows.{most_shown_at, most_shown_with}
use Rattle.serving.specs.declared.progress.Progress.{Progress}
use Rattle.serving.specs.declared.waiting.Waiting.{Waiting}

abbrev pub frame_by : ℕ → ℕ → List ℕ → Frame
frame_by from to bytes = record { from = from; to = to; bytes = bytes }

-- the frame that an event brings, if it brings one
abbrev pub frame_in : Event → Option Frame
frame_in (event.Frame from to bytes) = Some (frame_by from to bytes.items)
frame_in (event.Line node seat bytes) = None
frame_in (event.Tick node) = None
frame_in (event.Away node) = None
frame_in (event.Connect node seat) = None
frame_in (event.Drop node seat) = None
frame_in (event.Stop node pick) = None
frame_in (event.Start node) = None

-- the frame that a turn may bring to a node: that of the event that waits, where one does, else the next of those that were sent
abbrev pub frame_of_turn : {N : Type 0} → View N → Progress → Option Waiting → Option Frame
frame_of_turn view progress None = slice_get view.all.sent progress.delivered
frame_of_turn view progress (Some waiting) = frame_in waiting.event

module _ {D : Type 0} where
  -- no node of the first so many shows more by its next call, where that brings no frame
  pub record CoversFirst (count : ℕ) (view : View (Node D)) (most : MostShown) : Type 0 where
    pub pieces : (node : ℕ) → node < count → (most_shown_at view node).pieces ≤ most.pieces
    pub bytes : (node : ℕ) → node < count → (most_shown_at view node).bytes ≤ most.bytes

  -- no node of the match does
  abbrev pub CoversEach : View (Node D) → MostShown → Type 0
  CoversEach view most = CoversFirst (length view.config.sources) view most

  -- nor does this node by a frame of these bytes
  pub record CoversFrame (view : View (Node D)) (node : ℕ) (text : List ℕ) (most : MostShown) : Type 0 where
    pub pieces : (most_shown_with view node text).pieces ≤ most.pieces
    pub bytes : (most_shown_with view node text).bytes ≤ most.bytes

  abbrev pub CoversSome : View (Node D) → Option Frame → MostShown → Type 0
  CoversSome view None most = Unit {0}
  CoversSome view (Some frame) most = frame.to < length view.config.sources → CoversFrame view frame.to frame.bytes most

  -- no call that a turn makes shows more, whichever node's it is: neither one that brings no frame, nor that by the frame which the turn may bring
  abbrev pub CoversTurn : View (Node D) → Progress → Option Waiting → MostShown → Type 0
  CoversTurn view progress waiting most = CoversEach view most × CoversSome view (frame_of_turn view progress waiting) most
