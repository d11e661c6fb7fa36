-- How much a call shows at most, as the record has it.
use Rattle.std.specs.Prelude.{◌≡◌, ℕ, ◌+◌, ◌≤◌, List, [], ◌∷◌, ◌++◌, length, slice_get, Option, Some, None}
use Rattle.dealer_node.specs.Nodes.{Node}
use Rattle.dealer_node.specs.declared.most_shown.MostShown.{MostShown}
use Rattle.dealer_node.specs.Most.{most_after, most_shown_of, most_shown_by}
use Rattle.dealer_world.specs.declared.event.Event.{Event}
use Rattle.dealer_world.specs.declared.event.Event.TheVariants as event
use Rattle.dealer_world.specs.Events.{node_of}
use Rattle.dealer_world.specs.Records.{Record, Piece}
use Rattle.dealer_world.specs.Stepping.{View}

-- how many bytes these pieces have in all
abbrev pub text_total : List Piece → ℕ
text_total [] = 0
text_total (piece ∷ pieces) = length piece.text + text_total pieces

-- what was shown since the older record is no more than so many pieces, of no more than so many bytes in all
pub record GrowsWithin (most : MostShown) (old new : Record) : Type 0 where
  pub more : List Piece
  pub behind : new.shown ≡ old.shown ++ more
  pub pieces : length more ≤ most.pieces
  pub bytes : text_total more ≤ most.bytes

module _ {D : Type 0} where
  -- how much a node's call by this event shows at most: by a frame as much as what the frame brings lets it apply, else what any call without a frame does
  abbrev pub most_by : Event → Node D → MostShown
  most_by (event.Frame from to bytes) node = most_shown_by node bytes.items
  most_by (event.Line number seat bytes) node = most_shown_of node
  most_by (event.Tick number) node = most_shown_of node
  most_by (event.Away number) node = most_shown_of node
  most_by (event.Connect number seat) node = most_shown_of node
  most_by (event.Drop number seat) node = most_shown_of node
  most_by (event.Stop number pick) node = most_shown_of node
  most_by (event.Start number) node = most_shown_of node

  abbrev pub most_of : (Node D → MostShown) → Option (Node D) → MostShown
  most_of most None = most_after 0
  most_of most (Some node) = most node

  -- how much the next call of the node of this number shows at most, where it brings no frame
  abbrev pub most_shown_at : View (Node D) → ℕ → MostShown
  most_shown_at view number = most_of most_shown_of (slice_get view.nodes number)

  -- and where it brings a frame of these bytes
  abbrev pub most_shown_with : View (Node D) → ℕ → List ℕ → MostShown
  most_shown_with view number bytes = most_of (λ (node : Node D). most_shown_by node bytes) (slice_get view.nodes number)

  -- how much the call by this event shows at most
  abbrev pub most_shown_for : View (Node D) → Event → MostShown
  most_shown_for view e = most_of (most_by e) (slice_get view.nodes (node_of e))
