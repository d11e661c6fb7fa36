-- The world behind a cluster and all its eras.
use Rattle.std.specs.Prelude.{◌≡◌, ℕ, suc, ◌+◌, ◌<◌, ◌≤◌, ◌⊎◌, true, Some, List, [], ◌∷◌, ◌++◌, length, take, reverse}
use Rattle.paxos_wire.specs.declared.ballot.Ballot.{Ballot}
use Rattle.slot_log.specs.declared.command.Command.{Command}
use Rattle.protocol_model.specs.Sets.{In, IsBeginning}
use Rattle.protocol_model.specs.Messages.{Message, Accept, Accepted}
use Rattle.protocol_model.specs.Arrivals as model
use Rattle.protocol_model.specs.Nodes.{Node as WorldNode}
use Rattle.protocol_model.specs.Dealers.{Dealer, Log}
use Rattle.protocol_model.specs.Moves.{Shown}
use Rattle.protocol_model.specs.Worlds.{World, Reached}
use Rattle.protocol_model.specs.Quorums.{AreChosen}
use Rattle.dealer_world.specs.Calls.{IsOwn}
use Rattle.dealer_world.specs.Records.{Record, Frame, Piece, Arrival, Ordered, Start, log_of, last_start, start_count, said}
use Rattle.dealer_world.specs.Hearing.{heard_by, WasHeard}
use Rattle.dealer_world.specs.Headline.{Era, said_in, text_by, InSome}

-- a text of the world is this piece's, whose starts are counted from the node's base
pub record IsPiece (base : ℕ → ℕ) (before : List Piece) (piece : Piece) (shown : Shown) : Type 0 where
  pub node : shown.node ≡ piece.node
  pub start : shown.start ≡ base piece.node + piece.start
  pub reader : shown.reader ≡ piece.reader
  pub whole : shown.text ≡ text_by piece.reader before piece

-- both newest first
abbrev pub ArePieces : (ℕ → ℕ) → List Shown → List Piece → Type 0
ArePieces base [] [] = Unit {0}
ArePieces base [] (piece ∷ before) = ⊥
ArePieces base (shown ∷ more) [] = ⊥
ArePieces base (shown ∷ more) (piece ∷ before) = IsPiece base before piece shown × ArePieces base more before

-- each start began a log: something was added to it
abbrev pub HaveHeaders : Record → Type 0
HaveHeaders all = (begun : Start) → In begun all.starts
    → (piece : Piece) × In piece all.shown × (piece.reader ≡ Log) × (piece.node ≡ begun.node) × (piece.start ≡ begun.start)

-- the last part of what the world showed is what the newest era shows, and the rest is what those before it show
pub data AreEras : List Shown → List Era → Type 0 where
  no_era : (shown : List Shown) (eras : List Era) → shown ≡ [] → eras ≡ [] → AreEras shown eras
  one_more : (base : ℕ → ℕ) (latest older shown : List Shown) (era : Era) (before eras : List Era)
      → shown ≡ latest ++ older → eras ≡ era ∷ before
      → ArePieces base latest (reverse era.record_of.shown) → HaveHeaders era.record_of → AreEras older before → AreEras shown eras

-- what seats had sent at any time of the world is in the records
abbrev pub AreHeard : List model.Arrival → List Arrival → List Era → Type 0
AreHeard came now before = (earlier : List model.Arrival) (node seat : ℕ) (bytes : List ℕ) → IsBeginning earlier came
    → model.heard_in earlier node seat ≡ Some bytes
    → WasHeard now node seat bytes ⊎ InSome (λ era. WasHeard era.record_of.delivered node seat bytes) before

-- what a seat has sent to a node that is up is what the record says
abbrev pub IsHeardNow : ℕ → World → List Arrival → Type 0
IsHeardNow n world delivered = (i seat : ℕ) (bytes : List ℕ) → i < n → (world.nodes i).up ≡ true
    → model.heard_in world.came i seat ≡ Some bytes → heard_by delivered i seat ≡ Some bytes

-- the order is in this record, behind those of the eras before it; and there are commands, as many as lay below the front that it met, which were chosen by
-- what the frames said that had been sent before it came
pub record IsOrderIn (n : ℕ) (now : Record) (before : List Era) (node front : ℕ) : Type 0 where
  pub arrival : Arrival
  pub came : In arrival now.delivered
  pub order : arrival.what ≡ Ordered node front
  pub known : List Command
  pub all_below : length known ≡ front
  pub chosen : AreChosen n (said_in before ++ said (take arrival.sent_before now.sent)) known

-- in one of these eras
abbrev pub IsOrderOf : ℕ → List Era → ℕ → ℕ → Type 0
IsOrderOf n [] node front = ⊥
IsOrderOf n (era ∷ before) node front = IsOrderIn n era.record_of before node front ⊎ IsOrderOf n before node front

-- the world was given this order, when so many messages had been sent
abbrev pub CameAs : List model.Arrival → ℕ → ℕ → ℕ → Type 0
CameAs came node front sent = In (let arrival : model.Arrival = record { event = model.Ordered node front; sent = sent } in arrival) came

-- each order of the world is in the records
abbrev pub AreOrdered : ℕ → List model.Arrival → Record → List Era → Type 0
AreOrdered n came now before = (node front sent : ℕ) → CameAs came node front sent → IsOrderIn n now before node front ⊎ IsOrderOf n before node front

-- what is shown belongs to a start that was begun
abbrev pub AreBegun : Record → Type 0
AreBegun now = (piece : Piece) → In piece now.shown → piece.start < start_count now.starts piece.node

-- each node, counted from this number on, is so
abbrev pub EachNode : {Node : Type 0} → (ℕ → Node → Type 0) → ℕ → List Node → Type 0
EachNode IsSo i [] = Unit {0}
EachNode IsSo i (node ∷ nodes) = IsSo i node × EachNode IsSo (i + 1) nodes

-- the nodes are those of the world, each with the log of its last start
abbrev pub AreOf : {Node : Type 0} → (ℕ → Node → WorldNode → List ℕ → Type 0) → (ℕ → WorldNode) → Record → List Node → Type 0
AreOf IsOf there now nodes = EachNode (λ i node. IsOf i node (there i) (log_of now.shown i (last_start now.starts i))) 0 nodes

-- all that was said, in all eras up to now
abbrev pub said_until : List Era → Record → List Message
said_until before now = said_in before ++ said now.sent

-- a reached world, whose nodes these are, in which all was sent that the frames say, and nothing accepted but what they say, and which showed what the
-- records show
pub record Behind {Node : Type 0} (IsOf : ℕ → Node → WorldNode → List ℕ → Type 0) (dealer : Dealer) (nodes : List Node) (now : Record) (before : List Era) : Type 0 where
  pub world : World
  pub reached : Reached dealer (length nodes) world
  pub are_of : AreOf IsOf world.nodes now nodes
  pub carried : (message : Message) → In message (said_until before now) → In message world.ever
  pub accepted : (sender : ℕ) (ballot : Ballot) (slot : ℕ) (command : Command)
      → In (Accepted sender ballot slot command) world.ever → In (Accepted sender ballot slot command) (said_until before now)
  pub accepts : (ballot : Ballot) (slot : ℕ) (command : Command)
      → In (Accept ballot slot command) (said now.sent) → In (Accepted ballot.node ballot slot command) (said now.sent)
  pub own : (frame : Frame) → In frame now.sent → IsOwn (length nodes) frame
  -- what the newest era shows, its starts counted from the base, and what was shown before it
  pub base : ℕ → ℕ
  pub latest : List Shown
  pub older : List Shown
  pub shown : world.shown ≡ latest ++ older
  pub pieces : ArePieces base latest (reverse now.shown)
  pub eras : AreEras older before
  pub starts : (i : ℕ) → i < length nodes → suc (world.nodes i).starts ≡ base i + start_count now.starts i
  pub started : (i : ℕ) → i < length nodes → (world.nodes i).up ≡ true → 1 ≤ start_count now.starts i
  pub begun : AreBegun now
  pub headers : HaveHeaders now
  pub heard : AreHeard world.came now.delivered before
  pub heard_now : IsHeardNow (length nodes) world now.delivered
  pub ordered : AreOrdered (length nodes) world.came now before
