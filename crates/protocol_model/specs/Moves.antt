-- What one node may do, seen from that node and from all that was ever sent.
use Rattle.std.specs.Prelude.{◌≡◌, ℕ, suc, ◌≤◌, ◌⊎◌, true, false, Some, List, [], ◌∷◌, ◌++◌, length, None}
use Rattle.std.specs.Option.{option_map}
use Rattle.paxos_wire.specs.declared.ballot.Ballot.{Ballot}
use Rattle.slot_log.specs.declared.command.Command.{Command}
use Rattle.protocol_model.specs.Sets.{In, put}
use Rattle.protocol_model.specs.Ballots.{Below, AtMost}
use Rattle.paxos_wire.specs.declared.entry.Entry.{Entry}
use Rattle.protocol_model.specs.Messages.{Message, Prepare, Promise, Refuse, Accept, Accepted, Chosen, Ask, Forward, Said}
use Rattle.protocol_model.specs.Quorums.{IsChosen, IsFree, IsGreatestTold}
use Rattle.protocol_model.specs.Stores.{Store, promised, voted, Tells, Append}
use Rattle.protocol_model.specs.Dealers.{Dealer, Reader, text_of, HasLine}
use Rattle.protocol_model.specs.Nodes.{Node, Knows}
use Rattle.protocol_model.specs.Arrivals.{Arrival, Event, Started, Connected, Dropped, Closed, Came, Ordered}

-- a text that a node showed: a line to a seat, or its log of this start as it then stood
pub record Shown : Type 0 where
  pub node : ℕ
  pub start : ℕ
  pub reader : Reader
  -- of how many commands it shows the effect
  pub count : ℕ
  pub text : List ℕ

-- what comes out of moves, newest first
pub record Output : Type 0 where
  pub sent : List Message
  pub shown : List Shown
  -- what came to the node from outside
  pub came : List Arrival

abbrev pub nothing : Output
nothing = record { sent = []; shown = []; came = [] }

abbrev pub sending : Message → Output
sending message = record { sent = message ∷ []; shown = []; came = [] }

-- the event comes when all this has been sent
abbrev pub taking : List Message → Event → Output
taking ever event = record { sent = []; shown = []; came = (record { event = event; sent = length ever }) ∷ [] }

-- the output of moves, after that of earlier ones
abbrev pub both : Output → Output → Output
both later earlier = record { sent = later.sent ++ earlier.sent; shown = later.shown ++ earlier.shown; came = later.came ++ earlier.came }

abbrev pub with_store : Node → Store → Node
with_store node store = record node { store = store; begun = store }

abbrev pub with_sent : Node → List Message → Node
with_sent node messages = record node { sent = messages ++ node.sent }

-- where a node may take a command of its own from: it owns it, it was said to it since its start, or passed on to it
abbrev pub IsAtHand : Dealer → ℕ → Node → Command → Type 0
IsAtHand dealer i node command =
    (dealer.own i command ≡ true)
    ⊎ (In (Said i command) node.sent ⊎ ((sender : ℕ) × In (Forward sender command) node.has))

-- the command fits after all that the node knows below the slot, which is the first that it doesn't know
abbrev pub FitsAtFront : Dealer → Node → ℕ → Command → Type 0
FitsAtFront dealer node slot command =
    (before : List Command) × Knows node.known before × (slot ≡ length before)
    × ((other : Command) → In (slot, other) node.known → ⊥) × (dealer.fits before command ≡ true)

-- what the node may propose at the slot in the ballot: the told command of the greatest ballot, or where none was told one of its own
abbrev pub MayPropose : Dealer → ℕ → ℕ → Node → Ballot → ℕ → Command → Type 0
MayPropose dealer n i node ballot slot command =
    IsGreatestTold n node.has ballot slot command
    ⊎ (IsFree n node.has ballot slot × IsAtHand dealer i node command × FitsAtFront dealer node slot command)

-- Node i of n may go from old to new, with this output, where `ever` is all that was ever sent.
pub data Move (dealer : Dealer) (n i : ℕ) (ever : List Message) (old : Node) (out : Output) (new : Node) : Type 0 where
  -- it gets a message that was sent, by whichever frame, early or late, once or again
  gets : (message : Message) → old.up ≡ true → In message ever
      → out ≡ nothing → new ≡ record old { has = message ∷ old.has } → Move dealer n i ever old out new
  -- a seat connects, again too: what it said before is forgotten
  connects : (seat : ℕ) → old.up ≡ true
      → out ≡ taking ever (Connected i seat) → new ≡ record old { heard = put old.heard seat (Some []) } → Move dealer n i ever old out new
  -- a seat is dropped
  drops : (seat : ℕ) → old.up ≡ true
      → out ≡ taking ever (Dropped i seat) → new ≡ record old { heard = put old.heard seat None } → Move dealer n i ever old out new
  -- it closes the connection of a seat itself
  closes : (seat : ℕ) → old.up ≡ true
      → out ≡ taking ever (Closed i seat) → new ≡ record old { heard = put old.heard seat None } → Move dealer n i ever old out new
  -- bytes of a seat come; those of a seat that isn't connected are passed over
  hears : (seat : ℕ) (bytes : List ℕ) → old.up ≡ true
      → out ≡ taking ever (Came i seat bytes)
      → new ≡ record old { heard = put old.heard seat (option_map (λ before. before ++ bytes) (old.heard seat)) } → Move dealer n i ever old out new
  -- it notes a command that a seat said in answer to its line after commands that the node knows
  notes : (seat : ℕ) (bytes : List ℕ) (before : List Command) (line : List ℕ) (command : Command) → old.up ≡ true → old.heard seat ≡ Some bytes
      → Knows old.known before → HasLine bytes line → dealer.says before seat line command ≡ true
      → out ≡ sending (Said i command) → new ≡ with_sent old (Said i command ∷ []) → Move dealer n i ever old out new
  -- it is ordered that the player to act is played for, and the node notes the command that this means after all that it knows below the first slot that it
  -- doesn't know
  ordered : (before : List Command) (command : Command) → old.up ≡ true
      → Knows old.known before → ((other : Command) → In (length before, other) old.known → ⊥) → dealer.orders before command ≡ true
      → out ≡ record { sent = Said i command ∷ []; shown = []; came = (record { event = Ordered i (length before); sent = length ever }) ∷ [] }
      → new ≡ with_sent old (Said i command ∷ []) → Move dealer n i ever old out new
  -- it begins a ballot of its own above its promise, and promises it first itself
  begins : (ballot : Ballot) (slot : ℕ) (told : List Entry) → old.up ≡ true
      → ballot.node ≡ i → Below old.store.promise ballot → Tells old.store slot told
      → out ≡ record { sent = Promise i ballot slot told ∷ Prepare ballot slot ∷ []; shown = []; came = [] }
      → new ≡ with_sent (with_store old (promised old.store ballot)) (Promise i ballot slot told ∷ Prepare ballot slot ∷ [])
      → Move dealer n i ever old out new
  -- it promises a ballot above its promise, telling what it accepted in the 64 slots
  promises : (ballot : Ballot) (slot : ℕ) (told : List Entry) → old.up ≡ true
      → In (Prepare ballot slot) old.has → Below old.store.promise ballot → Tells old.store slot told
      → out ≡ sending (Promise i ballot slot told)
      → new ≡ with_sent (with_store old (promised old.store ballot)) (Promise i ballot slot told ∷ []) → Move dealer n i ever old out new
  -- in a ballot that it began since its start it proposes at a slot where it proposed nothing in that ballot since its start
  proposes : (ballot : Ballot) (first slot : ℕ) (command : Command) → old.up ≡ true
      → In (Prepare ballot first) old.sent → ((other : Command) → In (Accept ballot slot other) old.sent → ⊥)
      → ballot.node ≡ i → MayPropose dealer n i old ballot slot command
      → out ≡ sending (Accept ballot slot command) → new ≡ with_sent old (Accept ballot slot command ∷ []) → Move dealer n i ever old out new
  -- it accepts a proposal, unless it promised a greater ballot
  accepts : (ballot : Ballot) (slot : ℕ) (command : Command) → old.up ≡ true
      → In (Accept ballot slot command) old.has → AtMost old.store.promise ballot
      → out ≡ sending (Accepted i ballot slot command)
      → new ≡ with_sent (with_store old (voted old.store slot (record { ballot = ballot; command = command }))) (Accepted i ballot slot command ∷ [])
      → Move dealer n i ever old out new
  -- it says again that it accepted what is stored, unless it promised a greater ballot since
  repeats : (ballot : Ballot) (slot : ℕ) (command : Command) → old.up ≡ true
      → old.store.votes slot ≡ Some (record { ballot = ballot; command = command }) → AtMost old.store.promise ballot
      → out ≡ sending (Accepted i ballot slot command) → new ≡ with_sent old (Accepted i ballot slot command ∷ []) → Move dealer n i ever old out new
  -- it refuses a ballot
  refuses : (ballot : Ballot) (slot : ℕ) (greater : Ballot) → old.up ≡ true
      → out ≡ sending (Refuse i ballot slot greater) → new ≡ with_sent old (Refuse i ballot slot greater ∷ []) → Move dealer n i ever old out new
  -- it learns what a quorum says that it accepted
  learns : (slot : ℕ) (command : Command) → old.up ≡ true → IsChosen n old.has slot command
      → out ≡ nothing → new ≡ record old { known = (slot, command) ∷ old.known } → Move dealer n i ever old out new
  -- it learns what another node tells as chosen
  believes : (sender slot : ℕ) (command : Command) → old.up ≡ true → In (Chosen sender slot command) old.has
      → out ≡ nothing → new ≡ record old { known = (slot, command) ∷ old.known } → Move dealer n i ever old out new
  -- it tells what it knows as chosen
  tells : (slot : ℕ) (command : Command) → old.up ≡ true → In (slot, command) old.known
      → out ≡ sending (Chosen i slot command) → new ≡ with_sent old (Chosen i slot command ∷ []) → Move dealer n i ever old out new
  -- it asks for what was chosen
  asks : (slot : ℕ) → old.up ≡ true
      → out ≡ sending (Ask i slot) → new ≡ with_sent old (Ask i slot ∷ []) → Move dealer n i ever old out new
  -- it passes on a command that was said to it since its start
  forwards : (command : Command) → old.up ≡ true → In (Said i command) old.sent
      → out ≡ sending (Forward i command) → new ≡ with_sent old (Forward i command ∷ []) → Move dealer n i ever old out new
  -- it shows the effect of the first commands that it knows, of no fewer than it showed last
  shows : (commands : List Command) (reader : Reader) (text : List ℕ) → old.up ≡ true
      → Knows old.known commands → old.shown ≤ length commands → text_of dealer commands reader ≡ Some text
      → out ≡ record { sent = []; shown = record { node = i; start = old.starts; reader = reader; count = length commands; text = text } ∷ []; came = [] }
      → new ≡ record old { shown = length commands } → Move dealer n i ever old out new
  -- it stops, perhaps in the middle of an append
  stops : (begun : Store) → old.up ≡ true → Append i old.has old.store begun
      → out ≡ nothing → new ≡ record old { begun = begun; up = false } → Move dealer n i ever old out new
  -- it starts with its store alone, in which the append that was begun is made or isn't
  starts : (store : Store) → old.up ≡ false → (store ≡ old.store) ⊎ (store ≡ old.begun)
      → out ≡ taking ever (Started i)
      → new ≡ record {
        store = store;
        begun = store;
        up = true;
        starts = suc old.starts;
        has = [];
        sent = [];
        known = [];
        shown = 0;
        heard = λ seat. None;
      }
      → Move dealer n i ever old out new

-- moves of one node, one after another
pub data Chain (dealer : Dealer) (n i : ℕ) (ever : List Message) (old : Node) : Output → Node → Type 0 where
  none : (out : Output) (new : Node) → out ≡ nothing → new ≡ old → Chain dealer n i ever old out new
  more : (earlier : Output) (between : Node) (later out : Output) (new : Node)
      → Chain dealer n i ever old earlier between → Move dealer n i (earlier.sent ++ ever) between later new
      → out ≡ both later earlier → Chain dealer n i ever old out new
