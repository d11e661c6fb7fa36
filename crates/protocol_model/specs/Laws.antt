-- What holds in every run.
use Rattle.std.specs.Prelude.{◌≡◌, ℕ, suc, ◌<◌, ◌≤◌, ◌⊎◌, true, false, Some, List, [], ◌∷◌, ◌++◌, length, Bool, None}
use Rattle.slot_log.specs.declared.command.Command.{Command}
use Rattle.protocol_model.specs.Sets.{In, IsBeginning}
use Rattle.protocol_model.specs.Quorums.{AreChosen}
use Rattle.protocol_model.specs.Stores.{Store, Append}
use Rattle.protocol_model.specs.Dealers.{Dealer, AllFit, text_of, HasLine}
use Rattle.protocol_model.specs.Nodes.{Node}
use Rattle.protocol_model.specs.Messages.{Message}
use Rattle.protocol_model.specs.Arrivals.{Arrival, Ordered, heard_in, started_below}
use Rattle.protocol_model.specs.Moves.{Shown}
use Rattle.protocol_model.specs.Worlds.{World, Run}

-- the text is what its reader is shown after a beginning of the commands
abbrev pub IsOfBeginning : Dealer → List Command → Shown → Type 0
IsOfBeginning dealer commands shown =
    (first : List Command) × IsBeginning first commands × (length first ≡ shown.count) × (text_of dealer first shown.reader ≡ Some shown.text)

-- what a node shows within one start never goes back; the newest is the first
abbrev pub NeverGoesBack : List Shown → Type 0
NeverGoesBack [] = Unit {0}
NeverGoesBack (latest ∷ before) =
    ((shown : Shown) → In shown before → shown.node ≡ latest.node → shown.start ≡ latest.start → shown.count ≤ latest.count)
    × NeverGoesBack before

-- there is one list of chosen commands, each of which fits after those before it, behind all that was ever shown: each text is what its reader is shown after
-- a beginning of it, and within one start of a node these beginnings never get shorter
pub record OneDealer (dealer : Dealer) (n : ℕ) (world : World) : Type 0 where
  pub commands : List Command
  pub chosen : AreChosen n world.ever commands
  pub fitting : AllFit dealer commands
  pub shown : (shown : Shown) → In shown world.shown → IsOfBeginning dealer commands shown
  pub forward : NeverGoesBack world.shown

-- a moment of a history: these messages had been sent and these arrivals had come, and the others were sent and came later
pub record IsMoment (ever : List Message) (came : List Arrival) (sent : List Message) (earlier : List Arrival) : Type 0 where
  pub sent_later : List Message
  pub all_sent : ever ≡ sent_later ++ sent
  pub came_later : List Arrival
  pub all_came : came ≡ came_later ++ earlier
  -- by what each arrival tells of how much had been sent
  pub no_sooner : (arrival : Arrival) → In arrival earlier → arrival.sent ≤ length sent
  pub no_later : (arrival : Arrival) → In arrival came_later → length sent ≤ arrival.sent

-- the command was said: at some moment the bytes that had come of a seat, since it connected to a node, held a whole line that says it, after commands that were chosen by then
pub record WasSaid (dealer : Dealer) (n : ℕ) (ever : List Message) (came : List Arrival) (command : Command) : Type 0 where
  pub sent : List Message
  pub earlier : List Arrival
  pub moment : IsMoment ever came sent earlier
  pub node : ℕ
  pub is_node : node < n
  pub seat : ℕ
  pub bytes : List ℕ
  pub connected : heard_in earlier node seat ≡ Some bytes
  pub line : List ℕ
  pub heard : HasLine bytes line
  pub before : List Command
  pub chosen : AreChosen n sent before
  pub says : dealer.says before seat line command ≡ true

-- some node owns it
abbrev pub IsOwned : Dealer → ℕ → Command → Type 0
IsOwned dealer n command = (node : ℕ) × (node < n) × (dealer.own node command ≡ true)

-- the command was ordered: at some moment the newest of all that had come was an order to a node, and after commands that were chosen by then such an order
-- means the command
pub record WasOrdered (dealer : Dealer) (n : ℕ) (ever : List Message) (came : List Arrival) (command : Command) : Type 0 where
  pub sent : List Message
  pub earlier : List Arrival
  pub moment : IsMoment ever came sent earlier
  pub node : ℕ
  pub is_node : node < n
  -- what the node knew then
  pub before : List Command
  pub older : List Arrival
  pub newest : earlier ≡ (record { event = Ordered node (length before); sent = length sent }) ∷ older
  pub chosen : AreChosen n sent before
  pub orders : dealer.orders before command ≡ true

-- where a command comes from: some node owns it, or it was said, or ordered
abbrev pub HasOrigin : Dealer → ℕ → List Message → List Arrival → Command → Type 0
HasOrigin dealer n ever came command = IsOwned dealer n command ⊎ (WasSaid dealer n ever came command ⊎ WasOrdered dealer n ever came command)

-- what a start finds of the node where its run ends here, at any moment, inside an append too
abbrev pub IsLeft : ℕ → Node → Store → Type 0
IsLeft i node store =
    ((node.up ≡ true) × Append i node.has node.store store)
    ⊎ ((node.up ≡ false) × ((store ≡ node.store) ⊎ (store ≡ node.begun)))

-- the node has just been started anew, once more than before, with this store
pub record IsStarted (old : Node) (found : Store) (new : Node) : Type 0 where
  pub store : new.store ≡ found
  pub begun : new.begun ≡ found
  pub up : new.up ≡ true
  pub starts : new.starts ≡ suc old.starts
  pub has : new.has ≡ []
  pub sent : new.sent ≡ []
  pub known : new.known ≡ []
  pub shown : new.shown ≡ 0
  pub heard : (seat : ℕ) → new.heard seat ≡ None

-- the run goes on with all nodes started anew, with these stores, and nothing came but their starts
pub record IsOpened (dealer : Dealer) (n : ℕ) (earlier : World) (stores : ℕ → Store) (opened : World) : Type 0 where
  pub run : Run dealer n earlier opened
  pub ever : opened.ever ≡ earlier.ever
  pub shown : opened.shown ≡ earlier.shown
  pub came : opened.came ≡ started_below n (length earlier.ever) ++ earlier.came
  pub nodes : (i : ℕ) → i < n → IsStarted (earlier.nodes i) (stores i) (opened.nodes i)

-- the same dealer, with other deals being a node's own
abbrev pub with_own : Dealer → (ℕ → Command → Bool) → Dealer
with_own dealer own = record dealer { own = own }

-- what was a node's own still is
abbrev pub OwnsMore : Dealer → (ℕ → Command → Bool) → Type 0
OwnsMore dealer own = (node : ℕ) (command : Command) → dealer.own node command ≡ true → own node command ≡ true
