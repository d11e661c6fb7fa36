-- How the nodes of a cluster begin.
use Rattle.std.specs.Prelude.{◌≡◌, ◌≢◌, ℕ, zero, suc, ◌⊎◌, ◌<◌, ◌≤◌, false, List, [], ◌∷◌, ◌++◌, map, length, IsTrue, Ok}
use Rattle.std.proofs.Common.{get_or}
use Rattle.promise_store.specs.declared.disk.Disk.{Ghosts}
use Rattle.promise_store.specs.declared.fault.StoreFault.{StoreFault}
use Rattle.promise_store.specs.declared.fault.StoreFault.TheVariants.{Disk, NoStore, BadHeader, BadRecord}
use Rattle.promise_store.specs.Disks.{Only, Within, During}
use Rattle.promise_store.specs.Refusals.{Refuses}
use Rattle.promise_store.specs.Journals.{header}
use Rattle.promise_store.specs.Holding.{StandsFor}
use Rattle.protocol_model.specs.Stores.{Store, empty_store}
use Rattle.protocol_model.specs.Dealers.{Log}
use Rattle.match_log.specs.Lines.{header_line}
use Rattle.dealer_kind.specs.Kind.{Setting}
use Rattle.dealer_kind.specs.Plans.{Plan}
use Rattle.node_rules.specs.Standings.{place_of, stopped, started}
use Rattle.node_rules.specs.Rules.{asking_all}
use Rattle.dealer_node.specs.Nodes.{Node}
use Rattle.dealer_node.specs.declared.fault.NodeFault.{NodeFault}
use Rattle.dealer_node.specs.declared.fault.NodeFault.TheVariants as fault
use Rattle.dealer_node.specs.Outs.{nothing_told}
use Rattle.dealer_node.specs.Turned.{framed}
use Rattle.dealer_node.specs.Members.{place_at}
use Rattle.dealer_node.specs.Starting.{GoesOnNew, MarksJournal}
use Rattle.dealer_node.specs.Seeing.{head_of, member_in, runs, IsSeen, begun_of, bytes_of, failures_of, images_of, since_of, moment_of}
use Rattle.dealer_world.specs.declared.event.Event.TheVariants as event
use Rattle.dealer_world.specs.Records.{Record, Frame, Start, Piece}
use Rattle.dealer_world.specs.Recordings.{frame_by}
use Rattle.dealer_world.specs.Stepping.{View, Stepped}

-- memory or a disk failed
abbrev pub IsWant : NodeFault → Type 0
IsWant why = (why ≡ fault.OutOfMemory) ⊎ (why ≡ fault.Store Disk)

module _ {D : Type 0} (g : Ghosts D) where
  -- node i of a new match, down, over an empty store
  pub record IsCreatedAt (plan : Plan) (i : ℕ) (node : Node D) : Type 0 where
    pub placed : place_at (member_in node) ≡ place_of plan i
    pub down : runs node ≡ false
    pub seen : IsSeen g node (stopped (place_of plan i) empty_store empty_store)

  -- node i of a match, down, over the store that its disk has
  pub record IsReopenedAt (plan : Plan) (i : ℕ) (node : Node D) : Type 0 where
    pub placed : place_at (member_in node) ≡ place_of plan i
    pub down : runs node ≡ false
    pub seen : (store begun : Store) → StandsFor (header i (length plan.sources)) (begun_of g node) store ⊎ StandsFor (header i (length plan.sources)) (begun_of g node) begun
        → IsSeen g node (stopped (place_of plan i) store begun)

  -- each file is an image of its node's disk now
  pub record AreImages (nodes : List (Node D)) (files : List (List ℕ)) : Type 0 where
    pub count : length files ≡ length nodes
    pub each : (i : ℕ) (d : Node D) → i < length nodes → images_of g (get_or nodes i d) (get_or files i [])

module _ {D : Type 0} (g : Ghosts D) where
  -- each file is an image of its node's disk now, but that of node i, which a call made new: its file is an image at a moment since the call began
  pub record AreImagesDuring (i : ℕ) (old new : Node D) (nodes : List (Node D)) (files : List (List ℕ)) : Type 0 where
    pub count : length files ≡ length nodes
    pub others : (j : ℕ) (d : Node D) → j < length nodes → j ≢ i → images_of g (get_or nodes j d) (get_or files j [])
    pub own : since_of g new (moment_of g old) (get_or files i [])

-- ---- the disks, when a cluster is opened

module _ {D : Type 0} (g : Ghosts D) where
  -- the node's disk is the one that was given, synced and begun anew, and it was only read or synced since
  pub record IsOver (given : D) (node : Node D) : Type 0 where
    pub bytes : bytes_of g node ≡ g.seen given
    pub begun : begun_of g node ≡ g.seen given
    pub counts : g.count given ≤ failures_of g node
    pub settled : Only (g.seen given) (images_of g node)
    pub images : Within (g.images given) (images_of g node)
    pub during : During (g.since given) (since_of g node) (g.images given)

  -- the node's disk was only read or synced meanwhile
  pub record IsOnlyRead (old new : Node D) : Type 0 where
    pub member : member_in new ≡ member_in old
    pub bytes : bytes_of g new ≡ bytes_of g old
    pub begun : begun_of g new ≡ begun_of g old
    pub counts : failures_of g old ≤ failures_of g new
    pub images : Within (images_of g old) (images_of g new)
    pub during : During (since_of g old) (since_of g new) (images_of g old)

  -- each image of the node's disk stands for the one store or for the other
  abbrev pub LeavesIn : List ℕ → Store → Store → Node D → Type 0
  LeavesIn head store begun node = Within (λ image. StandsFor head image store ⊎ StandsFor head image begun) (images_of g node)

  -- the node's disk was opened meanwhile: at each moment each image stands for what it stood for, and a journal that goes on with version 2 was only read
  pub record IsOpenedSince (old new : Node D) : Type 0 where
    pub member : member_in new ≡ member_in old
    pub begun : begun_of g new ≡ begun_of g old
    pub counts : failures_of g old ≤ failures_of g new
    pub leaves : (store begun : Store) → IsTrue g.is_honest → LeavesIn (head_of (member_in old)) store begun old → LeavesIn (head_of (member_in old)) store begun new
    pub during : (store begun : Store) → IsTrue g.is_honest → LeavesIn (head_of (member_in old)) store begun old
        → During (since_of g old) (since_of g new) (λ image. StandsFor (head_of (member_in old)) image store ⊎ StandsFor (head_of (member_in old)) image begun)
    pub quiet : IsTrue g.is_honest → GoesOnNew (head_of (member_in old)) (bytes_of g old) → IsOnlyRead old new

  -- the journals of the first nodes are as they were, or have the record behind them that opens them for version 2
  abbrev pub MarkFirst : List (Node D) → ℕ → List (Node D) → Type 0
  MarkFirst first k nodes =
      (i : ℕ) (d : Node D) → i < k → MarksJournal (head_of (member_in (get_or first i d))) (bytes_of g (get_or first i d)) (bytes_of g (get_or nodes i d))

  -- the node's disk is the one that was given, begun anew and opened since, under the head of its journal: what it left meanwhile that one left, or it stands for
  -- the store that a read of that one gave
  pub record IsOpenedOver (head : List ℕ) (given : D) (node : Node D) : Type 0 where
    pub begun : begun_of g node ≡ g.seen given
    pub counts : g.count given ≤ failures_of g node
    pub during : (store : Store) → IsTrue g.is_honest → StandsFor head (g.seen given) store → During (g.since given) (since_of g node) (λ image. g.images given image ⊎ StandsFor head image store)
    pub marks : IsTrue g.is_honest → MarksJournal head (g.seen given) (bytes_of g node)
    pub quiet : IsTrue g.is_honest → GoesOnNew head (g.seen given) → IsOver given node

  -- the disk of each of n nodes is
  pub record AreOpenedOver (n : ℕ) (given : List D) (nodes : List (Node D)) : Type 0 where
    pub count : length given ≡ length nodes
    pub each : (i : ℕ) (d : Node D) (e : D) → i < length nodes → IsOpenedOver (header i n) (get_or given i e) (get_or nodes i d)

  -- each file may be found on its node's disk, at a moment since that disk was the given one
  pub record MayBeFound (given : List D) (nodes : List (Node D)) (files : List (List ℕ)) : Type 0 where
    pub count : length files ≡ length nodes
    pub each : (i : ℕ) (d : Node D) (e : D) → i < length nodes → since_of g (get_or nodes i d) (g.moment (get_or given i e)) (get_or files i [])

  -- each file is an image of its disk
  pub record AreImagesOf (disks : List D) (files : List (List ℕ)) : Type 0 where
    pub count : length files ≡ length disks
    pub each : (i : ℕ) (e : D) → i < length disks → g.images (get_or disks i e) (get_or files i [])

  -- each file is an image of its disk, or stands for this store of its node, of n
  pub record KeepStores (n : ℕ) (stores : ℕ → Store) (disks : List D) (files : List (List ℕ)) : Type 0 where
    pub count : length files ≡ length disks
    pub each : (i : ℕ) (e : D) → i < length disks → g.images (get_or disks i e) (get_or files i []) ⊎ StandsFor (header i n) (get_or files i []) (stores i)

  -- a crash leaves of each disk what a read of it gives, and nothing else
  abbrev pub AreAtRest : List D → Type 0
  AreAtRest disks = (i : ℕ) (e : D) → i < length disks → Only (g.seen (get_or disks i e)) (g.images (get_or disks i e))

  -- each image of a disk is one of its node's disk, as where the disk was handed on since
  pub record LeaveNoMore (disks : List D) (nodes : List (Node D)) : Type 0 where
    pub count : length disks ≡ length nodes
    pub each : (i : ℕ) (d : Node D) (e : D) → i < length nodes → Within (images_of g (get_or nodes i d)) (g.images (get_or disks i e))

  -- the node's disk has a store of it
  abbrev pub HasStore : Node D → Type 0
  HasStore node = (store : Store) × StandsFor (head_of (member_in node)) (bytes_of g node) store

-- 60 to 62: what only a file's bytes are refused for
abbrev pub IsOfBytes : StoreFault → Type 0
IsOfBytes NoStore = Unit {0}
IsOfBytes BadHeader = Unit {0}
IsOfBytes BadRecord = Unit {0}
IsOfBytes other = ⊥

module _ {D : Type 0} (g : Ghosts D) where
  -- a node's disk is refused for its bytes, and those of all nodes before it have stores
  pub record IsFirstRefused (nodes : List (Node D)) (f : StoreFault) : Type 0 where
    pub kind : IsOfBytes f
    pub node : ℕ
    pub within : node < length nodes
    pub refused : (d : Node D) → Refuses (head_of (member_in (get_or nodes node d))) (bytes_of g (get_or nodes node d)) f
    pub before : (i : ℕ) (d : Node D) → i < node → HasStore g (get_or nodes i d)

-- the file of a node of n is refused for its bytes, and those of all nodes before it stand for stores
pub record IsFirstNoStore (n : ℕ) (files : List (List ℕ)) (f : StoreFault) : Type 0 where
  pub kind : IsOfBytes f
  pub node : ℕ
  pub within : node < n
  pub refused : Refuses (header node n) (get_or files node []) f
  pub before : (i : ℕ) → i < node → (store : Store) × StandsFor (header i n) (get_or files i []) store

-- why a cluster isn't opened over these files: memory or a disk failed, or one of the files is the first that is no store
abbrev pub IsUnopened : ℕ → List (List ℕ) → NodeFault → Type 0
IsUnopened n files why = IsWant why ⊎ ((f : StoreFault) × (why ≡ fault.Store f) × IsFirstNoStore n files f)

-- each file, that of node i of n, stands for this store of the node
abbrev pub HaveStores : ℕ → List (List ℕ) → (ℕ → Store) → Type 0
HaveStores n files stores = (i : ℕ) → i < length files → StandsFor (header i n) (get_or files i []) (stores i)

-- each is a journal that goes on with version 2: none is of version 1
abbrev pub GoOnNew : ℕ → List (List ℕ) → Type 0
GoOnNew n files = (i : ℕ) → i < length files → GoesOnNew (header i n) (get_or files i [])

-- each of these, by their numbers, is so
abbrev pub AreEach : {N : Type 0} → (ℕ → N → Type 0) → List N → Type 0
AreEach {N} IsSo nodes = (i : ℕ) (d : N) → i < length nodes → IsSo i (get_or nodes i d)

-- ---- once all are started

-- one start of each of the first nodes, in order
abbrev pub first_starts : ℕ → List Start
first_starts zero = []
first_starts (suc k) = first_starts k ++ (record { node = k; start = 0 }) ∷ []

-- the header of each one's log
abbrev pub first_headers : Setting → ℕ → List Piece
first_headers setting zero = []
first_headers setting (suc k) =
    first_headers setting k ++ (record { node = k; start = 0; reader = Log; text = header_line setting.title.name setting.title.game setting.title.hands }) ∷ []

-- what each asked the others that had promised anything
abbrev pub first_asks : Plan → (ℕ → Store) → ℕ → List Frame
first_asks plan stores zero = []
first_asks plan stores (suc k) = first_asks plan stores k ++ map (frame_by k) (map framed (asking_all (place_of plan k) (stores k)))

-- the record of a cluster whose first nodes were started, with these stores
abbrev pub first_record : Plan → (ℕ → Store) → ℕ → Record
first_record plan stores k = record { sent = first_asks plan stores k; delivered = []; starts = first_starts k; shown = first_headers plan.setting k }

module _ {D : Type 0} (g : Ghosts D) where
  -- all nodes have just been started, each with its store, and nothing else is in the record
  pub record AreStarted (stores : ℕ → Store) (view : View (Node D)) : Type 0 where
    pub all : view.all ≡ first_record view.config stores (length view.config.sources)
    pub seen : AreEach (λ i node. IsSeen g node (started (place_of view.config i) (stores i))) view.nodes

  -- the first nodes were started, one after another, and each start went well
  pub data Starts (first : View (Node D)) : ℕ → View (Node D) → Type 0 where
    none : (count : ℕ) (last : View (Node D)) → count ≡ 0 → last ≡ first → Starts first count last
    more : (k count : ℕ) (between last : View (Node D)) → Starts first k between → Stepped g between (event.Start k) (Ok tt) last → count ≡ suc k → Starts first count last

  -- all nodes were, and what the last of these calls made is no longer the last
  pub record StartsAll (first last : View (Node D)) : Type 0 where
    pub between : View (Node D)
    pub starts : Starts first (length first.config.sources) between
    pub forgets : last ≡ record between { last = nothing_told }
