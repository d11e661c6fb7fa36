-- How a node is seen as a standing.
use Rattle.std.specs.Prelude.{◌≡◌, ◌==◌, if◌then◌else◌, ℕ, List, Option, Some, None, [], Bool, true, false, Result, Err}
use Rattle.promise_store.specs.declared.disk.Disk.{Ghosts}
use Rattle.promise_store.specs.Keeping.{disk_of, Leaves}
use Rattle.acceptor.specs.Stored.{store_of}
use Rattle.node_rules.specs.Seats.{session_at}
use Rattle.node_rules.specs.Showing.{is_connected}
use Rattle.node_rules.specs.Standings.{Standing, stopped}
use Rattle.slot_log.specs.Hand.{Match}
use Rattle.slot_log.specs.Slots.{front}
use Rattle.slot_log.specs.declared.command.Command.{Command}
use Rattle.paxos_wire.specs.declared.ballot.Ballot.{Ballot}
use Rattle.dealer_node.specs.Nodes.{Node}
use Rattle.dealer_node.specs.declared.fault.NodeFault.{NodeFault}
use Rattle.dealer_node.specs.declared.fault.NodeFault.TheVariants as fault
use Rattle.dealer_node.specs.declared.up.Up.{Up}
use Rattle.dealer_node.specs.Members.{Membership, place_at}
use Rattle.dealer_node.specs.Scenes.{IsTableOf}
pub use Rattle.dealer_node.specs.Working.{head_of, IsUp}

module _ {D : Type 0} where
  abbrev pub member_in : Node D → Membership
  member_in node = node.member

  abbrev pub is_up : Option (Up D) → Bool
  is_up None = false
  is_up (Some up) = true

  abbrev pub runs : Node D → Bool
  runs node = is_up node.up

  -- the first slot whose command what runs doesn't know
  abbrev pub front_by : Option (Up D) → ℕ
  front_by None = 0
  front_by (Some up) = front up.running.learner.learned.log

  abbrev pub front_in : Node D → ℕ
  front_in node = front_by node.up

  -- the table of what runs, or the one that is shown while nothing does
  abbrev pub table_by : Option (Up D) → Match → Match
  table_by None blank = blank
  table_by (Some up) blank = up.running.table

  abbrev pub table_in : Node D → Match
  table_in node = table_by node.up node.blank

  -- whether the session of a seat is ready; none is of a node that is down
  abbrev pub ready_by : Option (Up D) → ℕ → Bool
  ready_by None seat = false
  ready_by (Some up) seat = is_connected (session_at up.running.seats.talks seat)

  abbrev pub ready_in : Node D → ℕ → Bool
  ready_in node = ready_by node.up

  -- the act that waits to be proposed
  abbrev pub pending_by : Option (Up D) → Option Command
  pending_by None = None
  pending_by (Some up) = up.running.pending

  abbrev pub pending_in : Node D → Option Command
  pending_in node = pending_by node.up

  -- the disk is its store's while the node runs
  abbrev pub disk_by : Option (Up D) → Option D → Option D
  disk_by None disk = disk
  disk_by (Some up) disk = Some (disk_of (store_of up.acceptor))

  abbrev pub disk_in : Node D → Option D
  disk_in node = disk_by node.up node.disk

  -- the node once it went down
  abbrev pub downed : Node D → Node D
  downed node = record node { disk = disk_in node; up = None }

  -- the node once a call of what runs was answered so: its store failed or another command was known, and it is down; or it runs on
  abbrev pub settled : Result (Unit {0}) NodeFault → Node D → Node D
  settled (Err (fault.Store why)) node = downed node
  settled (Err fault.Conflict) node = downed node
  settled other node = node

-- a ballot that was promised; none is of round 0
abbrev pub promised_ballot : Ballot → Option Ballot
promised_ballot ballot = if ballot.round == 0 then None else Some ballot

module _ {D : Type 0} (g : Ghosts D) where
  -- a node that is down knows nothing, and each image of its disk stands for one of two stores
  pub record IsDown (member : Membership) (disk : D) (s : Standing) : Type 0 where
    pub stopped : s ≡ stopped (place_at member) s.store s.begun
    pub leaves : Leaves g (head_of member) s.store s.begun disk

  -- by whether the node runs
  abbrev pub IsSeenBy : Membership → Option (Up D) → Option D → Standing → Type 0
  IsSeenBy member (Some up) disk s = IsUp g member up s
  IsSeenBy member None (Some disk) s = IsDown member disk s
  IsSeenBy member None None s = ⊥

  -- the node is seen as this standing
  pub record IsSeen (node : Node D) (s : Standing) : Type 0 where
    pub by : IsSeenBy (member_in node) node.up node.disk s
    -- what it shows while it is down
    pub blank : IsTableOf (member_in node).setting [] node.blank

  -- ---- what is said of the disk

  -- what a read gave when it was begun
  abbrev pub begun_by : Option D → List ℕ
  begun_by None = []
  begun_by (Some disk) = g.begun disk

  abbrev pub begun_of : Node D → List ℕ
  begun_of node = begun_by (disk_in node)

  -- what a read gives
  abbrev pub seen_by : Option D → List ℕ
  seen_by None = []
  seen_by (Some disk) = g.seen disk

  abbrev pub bytes_of : Node D → List ℕ
  bytes_of node = seen_by (disk_in node)

  -- what a stop leaves by its pick
  abbrev pub picked_by : Option D → ℕ → List ℕ
  picked_by None pick = []
  picked_by (Some disk) pick = g.picked disk pick

  abbrev pub picked_of : Node D → ℕ → List ℕ
  picked_of node = picked_by (disk_in node)

  -- how many of its calls have failed
  abbrev pub count_by : Option D → ℕ
  count_by None = 0
  count_by (Some disk) = g.count disk

  abbrev pub failures_of : Node D → ℕ
  failures_of node = count_by (disk_in node)

  -- what a crash may leave
  abbrev pub images_by : Option D → List ℕ → Type 0
  images_by None image = ⊥
  images_by (Some disk) image = g.images disk image

  abbrev pub images_of : Node D → List ℕ → Type 0
  images_of node = images_by (disk_in node)

  abbrev pub since_by : Option D → ℕ → List ℕ → Type 0
  since_by None t image = ⊥
  since_by (Some disk) t image = g.since disk t image

  abbrev pub since_of : Node D → ℕ → List ℕ → Type 0
  since_of node = since_by (disk_in node)

  abbrev pub moment_by : Option D → ℕ
  moment_by None = 0
  moment_by (Some disk) = g.moment disk

  abbrev pub moment_of : Node D → ℕ
  moment_of node = moment_by (disk_in node)
