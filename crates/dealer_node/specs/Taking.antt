-- What a call makes of a node, however it ends.
use Rattle.std.specs.Prelude.{◌≡◌, ◌≢◌, ◌⊎◌, ℕ, ◌≤◌, Bool, true, false, List, [], map, Some, IsTrue, Result, Ok, Err, IsErr, IfErr, OnOk}
use Rattle.promise_store.specs.declared.disk.Disk.{Ghosts}
use Rattle.promise_store.specs.declared.fault.StoreFault.{StoreFault}
use Rattle.promise_store.specs.declared.fault.StoreFault.TheVariants.{Disk, OutOfMemory}
use Rattle.promise_store.specs.Disks.{During, Rose, Picks}
use Rattle.promise_store.specs.Holding.{StandsFor}
use Rattle.promise_store.specs.Settled.{OnlyReads}
use Rattle.promise_store.specs.Keeping.{Reopens}
use Rattle.acceptor.specs.Taken.{IsFault}
use Rattle.paxos_wire.specs.Spelling.{frame}
use Rattle.paxos_wire.specs.Faults.{reading}
use Rattle.protocol_model.specs.Sets.{In}
use Rattle.protocol_model.specs.Stores.{Store}
use Rattle.node_rules.specs.Standings.{Place, Standing, started}
use Rattle.node_rules.specs.Sending.{Frame}
use Rattle.node_rules.specs.Showing.{Piece, SeatFault}
use Rattle.node_rules.specs.Turns.{Turn, Refusal, Down, Spent, BadFrame, Conflict, NothingToAct}
use Rattle.node_rules.specs.Calls.{Call, Start, Tick, Away, Line, Connect, Drop, Stop}
use Rattle.node_rules.specs.Calls as call
use Rattle.node_rules.specs.Rules.{IsTurn, standing_after}
use Rattle.node_rules.specs.Called.{Ends, took, refused, failed, unchanged}
use Rattle.dealer_node.specs.Nodes.{Node}
use Rattle.dealer_node.specs.declared.fault.NodeFault.{NodeFault}
use Rattle.dealer_node.specs.declared.fault.NodeFault.TheVariants as fault
use Rattle.dealer_node.specs.Outs.{Told, both_told}
use Rattle.dealer_node.specs.Members.{place_at}
use Rattle.dealer_node.specs.Turned.{framed, printed, fault_of}
use Rattle.dealer_node.specs.Working.{IsDone, AreStill}
use Rattle.dealer_node.specs.Handling.{HasNoEffect}
use Rattle.dealer_node.specs.Starting.{GoesOnNew, MarksJournal}
use Rattle.dealer_node.specs.Seeing.{head_of, member_in, runs, disk_in, IsSeen, begun_of, bytes_of, picked_of, failures_of, since_of}

-- ---- what it answers

-- the fault of a refusal
abbrev pub refusal_fault : Refusal → NodeFault
refusal_fault Down = fault.Down
refusal_fault Spent = fault.Spent
refusal_fault (BadFrame why) = fault.BadFrame why
refusal_fault (Conflict store) = fault.Conflict
refusal_fault NothingToAct = fault.NothingToAct

-- only a start of a node that is down may find a failed disk and change nothing
abbrev pub IsStart : Bool → Call → Type 0
IsStart false (Start found) = Unit {0}
IsStart up other = ⊥

-- a call that ended so answered this, and told these faults of seats
abbrev pub Answered : (place : Place) (s : Standing) (called : Call) (after : Standing) (frames : List Frame) (shown : List Piece)
    → Ends place s called after frames shown → List SeatFault → Result (Unit {0}) NodeFault → Type 0
Answered place s called after frames shown (took turn rule e f g) faults answer = (faults ≡ turn.faults) × (answer ≡ Ok tt)
Answered place s called after frames shown (refused refusal rule e f g) faults answer = (faults ≡ []) × (answer ≡ Err (refusal_fault refusal))
Answered place s called after frames shown (failed outcome begun up rule b e f g) faults answer = (faults ≡ []) × (answer ≡ Err (fault.Store Disk))
Answered place s called after frames shown (unchanged e f g) faults answer =
    (faults ≡ []) × ((answer ≡ Err fault.OutOfMemory) ⊎ (IsStart s.up called × (answer ≡ Err (fault.Store Disk))))

-- only a call that may store something fails in the disk, and only where its rule has a turn, or another command was known
abbrev pub MayFail : Call → Result Turn Refusal → Type 0
MayFail Tick outcome = IsDone outcome
MayFail Away outcome = IsDone outcome
MayFail (call.Frame from bytes) outcome = IsDone outcome
MayFail (Line seat bytes) outcome = IsDone outcome
MayFail other outcome = ⊥

-- a call that ended so
abbrev pub FailsRightly : (place : Place) (s : Standing) (called : Call) (after : Standing) (frames : List Frame) (shown : List Piece)
    → Ends place s called after frames shown → Type 0
FailsRightly place s called after frames shown (took turn rule e f g) = Unit {0}
FailsRightly place s called after frames shown (refused refusal rule e f g) = Unit {0}
FailsRightly place s called after frames shown (failed outcome begun up rule b e f g) = MayFail called outcome
FailsRightly place s called after frames shown (unchanged e f g) = Unit {0}

-- ---- what its disk leaves

-- what images may stand for beside the store: what was begun before; of a node that runs what the call's one append makes of it
abbrev pub MayBegin : Bool → Place → Standing → Call → Store → Type 0
MayBegin false place s called next = next ≡ s.begun
MayBegin true place s called next = (next ≡ s.store) ⊎ ((outcome : Result Turn Refusal) × IsTurn place s called outcome × (next ≡ (standing_after place s outcome).begun))

-- ---- whatever the node is seen as

-- 91 and 95: the node is down
abbrev pub TakesDown : Result (Unit {0}) NodeFault → Type 0
TakesDown (Err (fault.Store why)) = Unit {0}
TakesDown (Err fault.Conflict) = Unit {0}
TakesDown other = ⊥

-- a start is refused for want of memory, or by what opening the store found
abbrev pub IsOfStart : NodeFault → Type 0
IsOfStart fault.OutOfMemory = Unit {0}
IsOfStart (fault.Store why) = why ≢ OutOfMemory
IsOfStart other = ⊥

module _ {D : Type 0} where
  -- what holds of every call but a start and a stop
  pub record AnswersRightly (old new : Node D) (answer : Result (Unit {0}) NodeFault) : Type 0 where
    -- 90 is what a node that is down answers, and no other
    pub down : runs old ≡ false → answer ≡ Err fault.Down
    pub up : answer ≡ Err fault.Down → runs old ≡ false
    -- by 90, 92, 93, 94 and 96 it runs or is down as before, and its disk was neither read nor written
    pub stands : HasNoEffect answer → runs new ≡ runs old
    pub disk : HasNoEffect answer → disk_in new ≡ disk_in old
    -- by 91 and 95 it is down
    pub falls : TakesDown answer → runs new ≡ false
    -- 91 carries what an open store refuses, and not what only opening one finds
    pub carries : (why : StoreFault) → answer ≡ Err (fault.Store why) → IsFault why

  -- the disk is read and written only by a turn that sends a Prepare, a Promise or an Accepted
  pub record LeavesDisk (called : Call) (s : Standing) (old new : Node D) : Type 0 where
    pub turn : Turn
    pub rule : IsTurn (place_at (member_in old)) s called (Ok turn)
    pub untouched : AreStill turn.frames → disk_in new ≡ disk_in old

-- ---- the whole

module _ {D : Type 0} (g : Ghosts D) where
  -- a call of a node that was seen as this standing
  pub record Takes (called : Call) (s : Standing) (old new : Node D) (earlier later : Told) (answer : Result (Unit {0}) NodeFault) : Type 0 where
    pub after : Standing
    pub frames : List Frame
    pub shown : List Piece
    pub faults : List SeatFault
    -- the node is seen as the standing after it
    pub now : IsSeen g new after
    -- which is that of the rule, or that of a node whose disk failed
    pub ends : Ends (place_at (member_in old)) s called after frames shown
    pub answered : Answered (place_at (member_in old)) s called after frames shown ends faults answer
    pub fails : FailsRightly (place_at (member_in old)) s called after frames shown ends
    -- what it made stands behind what was there before
    pub told : later ≡ both_told earlier (record { frames = map framed frames; shown = map printed shown; faults = map fault_of faults })
    -- each frame reads back as its message
    pub fits : (one : Frame) → In one frames → reading (frame one.message) ≡ Ok one.message
    -- at each moment of the call, and behind it, each image of the disk stands for the store or for what the call began
    pub next : Store
    pub may_begin : MayBegin s.up (place_at (member_in old)) s called next
    pub moments : During (since_of g old) (since_of g new) (λ image. StandsFor (head_of (member_in old)) image s.store ⊎ StandsFor (head_of (member_in old)) image next)

  -- what holds of every call, whatever the node is seen as
  pub record StaysItself (old new : Node D) (earlier later : Told) (answer : Result (Unit {0}) NodeFault) : Type 0 where
    pub member : member_in new ≡ member_in old
    pub begun : begun_of g new ≡ begun_of g old
    pub counts : failures_of g old ≤ failures_of g new
    -- 63 comes only where a call of the disk failed
    pub rose : answer ≡ Err (fault.Store Disk) → Rose (failures_of g old) (failures_of g new)
    -- by a fault nothing is sent, shown or told
    pub unmade : IsErr answer → later ≡ earlier

  -- ---- the disk at a start and at a stop

  -- the node runs, with the store that its disk's bytes stand for
  pub record FindsStore (old new : Node D) : Type 0 where
    pub held : Store
    pub stands : StandsFor (head_of (member_in old)) (bytes_of g old) held
    pub seen : IsSeen g new (started (place_at (member_in old)) held)

  -- what a start that answered this made of the disk, which the node has
  pub record OpensDisk (old new : Node D) (answer : Result (Unit {0}) NodeFault) : Type 0 where
    pub before : D
    pub after : D
    pub was : disk_in old ≡ Some before
    pub is : disk_in new ≡ Some after
    -- at each moment each image stands for what it stood for
    pub reopens : Reopens g (head_of (member_in old)) before after
    -- by Ok the journal of a node that was down is as it was, or has the one record behind it that opens it for version 2
    pub marks : IsTrue g.is_honest → runs old ≡ false → OnOk answer (MarksJournal (head_of (member_in old)) (g.seen before) (g.seen after))
    -- one that goes on with version 2 was only read or synced
    pub quiet : IsTrue g.is_honest → GoesOnNew (head_of (member_in old)) (g.seen before) → OnlyReads g before after
    -- and so was each where the start was refused, but for a failed disk
    pub unwritten : IfErr answer (λ why. why ≢ fault.Store Disk → OnlyReads g before after)

  -- the disk was stopped, and has what was picked; or a call of it failed, and a read gives what it gave before
  abbrev pub StopsBy : ℕ → Node D → Node D → Type 0
  StopsBy pick old new = Picks (picked_of g old pick) (bytes_of g old) (bytes_of g new) (failures_of g old) (failures_of g new)
