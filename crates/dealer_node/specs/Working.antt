-- What a part of a call makes of a node that runs, however it ends.
use Rattle.std.specs.Prelude.{◌≡◌, ℕ, ◌⊎◌, ◌+◌, ◌*◌, ◌≤◌, length, vec_len, List, IfSome, IsTrue, Result, Ok, Err}
use Rattle.promise_store.specs.declared.disk.Disk.{Ghosts}
use Rattle.promise_store.specs.declared.fault.StoreFault.TheVariants.{Disk}
use Rattle.promise_store.specs.Disks.{Rose}
use Rattle.promise_store.specs.Keeping.{disk_of, held_of, Keeps, Leaves, LeavesDuring}
use Rattle.promise_store.specs.Journals.{header}
use Rattle.promise_store.specs.Room.{room}
use Rattle.acceptor.specs.Stored.{store_of}
use Rattle.acceptor.specs.Taken.{IsFault}
use Rattle.paxos_wire.specs.declared.limits.TheConstants.{MOST_SINGLE_FRAME}
use Rattle.paxos_wire.specs.declared.message.Message.{Message}
use Rattle.paxos_wire.specs.declared.message.Message.TheVariants as frame
use Rattle.protocol_model.specs.Sets.{In}
use Rattle.protocol_model.specs.Stores.{Store}
use Rattle.proposer.specs.declared.campaign.Campaign.{Campaign}
use Rattle.proposer.specs.CommandRuns.{IsBounded}
use Rattle.node_rules.specs.Standings.{Standing}
use Rattle.node_rules.specs.Sending.{Frame}
use Rattle.node_rules.specs.Turns.{Turn, Refusal, Conflict}
use Rattle.dealer_node.specs.declared.limits.TheConstants.{FRAMES_OF_A_CLOSE}
use Rattle.dealer_node.specs.declared.up.Up.{Up}
use Rattle.dealer_node.specs.declared.running.Running.{Running}
use Rattle.dealer_node.specs.declared.made.Made.{Made}
use Rattle.dealer_node.specs.declared.made.Need.{Need}
use Rattle.dealer_node.specs.declared.fault.NodeFault.{NodeFault}
use Rattle.dealer_node.specs.declared.fault.NodeFault.TheVariants as fault
use Rattle.dealer_node.specs.Outs.{Told, both_told}
use Rattle.dealer_node.specs.Members.{Membership}
use Rattle.dealer_node.specs.Texts.{byte_total}
use Rattle.dealer_node.specs.Turned.{told_of}
use Rattle.dealer_node.specs.Fitting.{AreMessages}
use Rattle.dealer_node.specs.Running.{IsRunning, CanLearn, ahead_of}

-- what the journal of a node's store begins with
abbrev pub head_of : Membership → List ℕ
head_of member = header member.node member.nodes

-- the ballot that it prepares or leads is the one that it promised
abbrev pub StandsByIts : Standing → Type 0
StandsByIts s = IfSome s.campaign (λ (campaign : Campaign). campaign.ballot ≡ s.store.promise)

-- this store is what the outcome leaves: that of its turn, or the one of a conflict
abbrev pub ComesTo : Result Turn Refusal → Store → Type 0
ComesTo outcome left = ((turn : Turn) × (outcome ≡ Ok turn) × (left ≡ turn.after.begun)) ⊎ (outcome ≡ Err (Conflict left))

-- the rule has a turn, or another command was known
abbrev pub IsDone : Result Turn Refusal → Type 0
IsDone (Ok turn) = Unit {0}
IsDone (Err (Conflict store)) = Unit {0}
IsDone (Err other) = ⊥

-- a message behind which nothing was stored and no entry read: it asks for no promise and makes none, and tells of no vote
abbrev pub TellsNoStore : Message → Type 0
TellsNoStore (frame.Prepare ballot slot) = ⊥
TellsNoStore (frame.Promise ballot slot entries) = ⊥
TellsNoStore (frame.Accepted ballot slot commands) = ⊥
TellsNoStore other = Unit {0}

-- all frames of a turn are such
abbrev pub AreStill : List Frame → Type 0
AreStill frames = (sent : Frame) → In sent frames → TellsNoStore sent.message

-- what a part of a call may answer, whatever its disk is: it is done, another command is known, or what an open store refuses
abbrev pub IsOfPart : Result (Unit {0}) NodeFault → Type 0
IsOfPart (Ok done) = Unit {0}
IsOfPart (Err (fault.Store why)) = IsFault why
IsOfPart (Err fault.Conflict) = Unit {0}
IsOfPart (Err other) = ⊥

module _ {D : Type 0} where
  -- the disk of its store
  abbrev pub disk_under : Up D → D
  disk_under up = disk_of (store_of up.acceptor)

  -- for how many votes more there is room in the store
  abbrev pub store_room : Up D → ℕ
  store_room up = room (held_of (store_of up.acceptor))

module _ {D : Type 0} (g : Ghosts D) where
  -- a node that runs keeps the standing's store, and knows what the standing says
  pub record IsUp (member : Membership) (up : Up D) (s : Standing) : Type 0 where
    pub running : IsRunning member up.running s
    pub keeps : Keeps g (head_of member) s.store (store_of up.acceptor)
    pub unbegun : s.begun ≡ s.store
    pub stands : StandsByIts s

  -- ---- however it ends

  -- the turn was taken: at each moment images stand for the store before or for the one after
  pub record Took (member : Membership) (s : Standing) (outcome : Result Turn Refusal) (before after : Up D) (earlier later : Told) : Type 0 where
    pub turn : Turn
    pub rule : outcome ≡ Ok turn
    pub now : IsUp member after turn.after
    pub told : later ≡ both_told earlier (told_of turn)
    pub fits : AreMessages turn.frames
    pub moments : LeavesDuring g (head_of member) s.store turn.after.store (disk_under before) (disk_under after)
    -- the disk is read and written only where the turn sends a Prepare, a Promise or an Accepted
    pub untouched : AreStill turn.frames → disk_under after ≡ disk_under before

  -- the disk failed: images stand for the store before or for what the outcome leaves
  pub record Failed (member : Membership) (s : Standing) (outcome : Result Turn Refusal) (before after : Up D) : Type 0 where
    pub left : Store
    pub comes : (left ≡ s.store) ⊎ ComesTo outcome left
    pub done : IsDone outcome
    pub leaves : Leaves g (head_of member) s.store left (disk_under after)
    pub moments : LeavesDuring g (head_of member) s.store left (disk_under before) (disk_under after)

  -- another command was known
  pub record Clashed (member : Membership) (s : Standing) (outcome : Result Turn Refusal) (before after : Up D) : Type 0 where
    pub left : Store
    pub rule : outcome ≡ Err (Conflict left)
    pub leaves : Leaves g (head_of member) s.store left (disk_under after)
    pub moments : LeavesDuring g (head_of member) s.store left (disk_under before) (disk_under after)

  -- a part of a call whose outcome is this, after which the node runs on or is to go down
  abbrev pub Works : Membership → Standing → Result Turn Refusal → Up D → Up D → Told → Told → Result (Unit {0}) NodeFault → Type 0
  Works member s outcome before after earlier later (Ok done) = Took member s outcome before after earlier later
  Works member s outcome before after earlier later (Err (fault.Store Disk)) = Failed member s outcome before after
  Works member s outcome before after earlier later (Err fault.Conflict) = Clashed member s outcome before after
  Works member s outcome before after earlier later (Err other) = ⊥

  -- it carries out the rule, whatever the node is seen as
  abbrev pub Follows : Membership → (Standing → Result Turn Refusal) → Up D → Up D → Told → Told → Result (Unit {0}) NodeFault → Type 0
  Follows member rule before after earlier later answer =
      (s : Standing) → IsTrue g.is_honest → IsUp member before s → Works member s (rule s) before after earlier later answer

  -- what holds whatever the disk is
  pub record GoesOn (before after : Up D) (answer : Result (Unit {0}) NodeFault) : Type 0 where
    pub begun : g.begun (disk_under after) ≡ g.begun (disk_under before)
    pub counts : g.count (disk_under before) ≤ g.count (disk_under after)
    pub rose : answer ≡ Err (fault.Store Disk) → Rose (g.count (disk_under before)) (g.count (disk_under after))

  -- how a part of a call ends, whatever the disk is
  pub record EndsPart (before after : Up D) (answer : Result (Unit {0}) NodeFault) : Type 0 where
    pub goes_on : GoesOn before after answer
    pub only : IsOfPart answer

-- ---- room

-- there is room for so many answers more with so many commands in all, and for so many frames of one command each, as which a frame of several
-- counts for each; and no more was made than was needed
pub record HasLeft (running : Running) (made : Made) (need : Need) (answers commands frames : ℕ) : Type 0 where
  pub learn : CanLearn running made answers commands
  pub texts : frames ≤ made.frames.text_room
  pub bytes : MOST_SINGLE_FRAME * frames ≤ made.frames.byte_room
  pub frames_made : length made.frames.texts + frames ≤ need.frames
  pub bytes_made : byte_total made.frames.texts + MOST_SINGLE_FRAME * frames ≤ need.frame_bytes
  pub texts_shown : length made.shown.texts + 11 * (ahead_of running + commands) ≤ need.texts
  pub bytes_shown : byte_total made.shown.texts + 45716 * (ahead_of running + commands) ≤ need.text_bytes
  pub faults_told : vec_len made.faults ≤ need.faults

-- the room to count so many answers, with so many commands in all, and for so many frames: no more of it is gone, whatever else is left
abbrev pub Spends : Running → Running → Made → Made → ℕ → ℕ → ℕ → Type 0
Spends old new earlier later answers commands frames =
    (need : Need) (counted known sent : ℕ) → HasLeft old earlier need (counted + answers) (known + commands) (sent + frames) → HasLeft new later need counted known sent

module _ {D : Type 0} where
  -- the close of a call proposes no more commands than so many, and there is room for them: to store, to learn and to tell
  pub record HasCloseRoom (up : Up D) (made : Made) (most : ℕ) : Type 0 where
    pub bounded : IsBounded up.running.proposer most
    pub store : most ≤ store_room up
    pub learn : CanLearn up.running made 1 most
    pub texts : FRAMES_OF_A_CLOSE * most ≤ made.frames.text_room
    pub bytes : MOST_SINGLE_FRAME * (FRAMES_OF_A_CLOSE * most) ≤ made.frames.byte_room
