-- What a whole call makes of a node that runs, however it ends.
use Rattle.std.specs.Prelude.{◌≡◌, ◌≤◌, length, vec_len, Result, Ok, Err}
use Rattle.promise_store.specs.declared.disk.Disk.{Ghosts}
use Rattle.promise_store.specs.declared.fault.StoreFault.TheVariants.{Disk}
use Rattle.acceptor.specs.Taken.{IsFault}
use Rattle.node_rules.specs.Standings.{Standing}
use Rattle.node_rules.specs.Turns.{Turn, Refusal, Spent, BadFrame, NothingToAct}
use Rattle.dealer_node.specs.declared.up.Up.{Up}
use Rattle.dealer_node.specs.declared.made.Made.{Made}
use Rattle.dealer_node.specs.declared.made.Need.{Need}
use Rattle.dealer_node.specs.declared.fault.NodeFault.{NodeFault}
use Rattle.dealer_node.specs.declared.fault.NodeFault.TheVariants as fault
use Rattle.dealer_node.specs.Outs.{Told}
use Rattle.dealer_node.specs.Members.{Membership}
use Rattle.dealer_node.specs.Texts.{byte_total}
use Rattle.dealer_node.specs.Working.{disk_under, IsUp, Took, Failed, Clashed}

-- 90, 92, 93, 94 and 96: nothing but room has changed
abbrev pub HasNoEffect : Result (Unit {0}) NodeFault → Type 0
HasNoEffect (Err fault.Down) = Unit {0}
HasNoEffect (Err fault.OutOfMemory) = Unit {0}
HasNoEffect (Err fault.Spent) = Unit {0}
HasNoEffect (Err (fault.BadFrame why)) = Unit {0}
HasNoEffect (Err fault.NothingToAct) = Unit {0}
HasNoEffect other = ⊥

-- what a whole call of a node that runs may answer, whatever its disk is: it isn't down, and 91 carries what an open store refuses
abbrev pub IsOfCall : Result (Unit {0}) NodeFault → Type 0
IsOfCall (Err fault.Down) = ⊥
IsOfCall (Err (fault.Store why)) = IsFault why
IsOfCall other = Unit {0}

module _ {D : Type 0} where
  -- a whole call of what runs, whatever its disk is
  pub record AnswersUp (before after : Up D) (answer : Result (Unit {0}) NodeFault) : Type 0 where
    pub of_call : IsOfCall answer
    -- where nothing was done the disk is as it was
    pub disk : HasNoEffect answer → disk_under after ≡ disk_under before

module _ {D : Type 0} (g : Ghosts D) where
  -- nothing but room has changed
  pub record Stays (member : Membership) (s : Standing) (before after : Up D) : Type 0 where
    pub now : IsUp g member after s
    pub disk : disk_under after ≡ disk_under before

  -- a call whose outcome is this, or that found no memory
  abbrev pub Handles : Membership → Standing → Result Turn Refusal → Up D → Up D → Told → Told → Result (Unit {0}) NodeFault → Type 0
  Handles member s outcome before after earlier later (Ok done) = Took g member s outcome before after earlier later
  Handles member s outcome before after earlier later (Err (fault.Store Disk)) = Failed g member s outcome before after
  Handles member s outcome before after earlier later (Err fault.Conflict) = Clashed g member s outcome before after
  Handles member s outcome before after earlier later (Err fault.OutOfMemory) = Stays member s before after
  Handles member s outcome before after earlier later (Err fault.Spent) = (outcome ≡ Err Spent) × Stays member s before after
  Handles member s outcome before after earlier later (Err (fault.BadFrame why)) = (outcome ≡ Err (BadFrame why)) × Stays member s before after
  Handles member s outcome before after earlier later (Err fault.NothingToAct) = (outcome ≡ Err NothingToAct) × Stays member s before after
  Handles member s outcome before after earlier later (Err other) = ⊥

-- no more was made than was needed
pub record IsWithin (made : Made) (need : Need) : Type 0 where
  pub frames : length made.frames.texts ≤ need.frames
  pub frame_bytes : byte_total made.frames.texts ≤ need.frame_bytes
  pub texts : length made.shown.texts ≤ need.texts
  pub text_bytes : byte_total made.shown.texts ≤ need.text_bytes
  pub faults : vec_len made.faults ≤ need.faults
