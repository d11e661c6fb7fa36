-- What opening a node's store makes of its disk.
use Rattle.std.specs.Prelude.{◌≡◌, ◌≢◌, IsTrue}
use Rattle.promise_store.specs.declared.disk.Disk.{Ghosts}
use Rattle.promise_store.specs.declared.fault.StoreFault.{StoreFault}
use Rattle.promise_store.specs.declared.fault.StoreFault.TheVariants.{Disk}
use Rattle.promise_store.specs.Settled.{OnlyReads}
use Rattle.promise_store.specs.Refusals.{Refuses}
use Rattle.dealer_node.specs.declared.fault.NodeFault.{NodeFault}
use Rattle.dealer_node.specs.declared.fault.NodeFault.TheVariants as fault
use Rattle.dealer_node.specs.Members.{Membership}
use Rattle.dealer_node.specs.Working.{head_of}
use Rattle.dealer_node.specs.Starting.{GoesOnNew, MarksJournal}
use Rattle.dealer_node.specs.Taking.{IsOfStart}

module _ {D : Type 0} (g : Ghosts D) where
  -- it was opened: its journal goes on with version 2, and where it did already the disk was only synced and read
  pub record MarksDisk (member : Membership) (before after : D) : Type 0 where
    pub marks : IsTrue g.is_honest → MarksJournal (head_of member) (g.seen before) (g.seen after)
    pub quiet : IsTrue g.is_honest → GoesOnNew (head_of member) (g.seen before) → OnlyReads g before after

  -- opening it was refused by a fault of a start, and but for a failed disk it was only synced and read
  pub record RefusesDisk (member : Membership) (before after : D) (why : NodeFault) : Type 0 where
    pub of_start : IsOfStart why
    -- what was found there is what its bytes say
    pub finds : IsTrue g.is_honest → (found : StoreFault) → why ≡ fault.Store found → Refuses (head_of member) (g.seen before) found
    pub unwritten : why ≢ fault.Store Disk → OnlyReads g before after
    -- also by a failed disk, where its journal goes on with version 2
    pub quiet : IsTrue g.is_honest → GoesOnNew (head_of member) (g.seen before) → OnlyReads g before after
