-- What a start makes of a node that is down.
use Rattle.std.specs.Prelude.{◌≡◌, ◌⊎◌, ℕ, List}
use Rattle.promise_store.specs.declared.disk.Disk.{Ghosts}
use Rattle.promise_store.specs.declared.records.Record.{Record}
use Rattle.promise_store.specs.declared.stage.Stage.{Stage}
use Rattle.promise_store.specs.declared.stage.Stage.TheVariants.{New}
use Rattle.promise_store.specs.Stages.{marked}
use Rattle.promise_store.specs.Journals.{IsJournalOf}
use Rattle.promise_store.specs.declared.fault.StoreFault.TheVariants.{Disk}
use Rattle.promise_store.specs.Holding.{StandsFor}
use Rattle.promise_store.specs.Keeping.{Leaves, LeavesDuring}
use Rattle.protocol_model.specs.Stores.{Store}
use Rattle.node_rules.specs.Standings.{started}
use Rattle.node_rules.specs.Rules.{asking_all, starting}
use Rattle.dealer_node.specs.declared.up.Up.{Up}
use Rattle.dealer_node.specs.declared.fault.NodeFault.{NodeFault}
use Rattle.dealer_node.specs.declared.fault.NodeFault.TheVariants as fault
use Rattle.dealer_node.specs.Outs.{Told, both_told}
use Rattle.dealer_node.specs.Members.{Membership, place_at}
use Rattle.dealer_node.specs.Turned.{told_of}
use Rattle.dealer_node.specs.Fitting.{AreMessages}
use Rattle.dealer_node.specs.Working.{head_of, disk_under, IsUp}

-- ---- the journal

-- the file is a journal that goes on with records of version 2: it began with that version, or was opened for it
abbrev pub GoesOnNew : List ℕ → List ℕ → Type 0
GoesOnNew head file = (first : Stage) × (records : List Record) × IsJournalOf first New head file records

-- the later file is the journal that the earlier one is, with the record behind the others that opens it for version 2 where that was missing
abbrev pub MarksJournal : List ℕ → List ℕ → List ℕ → Type 0
MarksJournal head earlier later = (first last : Stage) (records : List Record) → IsJournalOf first last head earlier records → IsJournalOf first New head later (marked last records)

-- ---- the node

module _ {D : Type 0} (g : Ghosts D) where
  -- it runs with one of the two stores that its disk may have, with its header shown and the others asked
  pub record Starts (member : Membership) (store begun : Store) (disk : D) (up : Up D) (earlier later : Told) : Type 0 where
    pub found : Store
    pub either : (found ≡ store) ⊎ (found ≡ begun)
    pub now : IsUp g member up (started (place_at member) found)
    pub told : later ≡ both_told earlier (told_of (starting (place_at member) found))
    pub fits : AreMessages (asking_all (place_at member) found)
    pub moments : LeavesDuring g (head_of member) store begun disk (disk_under up)

  -- it stays down, and its disk leaves what it left
  pub record StaysDown (member : Membership) (store begun : Store) (before after : D) (why : NodeFault) : Type 0 where
    pub leaves : Leaves g (head_of member) store begun after
    pub moments : LeavesDuring g (head_of member) store begun before after
    pub fault : (why ≡ fault.OutOfMemory) ⊎ (why ≡ fault.Store Disk)

  -- it runs with the store that the bytes of its disk stood for
  pub record Finds (member : Membership) (disk : D) (up : Up D) : Type 0 where
    pub held : Store
    pub stands : StandsFor (head_of member) (g.seen disk) held
    pub now : IsUp g member up (started (place_at member) held)
