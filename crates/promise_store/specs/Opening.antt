-- What opening makes of a disk, however it ends: reading it, and having what was read go on with version 2.
use Rattle.std.specs.Prelude.{◌≡◌, ◌⊎◌, ℕ, ◌≤◌, true, false, List, Result, Ok, Err, IsTrue, IfOk, IfErr}
use Rattle.promise_store.specs.declared.disk.Disk.{Ghosts}
use Rattle.promise_store.specs.declared.records.Record.{Record}
use Rattle.promise_store.specs.declared.store.Store.{Store}
use Rattle.promise_store.specs.declared.stage.Stage.{Stage}
use Rattle.promise_store.specs.declared.stage.Stage.TheVariants.{New}
use Rattle.promise_store.specs.declared.fault.StoreFault.{StoreFault}
use Rattle.promise_store.specs.declared.fault.StoreFault.TheVariants.{Disk, OutOfMemory}
use Rattle.protocol_model.specs.Stores as model
use Rattle.promise_store.specs.Disks.{Rose}
use Rattle.promise_store.specs.Stages.{marked}
use Rattle.promise_store.specs.Journals.{IsJournalOf}
use Rattle.promise_store.specs.Settled.{OnlyReads, IsSettled}
use Rattle.promise_store.specs.Refusals.{Refuses}
use Rattle.promise_store.specs.Keeping.{disk_of, is_closed, KeepsAt, Keeps, ForEither, Leaves, LeavesDuring, IsOpenedAt}

module _ {D : Type 0} where
  -- the disk behind an opening: the store's, or the one that is handed back
  abbrev pub disk_behind : Result (Store D) (D × StoreFault) → D
  disk_behind (Ok store) = disk_of store
  disk_behind (Err refused) = refused.0

module _ {D : Type 0} (g : Ghosts D) where
  -- this where the journal of an honest disk goes on with version 2
  abbrev pub WhereNew : List ℕ → D → Type 0 → Type 0
  WhereNew head disk This = IsTrue g.is_honest → (first : Stage) (records : List Record) → IsJournalOf first New head (g.seen disk) records → This

  -- reading a disk gave a store and the stage behind its records, or a fault and the disk
  pub record IsStoreRead (head : List ℕ) (before : D) (result : Result (Store D × Stage) (D × StoreFault)) : Type 0 where
    -- the store keeps what the disk stood for, and is open
    pub opened : IfOk result (λ read. IsOpenedAt g read.1 head before read.0)
    pub is_open : IfOk result (λ read. is_closed read.0 ≡ false)
    -- the journal that an honest disk has is read, and its last stage
    pub read : IsTrue g.is_honest → (first last : Stage) (records : List Record) → IsJournalOf first last head (g.seen before) records
        → IfOk result (λ read. (read.1 ≡ last) × IsSettled g first last head records read.0.gate read.0.disk)
    -- a disk that stands for one of two stores, as one that a crash left, is read as the one that it has
    pub either : ForEither g head before (λ old new. IfOk result (λ read. KeepsAt g read.1 head old read.0 ⊎ KeepsAt g read.1 head new read.0))
    pub sound : ForEither g head before (λ old new. IfErr result (λ refused. (refused.1 ≡ Disk) ⊎ (refused.1 ≡ OutOfMemory)))
    -- a fault comes for its reason
    pub refused : IsTrue g.is_honest → IfErr result (λ refused. Refuses head (g.seen before) refused.1)
    pub failed : IfErr result (λ refused. refused.1 ≡ Disk → Rose (g.count before) (g.count refused.0))
    -- nothing is written
    pub reads : IfOk result (λ read. OnlyReads g before (disk_of read.0))
    pub reads_err : IfErr result (λ refused. OnlyReads g before refused.0)

  -- a store with this stage behind its records went on with version 2, or gave a fault and the disk
  pub record IsMarked (stage : Stage) (before : Store D) (result : Result (Store D) (D × StoreFault)) : Type 0 where
    -- it keeps what it kept, and each image at each moment of the call, and behind it, stands for that
    pub keeps : (head : List ℕ) (held : model.Store) → KeepsAt g stage head held before → IfOk result (λ after. Keeps g head held after)
    pub leaves : (head : List ℕ) (held : model.Store) → KeepsAt g stage head held before → Leaves g head held held (disk_behind result)
    pub during : (head : List ℕ) (held : model.Store) → KeepsAt g stage head held before → LeavesDuring g head held held (disk_of before) (disk_behind result)
    -- its journal has the record that opens it for version 2 where that was missing; where it wasn't, nothing changed
    pub marks : (first : Stage) (head : List ℕ) (records : List Record) → IsSettled g first stage head records before.gate before.disk
        → IfOk result (λ after. IsSettled g first New head (marked stage records) after.gate after.disk)
    pub quiet : stage ≡ New → result ≡ Ok before
    -- a fault is 63, where a call of the disk failed; or it comes of a closed store
    pub failed : IfErr result (λ refused. refused.1 ≡ Disk → Rose (g.count (disk_of before)) (g.count refused.0))
    pub only : IfErr result (λ refused. (refused.1 ≡ Disk) ⊎ (is_closed before ≡ true))
    pub begun : g.begun (disk_behind result) ≡ g.begun (disk_of before)
    pub counts : g.count (disk_of before) ≤ g.count (disk_behind result)
