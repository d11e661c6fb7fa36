-- What a call that stores a record makes of a store, however it ends.
use Rattle.std.specs.Prelude.{◌≡◌, ◌⊎◌, ◌↔◌, ℕ, ◌≤◌, true, List, [], ◌∷◌, ◌++◌, Result, IsTrue, IsErrOf, IfErr, OnOk}
use Rattle.promise_store.specs.declared.disk.Disk.{Ghosts}
use Rattle.promise_store.specs.declared.records.Record.{Record}
use Rattle.promise_store.specs.declared.store.Store.{Store}
use Rattle.promise_store.specs.declared.stage.Stage.{Stage}
use Rattle.promise_store.specs.declared.stage.Stage.TheVariants.{New}
use Rattle.promise_store.specs.declared.fault.StoreFault.{StoreFault}
use Rattle.promise_store.specs.declared.fault.StoreFault.TheVariants.{Disk, Closed, OutOfMemory}
use Rattle.protocol_model.specs.Stores as model
use Rattle.promise_store.specs.Disks.{Rose}
use Rattle.promise_store.specs.Holding.{stored}
use Rattle.promise_store.specs.Journals.{IsJournalOf}
use Rattle.promise_store.specs.Settled.{LeavesRecordsDuring}
use Rattle.promise_store.specs.Room.{ShowSame}
use Rattle.promise_store.specs.Keeping.{disk_of, is_closed, held_of, KeepsAt, Keeps, Leaves, LeavesDuring}

module _ {D : Type 0} (g : Ghosts D) where
  -- the disk under the store is as it was, and so is what the store keeps
  pub record IsAsBefore (before after : Store D) : Type 0 where
    pub disk : disk_of after ≡ disk_of before
    pub closed : is_closed after ≡ is_closed before
    pub keeps : (head : List ℕ) (held : model.Store) → Keeps g head held before → Keeps g head held after

  -- of a store with the one stage behind its records, where the record leads to the other
  pub record AppendedAt (last next : Stage) (r : Record) (before after : Store D) (result : Result (Unit {0}) StoreFault) : Type 0 where
    -- after Ok the store keeps what it kept, with the record
    pub ok : (head : List ℕ) (held : model.Store) → KeepsAt g last head held before → OnOk result (KeepsAt g next head (stored held r) after)
    -- whatever the answer, at each moment of the call, and behind it, each image stands for what was kept or for that with the record
    pub any_moment : (head : List ℕ) (held : model.Store) → KeepsAt g last head held before → LeavesDuring g head held (stored held r) (disk_of before) (disk_of after)
    pub leaves : (head : List ℕ) (held : model.Store) → KeepsAt g last head held before → Leaves g head held (stored held r) (disk_of after)
    -- after Ok the journal that was on the disk has the one record behind the others, and no other
    pub journal : (head : List ℕ) (held : model.Store) → KeepsAt g last head held before → IsTrue g.is_honest
        → (first : Stage) (records : List Record) → IsJournalOf first last head (g.seen (disk_of before)) records
        → OnOk result (IsJournalOf first next head (g.seen (disk_of after)) (records ++ r ∷ []))
    -- whatever the answer, at each moment of the call each image is a journal of the records that were on the disk, or of those with the one
    pub steps : (head : List ℕ) (held : model.Store) → KeepsAt g last head held before → IsTrue g.is_honest
        → (first : Stage) (records : List Record) → IsJournalOf first last head (g.seen (disk_of before)) records
        → LeavesRecordsDuring g head records (records ++ r ∷ []) (disk_of before) (disk_of after)
    -- a store that gave a fault shows what it showed before
    pub shows : IfErr result (λ fault. ShowSame (held_of before) (held_of after))
    -- 63 comes only where a call of the disk failed, and closes the store
    pub failed : IsErrOf result Disk → Rose (g.count (disk_of before)) (g.count (disk_of after)) × (is_closed after ≡ true)
    -- 64 comes exactly at a closed store
    pub closed : IsErrOf result Closed ↔ (is_closed before ≡ true)
    pub unchanged : IsErrOf result Closed ⊎ IsErrOf result OutOfMemory → IsAsBefore before after
    pub only : IfErr result (λ fault. (fault ≡ Disk) ⊎ ((fault ≡ Closed) ⊎ (fault ≡ OutOfMemory)))
    pub begun : g.begun (disk_of after) ≡ g.begun (disk_of before)
    pub counts : g.count (disk_of before) ≤ g.count (disk_of after)

  -- of a store that callers have
  abbrev pub Appended : Record → Store D → Store D → Result (Unit {0}) StoreFault → Type 0
  Appended r before after result = AppendedAt New New r before after result
