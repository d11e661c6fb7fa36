-- What a disk keeps of a journal, and what calls make of it.
use Rattle.std.specs.Prelude.{◌≡◌, ℕ, ◌≤◌, List, [], ◌∷◌, ◌++◌, Some, Result, IsTrue, OnOk}
use Rattle.promise_store.specs.declared.disk.Disk.{Ghosts}
use Rattle.promise_store.specs.declared.records.Record.{Record}
use Rattle.promise_store.specs.Disks.{Only, During, Within}
use Rattle.promise_store.specs.declared.stage.Stage.{Stage}
use Rattle.promise_store.specs.Stages.{head_of, stage_after}
use Rattle.promise_store.specs.Records.{IsRecord, record_text}
use Rattle.promise_store.specs.Journals.{IsJournalOf, gate_behind, IsEither}

module _ {D : Type 0} (g : Ghosts D) where
  -- from the one to the other the disk was only read or synced: a read gives the same, and a crash leaves nothing that it didn't leave before
  pub record OnlyReads (before after : D) : Type 0 where
    pub seen : g.seen after ≡ g.seen before
    pub begun : g.begun after ≡ g.begun before
    pub images : Within (g.images before) (g.images after)
    pub during : During (g.since before) (g.since after) (g.images before)
    pub counts : g.count before ≤ g.count after

  -- the disk has these records, of these stages, nothing else may be left of it, and the gate behind them stands at this place
  pub record IsSettled (first last : Stage) (head : List ℕ) (records : List Record) (gate : ℕ) (disk : D) : Type 0 where
    pub journal : IsTrue g.is_honest → IsJournalOf first last head (g.seen disk) records
    pub at_gate : IsTrue g.is_honest → gate ≡ gate_behind (head_of first head) records
    pub durable : Only (g.seen disk) (g.images disk)

  -- each image stands for the one or for the other
  abbrev pub LeavesRecords : List ℕ → List Record → List Record → D → Type 0
  LeavesRecords head old new disk = Within (IsEither head old new) (g.images disk)

  -- each image at each moment from the one disk on does, or was an image before
  abbrev pub LeavesRecordsDuring : List ℕ → List Record → List Record → D → D → Type 0
  LeavesRecordsDuring head old new before after = During (g.since before) (g.since after) (IsEither head old new)

  -- the text is that of a record, with a shut gate behind it, which may stand next at this gate of a settled disk
  pub record IsAddition (first last next : Stage) (head : List ℕ) (records : List Record) (r : Record) (gate : ℕ) (text : List ℕ) (disk : D) : Type 0 where
    pub settled : IsSettled first last head records gate disk
    pub follows : stage_after last r ≡ Some next
    pub is_record : IsRecord r
    pub text_is : text ≡ record_text r ++ 0 ∷ []

  -- the record was written: after Ok the disk has it behind the others; at each moment of the call, and behind it, whatever
  -- it answered, each image stands for the records that were there or for those with the one
  pub record IsWritten {T E : Type 0} (first next : Stage) (head : List ℕ) (records : List Record) (r : Record) (gate : ℕ) (before after : D) (result : Result T E) : Type 0 where
    pub ok : OnOk result (IsSettled first next head (records ++ r ∷ []) gate after)
    pub any_moment : LeavesRecordsDuring head records (records ++ r ∷ []) before after
    pub leaves : LeavesRecords head records (records ++ r ∷ []) after
