-- What a call makes of an acceptor's store, however it ends.
use Rattle.std.specs.Prelude.{◌≡◌, ◌⊎◌, ℕ, ◌≤◌, true, List, [], ◌∷◌, ◌++◌, Option, Result, IsTrue, IsNone, IfSome, IsErrOf, IfOk, IfErr, OnOk, MatchResult}
use Rattle.paxos_wire.specs.declared.ballot.Ballot.{Ballot}
use Rattle.protocol_model.specs.Stores as model
use Rattle.protocol_model.specs.Votes.{is_voted}
use Rattle.promise_store.specs.declared.disk.Disk.{Ghosts}
use Rattle.promise_store.specs.declared.store.Store.{Store}
use Rattle.promise_store.specs.declared.fault.StoreFault.{StoreFault}
use Rattle.promise_store.specs.declared.fault.StoreFault.TheVariants.{Disk, Closed, BadRecord, OutOfMemory}
use Rattle.promise_store.specs.Disks.{Rose}
use Rattle.promise_store.specs.declared.records.Record.{Record}
use Rattle.promise_store.specs.declared.stage.Stage.{Stage}
use Rattle.promise_store.specs.declared.stage.Stage.TheVariants.{New}
use Rattle.promise_store.specs.Journals.{IsJournalOf}
use Rattle.promise_store.specs.Settled.{OnlyReads, LeavesRecordsDuring}
use Rattle.promise_store.specs.Keeping.{disk_of, is_closed, held_of, Keeps, Leaves, LeavesDuring}
use Rattle.promise_store.specs.Appended.{IsAsBefore}

-- what may be refused at any store, whatever its disk is: 62 of one that isn't honest alone
abbrev pub IsFault : StoreFault → Type 0
IsFault fault = (fault ≡ Disk) ⊎ ((fault ≡ Closed) ⊎ (fault ≡ BadRecord))

module _ {D : Type 0} (g : Ghosts D) where
  -- from the one disk to the other one record was appended to a journal of these: at each moment each image is the journal
  -- that was there or that with the record, and after Ok the disk has the latter
  pub record AppendsOne {T : Type 0} (first : Stage) (head : List ℕ) (records : List Record) (before after : D) (result : Result T StoreFault) : Type 0 where
    pub addition : Record
    pub steps : LeavesRecordsDuring g head records (records ++ addition ∷ []) before after
    pub journal : OnOk result (IsJournalOf first New head (g.seen after) (records ++ addition ∷ []))

  -- a call of an acceptor whose store keeps one of the model: after Ok it gave the answer and keeps the next; at each moment
  -- of the call and behind it, whatever it answered, each image of the disk stands for what was kept or for the next
  pub record Taken {T : Type 0} (answer : model.Store → T) (next : model.Store → model.Store) (before after : Store D) (result : Result T StoreFault) : Type 0 where
    pub ok : (head : List ℕ) (held : model.Store) → Keeps g head held before → IsTrue g.is_honest
        → IfOk result (λ given. (given ≡ answer held) × Keeps g head (next held) after)
    pub any_moment : (head : List ℕ) (held : model.Store) → Keeps g head held before → IsTrue g.is_honest
        → LeavesDuring g head held (next held) (disk_of before) (disk_of after)
    pub leaves : (head : List ℕ) (held : model.Store) → Keeps g head held before → IsTrue g.is_honest → Leaves g head held (next held) (disk_of after)
    -- whatever the answer, the disk was only read, or one record was appended to the journal that it had
    pub writes : (head : List ℕ) (held : model.Store) → Keeps g head held before → IsTrue g.is_honest
        → (first : Stage) (records : List Record) → IsJournalOf first New head (g.seen (disk_of before)) records
        → OnlyReads g (disk_of before) (disk_of after) ⊎ AppendsOne first head records (disk_of before) (disk_of after) result
    -- 63 comes only where a call of the disk failed, and closes the store
    pub failed : IsErrOf result Disk → Rose (g.count (disk_of before)) (g.count (disk_of after)) × (is_closed after ≡ true)
    -- want of memory changes nothing
    pub unchanged : IsErrOf result OutOfMemory → IsAsBefore g before after
    pub only : (head : List ℕ) (held : model.Store) → Keeps g head held before → IsTrue g.is_honest → IfErr result (λ fault. (fault ≡ Disk) ⊎ (fault ≡ OutOfMemory))
    pub begun : g.begun (disk_of after) ≡ g.begun (disk_of before)
    pub counts : g.count (disk_of before) ≤ g.count (disk_of after)

  -- a call over any store, whatever its disk is: what the promise that it shows refuses by itself asks no more of the
  -- store; every other call asks it to be open
  pub record NeedsStore {T : Type 0} (refusal : Option T) (before after : Store D) (result : Result T StoreFault) : Type 0 where
    -- such a refusal is told, also at a closed store, unless memory is wanted; and nothing changes
    pub refused : IfSome refusal (λ told. MatchResult result (λ given. given ≡ told) (λ fault. fault ≡ OutOfMemory) × IsAsBefore g before after)
    -- any other call is 64 at a closed store, unless memory is wanted
    pub closed : IsNone refusal → is_closed before ≡ true → IsErrOf result Closed ⊎ IsErrOf result OutOfMemory
    -- 64 comes of nothing else, and nothing changes then
    pub opened : IsErrOf result Closed → IsNone refusal × (is_closed before ≡ true) × IsAsBefore g before after
    pub only : IfErr result (λ fault. IsFault fault ⊎ (fault ≡ OutOfMemory))

  -- where a store has a vote of this ballot at the slot, and an honest disk, the disk is only read
  abbrev pub OnlyReadsWhereVoted : Ballot → ℕ → Store D → Store D → Type 0
  OnlyReadsWhereVoted ballot slot before after = (head : List ℕ) (held : model.Store) → Keeps g head held before → IsTrue g.is_honest
      → is_voted held ballot slot ≡ true → OnlyReads g (disk_of before) (disk_of after)

  -- what was read of a store, which keeps what it kept
  pub record Read {T : Type 0} (answer : model.Store → T) (before after : Store D) (result : Result T StoreFault) : Type 0 where
    pub ok : (head : List ℕ) (held : model.Store) → Keeps g head held before → IsTrue g.is_honest
        → IfOk result (λ given. (given ≡ answer held) × Keeps g head held after)
    pub reads : OnlyReads g (disk_of before) (disk_of after)
    pub failed : IsErrOf result Disk → Rose (g.count (disk_of before)) (g.count (disk_of after)) × (is_closed after ≡ true)
    pub held : held_of after ≡ held_of before
    pub memory : IsErrOf result OutOfMemory → ⊥
    pub only : (head : List ℕ) (held : model.Store) → Keeps g head held before → IsTrue g.is_honest → IfErr result (λ fault. fault ≡ Disk)
    -- 64 comes of a closed store, which is left as it was; one that was read stays open
    pub closed : IsErrOf result Closed → (is_closed before ≡ true) × IsAsBefore g before after
    pub stays : OnOk result (is_closed after ≡ is_closed before)
    pub faults : IfErr result IsFault
