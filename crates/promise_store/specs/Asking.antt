-- What a call that only reads makes of a store, however it ends.
use Rattle.std.specs.Prelude.{◌≡◌, ◌⊎◌, ◌↔◌, true, Result, IsTrue, IsErrOf, IfErr, OnOk}
use Rattle.promise_store.specs.declared.disk.Disk.{Ghosts}
use Rattle.promise_store.specs.declared.store.Store.{Store}
use Rattle.promise_store.specs.declared.fault.StoreFault.{StoreFault}
use Rattle.promise_store.specs.declared.fault.StoreFault.TheVariants.{Disk, Closed, BadRecord}
use Rattle.promise_store.specs.Disks.{Rose}
use Rattle.promise_store.specs.Settled.{OnlyReads}
use Rattle.promise_store.specs.Keeping.{disk_of, is_closed, held_of, Keeps, ForKept}
use Rattle.promise_store.specs.Appended.{IsAsBefore}

module _ {D : Type 0} (g : Ghosts D) where
  -- after Ok the store keeps what it kept; whatever the answer, its disk was only read, and it holds what it held
  pub record IsAsking {T : Type 0} (before after : Store D) (result : Result T StoreFault) : Type 0 where
    pub keeps : ForKept g before (λ head held. OnOk result (Keeps g head held after))
    pub reads : OnlyReads g (disk_of before) (disk_of after)
    pub held : held_of after ≡ held_of before
    -- where the disk is honest the one fault is 63
    pub sound : ForKept g before (λ head held. IsTrue g.is_honest → IfErr result (λ fault. fault ≡ Disk))
    -- 63 comes only where a call of the disk failed, and closes the store; nothing else does
    pub failed : IsErrOf result Disk → Rose (g.count (disk_of before)) (g.count (disk_of after)) × (is_closed after ≡ true)
    pub stays : (IsErrOf result Disk → ⊥) → is_closed after ≡ is_closed before
    -- 64 comes exactly at a closed store
    pub closed : IsErrOf result Closed ↔ (is_closed before ≡ true)
    pub as_before : IsErrOf result Closed → IsAsBefore g before after
    pub only : IfErr result (λ fault. (fault ≡ Disk) ⊎ ((fault ≡ Closed) ⊎ (fault ≡ BadRecord)))
