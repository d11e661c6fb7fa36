-- What a store keeps, as a store of the model.
use Rattle.std.specs.Prelude.{◌≡◌, ◌⊎◌, ℕ, ◌≤◌, Bool, false, List, IsTrue}
use Rattle.promise_store.specs.declared.disk.Disk.{Ghosts}
use Rattle.promise_store.specs.declared.records.Record.{Record}
use Rattle.promise_store.specs.declared.held.Held.{Held}
use Rattle.promise_store.specs.declared.stage.Stage.{Stage}
use Rattle.promise_store.specs.declared.stage.Stage.TheVariants.{New}
use Rattle.promise_store.specs.declared.store.Store.{Store}
use Rattle.protocol_model.specs.Stores as model
use Rattle.promise_store.specs.Disks.{During, Within}
use Rattle.promise_store.specs.Holding.{holding, store_of, Indexes, StandsFor}
use Rattle.promise_store.specs.Settled.{IsSettled}

module _ {D : Type 0} where
  -- the disk under a store
  abbrev pub disk_of : Store D → D
  disk_of store = store.disk

  -- a call of its disk failed
  abbrev pub is_closed : Store D → Bool
  is_closed store = store.closed

  -- what a store shows of what it holds
  abbrev pub held_of : Store D → Held
  held_of store = store.held

module _ {D : Type 0} (g : Ghosts D) where
  -- the store is open, its disk stands for this store of the model and for no other, with this stage behind its records, and it shows that
  pub record KeepsAt (last : Stage) (head : List ℕ) (held : model.Store) (store : Store D) : Type 0 where
    pub first : Stage
    pub records : List Record
    pub is_open : store.closed ≡ false
    pub settled : IsSettled g first last head records store.gate store.disk
    pub is : held ≡ store_of (holding head records)
    pub indexes : IsTrue g.is_honest → Indexes store.held (holding head records)

  -- a store that callers have goes on with records of version 2
  abbrev pub Keeps : List ℕ → model.Store → Store D → Type 0
  Keeps head held store = KeepsAt New head held store

  -- this of whatever store of the model the store keeps
  abbrev pub ForKept : Store D → (List ℕ → model.Store → Type 0) → Type 0
  ForKept store This = (head : List ℕ) (held : model.Store) → Keeps head held store → This head held

  -- each image stands for the one store of the model or for the other
  abbrev pub Leaves : List ℕ → model.Store → model.Store → D → Type 0
  Leaves head old new disk = Within (λ image. StandsFor head image old ⊎ StandsFor head image new) (g.images disk)

  -- this of whatever two stores an honest disk stands for one of, as one that a crash left
  abbrev pub ForEither : List ℕ → D → (model.Store → model.Store → Type 0) → Type 0
  ForEither head disk This = (old new : model.Store) → IsTrue g.is_honest → Leaves head old new disk → This old new

  -- each image at each moment from the one disk on does, or was an image before
  abbrev pub LeavesDuring : List ℕ → model.Store → model.Store → D → D → Type 0
  LeavesDuring head old new before after = During (g.since before) (g.since after) (λ image. StandsFor head image old ⊎ StandsFor head image new)

  -- a store that was read from a disk keeps what the disk stood for
  pub record IsOpenedAt (last : Stage) (head : List ℕ) (disk : D) (store : Store D) : Type 0 where
    pub held : model.Store
    pub keeps : KeepsAt last head held store
    pub stands : IsTrue g.is_honest → StandsFor head (g.seen disk) held

  -- a store that was opened over a disk keeps what the disk stood for
  abbrev pub IsOpened : List ℕ → D → Store D → Type 0
  IsOpened head disk store = IsOpenedAt New head disk store

  -- from the one disk to the other, at each moment, each image stands for what it stood for
  pub record Reopens (head : List ℕ) (before after : D) : Type 0 where
    pub begun : g.begun after ≡ g.begun before
    pub counts : g.count before ≤ g.count after
    pub leaves : (old new : model.Store) → IsTrue g.is_honest → Leaves head old new before → Leaves head old new after
    pub during : (old new : model.Store) → IsTrue g.is_honest → Leaves head old new before → LeavesDuring head old new before after
