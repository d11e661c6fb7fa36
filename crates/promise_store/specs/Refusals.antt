-- Why a file is no store.
use Rattle.std.specs.Prelude.{◌≡◌, ◌≢◌, ℕ, List, [], ◌∷◌, ◌++◌}
use Rattle.promise_store.specs.declared.records.Record.{Record}
use Rattle.promise_store.specs.declared.fault.StoreFault.{StoreFault}
use Rattle.promise_store.specs.declared.fault.StoreFault.TheVariants.{NoStore, BadHeader, BadRecord, Disk, Closed, OutOfMemory}
use Rattle.promise_store.specs.declared.stage.Stage.{Stage}
use Rattle.promise_store.specs.Stages.{head_of}
use Rattle.promise_store.specs.Journals.{IsJournal}

-- the head, of either version, and a gate behind it
abbrev pub HasHead : List ℕ → List ℕ → Type 0
HasHead head bytes = (first : Stage) × (gate : ℕ) × (rest : List ℕ) × (bytes ≡ head_of first head ++ gate ∷ rest)

-- what the file's bytes are where opening it answers this: an empty file; another one without the head and a gate; one with these that is no journal. A failing disk and want of memory may come whatever they are
abbrev pub Refuses : List ℕ → List ℕ → StoreFault → Type 0
Refuses head bytes NoStore = bytes ≡ []
Refuses head bytes BadHeader = (bytes ≢ []) × (HasHead head bytes → ⊥)
Refuses head bytes BadRecord = HasHead head bytes × ((records : List Record) → IsJournal head bytes records → ⊥)
Refuses head bytes Disk = Unit {0}
Refuses head bytes Closed = ⊥
Refuses head bytes OutOfMemory = Unit {0}
