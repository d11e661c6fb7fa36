-- How far a journal was read, and what was read of it.
use Rattle.std.specs.Prelude.{◌≡◌, ℕ, ◌+◌, Bool, Some, List, ◌++◌, length, drop, IsTrue}
use Rattle.std.specs.List.{AllByRecursion}
use Rattle.promise_store.specs.declared.disk.Disk.{Ghosts}
use Rattle.promise_store.specs.declared.records.Record.{Record}
use Rattle.promise_store.specs.declared.held.Held.{Held}
use Rattle.promise_store.specs.declared.stage.Stage.{Stage}
use Rattle.promise_store.specs.Records.{IsRecord}
use Rattle.promise_store.specs.Stages.{stage_behind}
use Rattle.promise_store.specs.Journals.{gated}
use Rattle.promise_store.specs.Holding.{nothing_held, held_from, holding, Indexes}
use Rattle.promise_store.specs.Settled.{IsSettled}

-- from its first gate on, in its first stage, the file was read up to this place, and the records there lead to this stage and make what is held
pub record IsReadTo (honest : Bool) (file : List ℕ) (first : Stage) (start at : ℕ) (stage : Stage) (index : Held) : Type 0 where
  pub records : List Record
  pub each : AllByRecursion IsRecord records
  pub stands : stage_behind first records ≡ Some stage
  pub text : IsTrue honest → drop start file ≡ gated records ++ drop at file
  pub place : at ≡ start + length (gated records)
  pub indexes : Indexes index (held_from start nothing_held records)

-- the disk has a journal with this head, with the gate behind its records at this place and this stage behind them, and the records make what is held
pub record IsRead {D : Type 0} (g : Ghosts D) (head : List ℕ) (disk : D) (gate : ℕ) (stage : Stage) (index : Held) : Type 0 where
  pub first : Stage
  pub records : List Record
  pub settled : IsSettled g first stage head records gate disk
  pub indexes : Indexes index (holding head records)
