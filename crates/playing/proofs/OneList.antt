-- One list is behind a cluster that was never opened and to which no frame was forged.
use Rattle.std.proofs.Common.{◌≡◌, ℕ, Bool, false, [], map, length, refl, sym, subst}
use Rattle.std.proofs.Math.Logic.{∥∥₁_elim}
use Rattle.promise_store.specs.declared.memory_disk.MemoryDisk.{MemoryDisk}
use Rattle.promise_store.specs.contracts.memory_disk.MemoryDiskDisk.TheImpl.{ghosts as in_memory}
use Rattle.protocol_model.specs.Stores.{Store}
use Rattle.dealer_node.specs.Nodes.{Node}
use Rattle.dealer_node.specs.Seeing.{begun_of}
use Rattle.dealer_world.specs.Records.{Record}
use Rattle.dealer_world.specs.Beginning.{AreStarted}
use Rattle.dealer_world.specs.Stepping.{View}
use Rattle.dealer_world.specs.Ruling.{GoesOn}
use Rattle.dealer_world.specs.Unforged.{IsUnforged}
use Rattle.dealer_world.specs.Promise.{IsPromised, HasNoForged, ShowsOneList}

pub shows_one : (view : View (Node MemoryDisk)) → view.opened ≡ false → IsPromised in_memory view → ∥ HasNoForged view ∥₁ → ∥ ShowsOneList view [] ∥₁
shows_one view fresh promised unforged =
    let G : Bool → Type 0 = λ opened. GoesOn opened view.config.setting (length view.config.sources) [] (map (begun_of in_memory) view.nodes) in
    ∥∥₁_elim unforged (hlevel) (λ none. promised [] (subst G (sym fresh) refl) refl none)

-- where all nodes have just been started nothing was delivered
pub started_unforged : (stores : ℕ → Store) (view : View (Node MemoryDisk)) → AreStarted in_memory stores view → ∥ HasNoForged view ∥₁
started_unforged stores view started =
    let none : HasNoForged view = subst (λ (all : Record). IsUnforged all.sent all.delivered) (sym started.all) (λ arrival here. absurd here) in
    ∣ none ∣₁
