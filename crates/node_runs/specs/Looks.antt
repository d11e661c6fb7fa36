-- How a start of a node is answered by what its disk has, and how a look at the disk is.
use Rattle.std.specs.Prelude.{◌≡◌, ◌⊎◌, ℕ, List, Result, Ok, Err, IfErr, OnOk}
use Rattle.protocol_model.specs.Stores.{Store}
use Rattle.promise_store.specs.Holding.{StandsFor}
use Rattle.promise_store.specs.Refusals.{Refuses}
use Rattle.promise_store.specs.declared.fault.StoreFault.{StoreFault}
use Rattle.promise_store.specs.declared.fault.StoreFault.TheVariants.{Disk}
use Rattle.dealer_node.specs.Taking.{IsOfStart}
use Rattle.dealer_node.specs.declared.fault.NodeFault.{NodeFault}
use Rattle.dealer_node.specs.declared.fault.NodeFault.TheVariants as fault

-- an answer to who would start a node whose disk has these bytes: there is the store that they stand for, or it is refused for what they are, by a failed disk, or for want of memory
pub record IsAnswerTo (head bytes : List ℕ) (answer : Result (Unit {0}) NodeFault) : Type 0 where
  pub of_start : IfErr answer IsOfStart
  pub found : OnOk answer ((held : Store) × StandsFor head bytes held)
  pub refused : (why : StoreFault) → answer ≡ Err (fault.Store why) → Refuses head bytes why

-- the disk failed, or memory was refused, which may be so now and not then
abbrev pub IsOfSystem : Result (Unit {0}) NodeFault → Type 0
IsOfSystem (Ok done) = ⊥
IsOfSystem (Err fault.OutOfMemory) = Unit {0}
IsOfSystem (Err (fault.Store why)) = why ≡ Disk
IsOfSystem (Err other) = ⊥

-- two answers are the same, unless one of them is of the system
abbrev pub AreOne : (one other : Result (Unit {0}) NodeFault) → Type 0
AreOne one other = (one ≡ other) ⊎ (IsOfSystem one ⊎ IsOfSystem other)
