-- No frame is forged by those that were sent, and what is promised of a cluster stays so where it stays as it is.
use Rattle.std.proofs.Common.{◌≡◌, ℕ, List, Result, map, ap, sym, subst}
use Rattle.promise_store.specs.declared.disk.Disk.{Ghosts}
use Rattle.dealer_node.specs.Nodes.{Node}
use Rattle.dealer_node.specs.Seeing.{begun_of}
use Rattle.dealer_node.specs.declared.fault.NodeFault.{NodeFault}
use Rattle.dealer_world.specs.declared.event.Event.{Event}
use Rattle.dealer_world.specs.declared.event.Event.TheVariants as event
use Rattle.dealer_world.specs.Records.{Frame}
use Rattle.dealer_world.specs.Events.{brought_by}
use Rattle.dealer_world.specs.Stepping.{View, Stepped}
use Rattle.dealer_world.specs.Unforged.{IsAmong}
use Rattle.dealer_world.specs.Promise.{HasNoForged, IsPromised}
use Rattle.dealer_world.proofs.Forging.{in_at, unforged_after as unforged_by}
use Rattle.std.specs.List.{AllByRecursion}
use Rattle.serving.specs.Turned.{KeepsPromise}
use Rattle.serving.specs.Turning.{IsSent}

brings_sent : (sent : List Frame) (number front : ℕ) (e : Event) → IsSent sent number e → AllByRecursion (IsAmong sent) (brought_by front e)
brings_sent sent number front (event.Frame from to bytes) is_sent = (in_at sent number _ is_sent, tt)
brings_sent sent number front (event.Line node seat bytes) is_sent = (tt, tt)
brings_sent sent number front (event.Tick node) is_sent = tt
brings_sent sent number front (event.Away node) is_sent = (tt, tt)
brings_sent sent number front (event.Connect node seat) is_sent = (tt, tt)
brings_sent sent number front (event.Drop node seat) is_sent = (tt, tt)
brings_sent sent number front (event.Stop node pick) is_sent = tt
brings_sent sent number front (event.Start node) is_sent = tt

-- where the frame that is given was sent, no frame is forged by it
pub unforged_after : {D : Type 0} (g : Ghosts D) (old new : View (Node D)) (e : Event) (number : ℕ) (answer : Result (Unit {0}) NodeFault)
    → Stepped g old e answer new → IsSent old.all.sent number e → HasNoForged old → HasNoForged new
unforged_after g old new e number answer stepped is_sent = unforged_by g old new e answer stepped (λ front. brings_sent old.all.sent number front e is_sent)

-- a cluster that is as it was keeps its promise
pub promise_stays : {D : Type 0} (g : Ghosts D) (old new : View (Node D)) → new ≡ old → IsPromised g new → KeepsPromise g old new
promise_stays {D} g old new same promised = record {
  promised = promised;
  unforged = λ unforged. subst HasNoForged (sym same) unforged;
  begun = ap (λ (v : View (Node D)). map (begun_of g) v.nodes) same;
}
