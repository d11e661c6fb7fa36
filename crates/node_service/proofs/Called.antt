-- What a process's node did by one call.
use Rattle.std.proofs.Common.{◌≡◌, inl, inr, Bool, true, refl, ◌∙◌}
use Rattle.std.specs.Prelude.{Option, Some, None, IfSome, IsNone, Result}
use Rattle.promise_store.specs.declared.disk.Disk.{Ghosts}
use Rattle.dealer_node.specs.Nodes.{Node}
use Rattle.dealer_node.specs.Outs.{Told}
use Rattle.dealer_node.specs.declared.fault.NodeFault.{NodeFault}
use Rattle.dealer_world.specs.declared.event.Event.{Event}
use Rattle.dealer_world.specs.declared.event.Event.TheVariants as event
use Rattle.stations.specs.Stations.{Look, Acts, nothing, call}
use Rattle.node_service.specs.Called.{Did}
use Rattle.node_service.specs.Calling.{started_after}

-- a node that was started stays so
pub started_stays : (e : Event) (answer : Option (Result (Unit {0}) NodeFault)) (before after : Bool) → after ≡ started_after e answer before → before ≡ true → after ≡ true
started_stays e None before after is was = is ∙ was
started_stays (event.Start node) (Some answer) before after is was = is
started_stays (event.Stop node pick) (Some answer) before after is was = is ∙ was
started_stays (event.Frame from to bytes) (Some answer) before after is was = is ∙ was
started_stays (event.Line node seat bytes) (Some answer) before after is was = is ∙ was
started_stays (event.Tick node) (Some answer) before after is was = is ∙ was
started_stays (event.Away node) (Some answer) before after is was = is ∙ was
started_stays (event.Connect node seat) (Some answer) before after is was = is ∙ was
started_stays (event.Drop node seat) (Some answer) before after is was = is ∙ was

module _ {D : Type 0} (g : Ghosts D) where
  -- a call of a station does one thing more, or nothing
  pub did_by : (e : Event) (told : Told) (answer : Option (Result (Unit {0}) NodeFault)) (old new : Look (Node D)) → IfSome answer (λ a. Acts g e told a old new) → (IsNone answer → new ≡ old) → Did e answer old new
  did_by e told None old new acts same = same refl
  did_by e told (Some answer) old new acts same =
      elim acts.gains as (λ _. Did e (Some answer) old new) [
        | nothing no_memory is ↦ inl (no_memory, is)
        | call given is ↦ inr (told, (is, λ failed. acts.given.stays.unmade failed))
      ]
