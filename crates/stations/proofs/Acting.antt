-- A call of a node in its process is one deed more.
use Rattle.std.proofs.Common.{◌≡◌, ◌∙◌, ◌++◌, ◌∷◌, ℕ, Bool, List, Result, Err, IsTrue, ap, sym, subst}
use Rattle.std.proofs.Math.Logic.{∥∥₁_map, ∥∥₁_elim}
use Rattle.promise_store.specs.declared.disk.Disk.{Ghosts}
use Rattle.node_rules.specs.Standings.{Place}
use Rattle.dealer_node.specs.Nodes.{Node}
use Rattle.dealer_node.specs.declared.fault.NodeFault.{NodeFault}
use Rattle.dealer_node.specs.declared.fault.NodeFault.TheVariants as fault
use Rattle.dealer_node.specs.Outs.{Told}
use Rattle.dealer_node.specs.Members.{place_at}
use Rattle.dealer_node.specs.Seeing.{member_in, runs, front_in}
use Rattle.dealer_world.specs.declared.event.Event.{Event}
use Rattle.dealer_world.specs.Events.{node_of}
use Rattle.dealer_world.specs.Stepping.{IsFor, IsGiven}
use Rattle.dealer_world.specs.Calling.{EventsAreCalls, VainEventsAreNone}
use Rattle.stations.specs.Deeds.{Deed}
use Rattle.stations.specs.Stations.{deed_by, GainsDeed, nothing, call, LeavesFile, HoldsAfter, IsTrueTo}

-- what was asked of the node before the call is what it was
pub gains_seen : (was_up up : Bool) (was front : ℕ) (e : Event) (told : Told) (answer : Result (Unit {0}) NodeFault) (old new : List Deed) → was_up ≡ up → was ≡ front
    → GainsDeed was_up was e told answer old new → GainsDeed up front e told answer old new
gains_seen was_up up was front e told answer old new is same gains =
    subst (λ (n : ℕ). GainsDeed up n e told answer old new) same (subst (λ (b : Bool). GainsDeed b was e told answer old new) is gains)

module _ {D : Type 0} (g : Ghosts D) where
  called_on : EventsAreCalls g → (place : Place) (e : Event) (old new : Node D) (told : Told) (answer : Result (Unit {0}) NodeFault) (deeds : List Deed)
      → place_at (member_in old) ≡ place → node_of e ≡ place.node → IsFor place.nodes place.setting.game.players e → IsGiven g e old new told answer → IsTrue g.is_honest
      → (answer ≡ Err fault.OutOfMemory → ⊥) → HoldsAfter g place old deeds → HoldsAfter g place new (deed_by (runs old) (front_in old) e told answer ∷ deeds)
  called_on law place e old new told answer deeds placed here is_for given honest ample at =
      let is = law place e at.s old new told answer placed here is_for honest at.seen given ample in
      record { s = is.after; seen = is.now; did = (at.s, at.did, (is.called, is.ruled)) }

  still_at : VainEventsAreNone g → (place : Place) (e : Event) (old new : Node D) (told : Told) (answer : Result (Unit {0}) NodeFault) (deeds : List Deed)
      → IsGiven g e old new told answer → IsTrue g.is_honest → answer ≡ Err fault.OutOfMemory → HoldsAfter g place old deeds → HoldsAfter g place new deeds
  still_at law place e old new told answer deeds given honest none at =
      record { s = at.s; seen = law e at.s old new told answer honest at.seen given none; did = at.did }

  -- so what is said of a station goes on holding
  pub stays_true : EventsAreCalls g → VainEventsAreNone g → (place : Place) (e : Event) (old new : Node D) (told : Told) (answer : Result (Unit {0}) NodeFault) (deeds after : List Deed)
      → ∥ (place_at (member_in old) ≡ place) ∥₁ → node_of e ≡ place.node → IsFor place.nodes place.setting.game.players e → IsGiven g e old new told answer
      → GainsDeed (runs old) (front_in old) e told answer deeds after → IsTrueTo g place old deeds → IsTrueTo g place new after
  stays_true calls none place e old new told answer deeds after at_place here is_for given (nothing vain same) true_to before left honest =
      ∥∥₁_map (true_to before (subst (λ (file : List ℕ). ∥ LeavesFile place file before ∥₁) given.stays.begun left) honest)
      (λ at. subst (λ (own : List Deed). HoldsAfter g place new (own ++ before)) (sym same) (still_at none place e old new told answer (deeds ++ before) given honest vain at))
  stays_true calls none place e old new told answer deeds after at_place here is_for given (call ample is) true_to before left honest =
      ∥∥₁_elim at_place (hlevel) (λ placed.
      ∥∥₁_map (true_to before (subst (λ (file : List ℕ). ∥ LeavesFile place file before ∥₁) given.stays.begun left) honest)
      (λ at. subst (λ (own : List Deed). HoldsAfter g place new (own ++ before)) (sym is) (called_on calls place e old new told answer (deeds ++ before) placed here is_for given honest ample at)))

  -- the node of a process that was opened is where its earlier processes left it
  pub still_at_place : (place : Place) (old new : Node D) → member_in new ≡ member_in old → ∥ (place_at (member_in old) ≡ place) ∥₁ → ∥ (place_at (member_in new) ≡ place) ∥₁
  still_at_place place old new same at_place = ∥∥₁_map at_place (λ placed. ap place_at same ∙ placed)
