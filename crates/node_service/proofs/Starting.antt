-- What a start makes of a process that has done nothing.
use Rattle.std.proofs.Common.{◌≡◌, inl, inr, ℕ, Bool, true, false, List, [], ◌∷◌, refl, sym, ap, subst, ◌∙◌}
use Rattle.std.specs.Prelude.{Option, Some, None, IsSome, Result, Ok, Err}
use Rattle.promise_store.specs.declared.disk.Disk.{Ghosts}
use Rattle.dealer_node.specs.Nodes.{Node}
use Rattle.dealer_node.specs.Outs.{Told}
use Rattle.dealer_node.specs.Seeing.{runs, front_in}
use Rattle.dealer_node.specs.declared.fault.NodeFault.{NodeFault}
use Rattle.dealer_node.specs.declared.fault.NodeFault.TheVariants.{OutOfMemory}
use Rattle.dealer_world.specs.Stepping.{begins_by_event}
use Rattle.dealer_world.specs.declared.event.Event.TheVariants as event
use Rattle.stations.specs.Deeds.{Deed}
use Rattle.stations.specs.Looking.{look_of}
use Rattle.stations.specs.Stations.{Look, deed_by}
use Rattle.node_service.specs.Called.{Calls}
use Rattle.node_service.specs.Ending.{is_well, EndsBy, IsRefusal}
use Rattle.node_service.specs.Logging.{IsFresh, IsBegun}
use Rattle.node_service.specs.Served.{Served}
use Rattle.node_service.specs.Showing.{added, shown_log}
use Rattle.node_service.specs.declared.local_node.LocalNode.{LocalNode}
use Rattle.node_service.specs.declared.outcome.Outcome.{Outcome}

pub not_true : (b : Bool) → (b ≡ true → ⊥) → b ≡ false
not_true true never = absurd (never refl)
not_true false never = refl

-- a node that runs isn't down
not_fresh : {D : Type 0} (look : Look (Node D)) → runs look.node ≡ false → runs look.node ≡ true → ⊥
not_fresh look down up = let never : true ≡ false = sym up ∙ down in cc

no_fault : IsSome {T = NodeFault} None → ⊥
no_fault is = cc

-- where nothing ends the process its start wasn't refused
pub not_refused : (node : ℕ) (answer : Option (Result (Unit {0}) NodeFault)) (fault : Option NodeFault) → (EndsBy (event.Start node) answer → IsSome fault) → fault ≡ None → IsRefusal answer → ⊥
not_refused node answer fault ends none refused = no_fault (subst IsSome none (ends (refused, inl refl)))

module _ {D : Type 0} where
  -- nothing was done
  pub unbegun : (outcome : Outcome) (served : Served (Node D)) → (is_well outcome ≡ true → runs served.look.node ≡ true) → IsFresh served.look → IsBegun outcome served
  unbegun outcome served well fresh = inr (not_true (is_well outcome) (λ is. not_fresh served.look fresh.down (well is)), ap shown_log fresh.deeds)

  pub begun : {disk : Ghosts D} (node : ℕ) (answer : Option (Result (Unit {0}) NodeFault)) (outcome : Outcome) (old new : LocalNode D disk) (served : Served (Node D)) → Calls (event.Start node) answer old new
      → (is_well outcome ≡ true → runs (look_of new.station).node ≡ true) → (IsRefusal answer → is_well outcome ≡ true → ⊥) → served.look ≡ look_of new.station → served.started ≡ new.is_started → IsFresh (look_of old.station)
      → IsBegun outcome served
  begun node None outcome old new served calls well refused look started fresh =
      unbegun outcome served (λ is. ap (λ (l : Look (Node D)). runs l.node) look ∙ well is) (subst (λ (l : Look (Node D)). IsFresh l) (sym (look ∙ calls.did)) fresh)
  begun node (Some (Ok done)) outcome old new served calls well refused look started fresh =
      elim calls.did as (λ _. IsBegun outcome served) [
        | inl none ↦ let never : Ok done ≡ Err OutOfMemory = none.0 in absurd (cc)
        | inr one ↦
            inl (
              started ∙ calls.started,
              record {
                later = [];
                first = deed_by (runs (look_of old.station).node) (front_in (look_of old.station).node) (event.Start node) one.0 (Ok done);
                deeds_are = ap (λ (l : Look (Node D)). l.deeds) look
                    ∙ (one.1.0 ∙ ap (λ (m : List Deed). deed_by (runs (look_of old.station).node) (front_in (look_of old.station).node) (event.Start node) one.0 (Ok done) ∷ m) fresh.deeds);
                begins = ap (λ (up : Bool). begins_by_event up (event.Start node) (Ok done)) fresh.down;
                no_other = tt;
              },
            )
      ]
  begun node (Some (Err why)) outcome old new served calls well refused look started fresh =
      elim calls.did as (λ _. IsBegun outcome served) [
        | inl none ↦ inr (not_true (is_well outcome) (refused tt), ap (λ (l : Look (Node D)). shown_log l.deeds) look ∙ ap shown_log (none.1 ∙ fresh.deeds))
        | inr one ↦
            inr (
              not_true (is_well outcome) (refused tt),
              ap (λ (l : Look (Node D)). shown_log l.deeds) look
                  ∙ (ap shown_log (one.1.0 ∙ ap (λ (m : List Deed). deed_by (runs (look_of old.station).node) (front_in (look_of old.station).node) (event.Start node) one.0 (Err why) ∷ m) fresh.deeds)
                  ∙ ap (λ (t : Told). added (deed_by (runs (look_of old.station).node) (front_in (look_of old.station).node) (event.Start node) t (Err why)).made.texts) (one.1.1 refl)),
            )
      ]
