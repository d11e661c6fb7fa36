-- What a process leaves to do is for its reason.
use Rattle.std.proofs.Common.{◌≡◌, Bool, true, false, if◌then◌else◌, Option, Some, None, refl, sym, ap, subst, ◌∙◌}
use Rattle.promise_store.specs.declared.disk.Disk.{Ghosts}
use Rattle.dealer_node.specs.declared.fault.NodeFault.{NodeFault}
use Rattle.node_wires.specs.declared.wire.Wire.{Ghosts as OfWire}
use Rattle.node_service.specs.Ending.{is_well, is_meant, outcome_of, IsFault}
use Rattle.node_service.specs.Meaning.{IsMeant, answered, life_lost, foreign}
use Rattle.node_service.specs.Serving.{fault_in, ending_in, outcome_in}
use Rattle.node_service.specs.declared.outcome.Outcome.{Outcome}
use Rattle.node_service.specs.declared.outcome.Outcome.TheVariants as outcome
use Rattle.node_service.specs.declared.server.NodeServer.{NodeServer}

-- where it goes on nothing ends it
pub goes_on : (f r o l : Bool) (fault : Option NodeFault) (log over : Bool) → outcome_of f r o l fault log over ≡ outcome.GoesOn → (fault ≡ None) × ((log ≡ false) × (over ≡ false))
goes_on true r o l fault log over is = cc
goes_on false true o l fault log over is = cc
goes_on false false true l fault log over is = cc
goes_on false false false true fault log over is = cc
goes_on false false false false (Some fault) log over is = cc
goes_on false false false false None true over is = cc
goes_on false false false false None false true is = cc
goes_on false false false false None false false is = (refl, (refl, refl))

-- and it is over where that is noted, and nothing else ends it
pub over_behind : (f r o l : Bool) (fault : Option NodeFault) (log over : Bool) → outcome_of f r o l fault log false ≡ outcome.GoesOn → outcome_of f r o l fault log over ≡ (if over then outcome.Over else outcome.GoesOn)
over_behind true r o l fault log over is = absurd cc
over_behind false true o l fault log over is = absurd cc
over_behind false false true l fault log over is = absurd cc
over_behind false false false true fault log over is = absurd cc
over_behind false false false false (Some fault) log over is = absurd cc
over_behind false false false false None true over is = absurd cc
over_behind false false false false None false true is = refl
over_behind false false false false None false false is = refl

-- what ends it by a fault does so whether it is over or not
pub fault_stays : (f r o l : Bool) (fault : Option NodeFault) (log over : Bool) → (outcome_of f r o l fault log false ≡ outcome.GoesOn → ⊥) → outcome_of f r o l fault log over ≡ outcome_of f r o l fault log false
fault_stays true r o l fault log over ends = refl
fault_stays false true o l fault log over ends = refl
fault_stays false false true l fault log over ends = refl
fault_stays false false false true fault log over ends = refl
fault_stays false false false false (Some fault) log over ends = refl
fault_stays false false false false None true over ends = refl
fault_stays false false false false None false over ends = absurd (ends refl)

module _ {D W : Type 0} {disk : Ghosts D} {wire : OfWire W} where
  outcome_behind : (server : NodeServer D W disk wire) (over : Bool) → ending_in server ≡ outcome.GoesOn → server.is_over ≡ over → outcome_in server ≡ (if over then outcome.Over else outcome.GoesOn)
  outcome_behind server over is is_over =
      over_behind server.is_foreign server.desk.company.is_replaced server.desk.company.is_older server.desk.company.is_life_lost (fault_in server) server.desk.log_failed server.is_over is ∙ ap (λ (b : Bool). if b then outcome.Over else outcome.GoesOn) is_over

  -- what is left to do of one that goes on, or whose match is over, is as it stands
  pub left_as_it_is : (server : NodeServer D W disk wire) (result : Outcome) → is_well result ≡ true → (result ≡ outcome.GoesOn → (ending_in server ≡ outcome.GoesOn) × (server.is_over ≡ false)) → (result ≡ outcome.Over → server.is_over ≡ true)
      → (result ≡ outcome.Over → ending_in server ≡ outcome.GoesOn) → result ≡ outcome_in server
  left_as_it_is server outcome.GoesOn well further over behind = sym (outcome_behind server false (further refl).0 (further refl).1)
  left_as_it_is server outcome.Over well further over behind = sym (outcome_behind server true (behind refl) (over refl))
  left_as_it_is server outcome.StoreReplaced well further over behind = cc
  left_as_it_is server outcome.StoreOlder well further over behind = cc
  left_as_it_is server (outcome.Failed fault) well further over behind = cc
  left_as_it_is server outcome.LogFailed well further over behind = cc

  meant_by : (server : NodeServer D W disk wire) (f r o l : Bool) (fault : Option NodeFault) (log : Bool) → server.is_foreign ≡ f → server.desk.company.is_replaced ≡ r → server.desk.company.is_older ≡ o
      → server.desk.company.is_life_lost ≡ l → fault_in server ≡ fault → server.desk.log_failed ≡ log → is_meant server.desk.member.was_needed fault ≡ true → IsFault (outcome_of f r o l fault log false) → IsMeant server (outcome_of f r o l fault log false)
  meant_by server true r o l fault log a b c d e h m is = foreign refl a
  meant_by server false true o l fault log a b c d e h m is = b
  meant_by server false false true l fault log a b c d e h m is = c
  meant_by server false false false true fault log a b c d e h m is = life_lost refl d
  meant_by server false false false false (Some fault) log a b c d e h m is = answered e m
  meant_by server false false false false None true a b c d e h m is = h
  meant_by server false false false false None false a b c d e h m is = absurd is

  pub ending_is_meant : (server : NodeServer D W disk wire) (result : Outcome) → is_meant server.desk.member.was_needed server.desk.member.fault ≡ true → result ≡ ending_in server → IsFault result → IsMeant server result
  ending_is_meant server result meant is fault = subst (IsMeant server) (sym is) (meant_by server _ _ _ _ _ _ refl refl refl refl refl refl meant (subst IsFault is fault))
