-- What the log of a node's process gets, over its start and all its turns.
use Rattle.std.proofs.Common.{◌≡◌, inl, inr, ℕ, Bool, true, false, List, [], ◌∷◌, ◌++◌, refl, sym, ap, subst, ◌∙◌}
use Rattle.std.specs.Prelude.{Result, Ok, Err, OnOk, IsTrue}
use Rattle.std.proofs.lemmas.List.{append-nil}
use Rattle.std.proofs.Math.Logic.{∥∥₁_map}
use Rattle.promise_store.specs.declared.disk.Disk.{Ghosts}
use Rattle.dealer_kind.specs.Plans.{Plan}
use Rattle.node_rules.specs.Standings.{place_of}
use Rattle.dealer_node.specs.Nodes.{Node}
use Rattle.dealer_node.specs.Seeing.{begun_of}
use Rattle.node_wires.specs.Passages.{logged_in}
use Rattle.node_wires.specs.declared.wire.Wire.{Ghosts as OfWire}
use Rattle.stations.specs.Deeds.{Deed}
use Rattle.stations.specs.Stations.{LeavesFile, known_place}
use Rattle.node_service.specs.Ending.{is_well, IsOverAt}
use Rattle.node_service.specs.Going.{GoesOn as WentOn}
use Rattle.node_service.specs.Logging.{IsOnce, IsFresh, IsBegun, ShowsOneLog, HasOneLog, IsAcceptedOver}
use Rattle.node_service.specs.Served.{Served}
use Rattle.node_service.specs.Showing.{shown_log, LogGains}
use Rattle.node_service.specs.declared.outcome.Outcome.{Outcome}
use Rattle.node_service.specs.declared.outcome.Outcome.TheVariants as leaves
use Rattle.node_service.specs.declared.server.NodeServer.{NodeServer}
use Rattle.node_service.specs.declared.server_notice.ServerNotice.{ServerNotice}
use Rattle.node_service.proofs.Going.{nothing_done}
use Rattle.node_service.specs.Serving.{served_of}
use Rattle.node_runs.specs.OneLog.{IsLeftBy, WritesItsLog, WritesAcceptedLog}
use Rattle.node_runs.specs.Running as run
use Rattle.node_runs.specs.Running.{Turns, EndsBy, GoesOnTo, by_turn, unkept, by_count}
use Rattle.node_runs.specs.declared.node_end.NodeEnd.{NodeEnd}
use Rattle.node_runs.proofs.Runs.{well_ended}

-- a run that ends well was begun well
well_last : (outcome : Outcome) (count : ℕ) (waiting told : List ServerNotice) (answer : Result (Unit {0}) NodeEnd) → EndsBy outcome count waiting told answer → OnOk answer (is_well outcome ≡ true)
well_last outcome count waiting told answer (by_turn same other is) = well_ended outcome answer is
well_last outcome count waiting told answer (unkept before more peer life fault) = tt
well_last outcome count waiting told answer (by_count before more all) = tt

module _ {D W : Type 0} {disk : Ghosts D} {wire : OfWire W} where
  well_first : (started : NodeServer D W disk wire) (first : Outcome) (count : ℕ) (moments : List ℕ) (waiting : List ServerNotice) (outcome : Outcome) (last : NodeServer D W disk wire)
      → Turns started first count moments waiting outcome last → is_well outcome ≡ true → is_well first ≡ true
  well_first started first count moments waiting outcome last run.Turns.none well = well
  well_first started first count moments waiting outcome last (run.Turns.one earlier sooner before was next left turns goes why) well = well_first started first earlier sooner before leaves.GoesOn was turns refl

  pub well_begun : (started : NodeServer D W disk wire) (first outcome : Outcome) (count : ℕ) (moments : List ℕ) (waiting told : List ServerNotice) (last : NodeServer D W disk wire) (answer : Result (Unit {0}) NodeEnd)
      → Turns started first count moments waiting outcome last → EndsBy outcome count waiting told answer → OnOk answer (is_well first ≡ true)
  well_begun started first outcome count moments waiting told last (Ok done) turns ends = well_first started first count moments waiting outcome last turns (well_last outcome count waiting told (Ok done) ends)
  well_begun started first outcome count moments waiting told last (Err why) turns ends = tt

  -- where the start left no turn to do the process is as it left it
  pub as_started : (started : NodeServer D W disk wire) (first outcome : Outcome) (count : ℕ) (moments : List ℕ) (waiting : List ServerNotice) (last : NodeServer D W disk wire)
      → Turns started first count moments waiting outcome last
      → is_well first ≡ false → served_of last ≡ served_of started
  as_started started first outcome count moments waiting last run.Turns.none ill = refl
  as_started started first outcome count moments waiting last (run.Turns.one earlier sooner before was next left turns goes why) ill =
      let never : true ≡ false = sym (well_first started first earlier sooner before leaves.GoesOn was turns refl) ∙ ill in absurd (cc)

all_gained : (before after : Bool) (shown log new : List ℕ) → after ≡ false → LogGains before after shown log new → new ≡ log ++ shown
all_gained false false shown log new none gains = gains
all_gained false true shown log new none gains = absurd (cc)
all_gained true after shown log new none gains = let never : true ≡ false = sym gains.0 ∙ none in absurd (cc)

no_more : (given rest log : List ℕ) → [] ≡ given ++ rest → log ++ given ≡ log
no_more [] rest log is = append-nil log
no_more (x ∷ given) rest log is = absurd (cc)

nothing_gained : (before after : Bool) (log new : List ℕ) → LogGains before after [] log new → new ≡ log
nothing_gained false false log new gains = gains ∙ append-nil log
nothing_gained false true log new gains = gains.4 ∙ no_more gains.0 gains.1 log gains.2
nothing_gained true after log new gains = gains.1

module _ {D : Type 0} (g : Ghosts D) where
  -- once a process was started it stays so
  once_on : (started new : Served (Node D)) → GoesOnTo g started new → IsOnce started → IsOnce new
  once_on started new goes once = (goes started (nothing_done started)).once once

  shown_since : (old new : Served (Node D)) (goes : WentOn g [] old new) → IsFresh old.look → shown_log goes.since ≡ shown_log new.look.deeds
  shown_since old new goes fresh = ap shown_log (sym (goes.deeds ∙ (ap (λ (m : List Deed). goes.since ++ m) fresh.deeds ∙ append-nil goes.since)))

  log_gained : (old new : Served (Node D)) → WentOn g [] old new → IsFresh old.look → LogGains old.log_failed new.log_failed (shown_log new.look.deeds) (logged_in old.passed) (logged_in new.passed)
  log_gained old new goes fresh = subst (λ (m : List ℕ). LogGains old.log_failed new.log_failed m (logged_in old.passed) (logged_in new.passed)) (shown_since old new goes fresh) goes.log

  left_to : (old new : Served (Node D)) (before : List Deed) → WentOn g [] old new → IsLeftBy g old before → IsLeftBy g new before
  left_to old new before goes left =
      subst (λ (file : List ℕ). LeavesFile (known_place new.look) file before) (sym goes.begun)
      (subst (λ (n : ℕ). LeavesFile (place_of new.look.config n) (begun_of g old.look.node) before) (sym goes.number)
      (subst (λ (plan : Plan). LeavesFile (place_of plan old.look.number) (begun_of g old.look.node) before) (sym goes.config) left))

  -- a process that was started once writes the one log, and one whose start failed nothing
  pub writes_its_log : (old started new : Served (Node D)) (first : Outcome) → WentOn g [] old new → GoesOnTo g started new → HasOneLog g new.look → IsBegun first started → (is_well first ≡ false → new ≡ started)
      → IsFresh old.look → IsTrue g.is_honest → (before : List Deed) → IsLeftBy g old before → WritesItsLog g old new
  writes_its_log old started new first goes onwards law (inl once) ends fresh honest before left =
      inl (∥∥₁_map (law (once_on started new onwards once).1 honest before (left_to old new before goes left)) (λ (one : ShowsOneLog g new.look). record {
        s = one.s;
        seen = one.seen;
        whole = shown_log new.look.deeds;
        log = one.log;
        written = log_gained old new goes fresh;
      }))
  writes_its_log old started new first goes onwards law (inr failed) ends fresh honest before left =
      let none : shown_log new.look.deeds ≡ [] = ap (λ (s : Served (Node D)). shown_log s.look.deeds) (ends failed.0) ∙ failed.1 in
      inr (
        none,
        nothing_gained old.log_failed new.log_failed (logged_in old.passed) (logged_in new.passed)
            (subst (λ (m : List ℕ). LogGains old.log_failed new.log_failed m (logged_in old.passed) (logged_in new.passed)) none (log_gained old new goes fresh)),
      )

  once_well : (started : Served (Node D)) (first : Outcome) → IsBegun first started → is_well first ≡ true → IsOnce started
  once_well started first (inl once) well = once
  once_well started first (inr failed) well = let never : true ≡ false = sym well ∙ failed.0 in absurd (cc)

  pub writes_accepted : (old started new : Served (Node D)) (first : Outcome) (answer : Result (Unit {0}) NodeEnd) → WentOn g [] old new → GoesOnTo g started new → IsAcceptedOver g new.look → IsBegun first started
      → OnOk answer (is_well first ≡ true) → OnOk answer (new.log_failed ≡ false) → OnOk answer (IsOverAt new.look.node) → IsFresh old.look → IsTrue g.is_honest → (before : List Deed) → IsLeftBy g old before
      → OnOk answer (WritesAcceptedLog old new)
  writes_accepted old started new first (Ok done) goes onwards law begun well log over fresh honest before left = record {
    text = shown_log new.look.deeds;
    written = all_gained old.log_failed new.log_failed (shown_log new.look.deeds) (logged_in old.passed) (logged_in new.passed) log (log_gained old new goes fresh);
    accepted = law (once_on started new onwards (once_well started first begun well)).1 honest before (left_to old new before goes left) over;
  }
  writes_accepted old started new first (Err why) goes onwards law begun well log over fresh honest before left = tt
