-- What a cluster's step never answers, and where its frames go.
use Rattle.std.proofs.Common.{◌≡◌, ℕ, ◌<◌, inl, inr, Bool, List, ◌++◌, map, length, get_or, Result, Ok, Err, refl, ap, sym, ◌∙◌, subst}
use Rattle.std.specs.Prelude.{IsErr}
use Rattle.std.proofs.Math.Logic.{∥∥₁_elim}
use denote.Struct.Props.{props}
use Rattle.std.proofs.lemmas.List.{append-nil, get_or_default}
use Rattle.promise_store.specs.declared.disk.Disk.{Ghosts}
use Rattle.protocol_model.specs.Stores.{Store, empty_store}
use Rattle.node_rules.specs.Standings.{Place, Standing, place_of, front_of, stopped}
use Rattle.node_rules.specs.Sending.{Frame as Outgoing}
use Rattle.node_rules.specs.Showing.{Piece as Shown, SeatFault}
use Rattle.node_rules.specs.Turns.{Refusal, Down, Spent, BadFrame, Conflict, NothingToAct}
use Rattle.node_rules.specs.Calls.{Call}
use Rattle.node_rules.specs.Rules.{IsTurn}
use Rattle.node_rules.specs.Called.{Ends, took, refused, failed, unchanged}
use Rattle.dealer_node.specs.Nodes.{Node}
use Rattle.dealer_node.specs.declared.fault.NodeFault.{NodeFault}
use Rattle.dealer_node.specs.declared.fault.NodeFault.TheVariants as fault
use Rattle.dealer_node.specs.Outs.{Told, nothing_told}
use Rattle.dealer_node.specs.Members.{place_at}
use Rattle.dealer_node.specs.Seeing.{member_in, runs, front_in, IsSeen}
use Rattle.dealer_node.specs.Taking.{Answered, refusal_fault}
use Rattle.dealer_world.specs.declared.event.Event.{Event}
use Rattle.dealer_world.specs.Records.{Record, Frame, Arrived}
use Rattle.dealer_world.specs.Unforged.{IsUnforged}
use Rattle.dealer_world.specs.Views.{grown, placed_at}
use Rattle.dealer_world.specs.Runs.{arrived_at}
use Rattle.dealer_world.specs.Recordings.{frame_by, made_by}
use Rattle.dealer_world.specs.Events.{node_of, call_of}
use Rattle.dealer_world.specs.RuleRuns.{IsAddressed, RunsSendToNodes, RunsNeverConflict}
use Rattle.dealer_world.specs.Stepping.{View, Gains, nothing, call as gained, Stepped, arrived_by_event, begins_by_event}
use Rattle.dealer_world.specs.Promise.{IsForMatch, AreAddressed, NeverConflicts}
use Rattle.dealer_world.specs.Ruling.{AreAtPlaces, IsBehind}
use Rattle.dealer_world.proofs.Ruled.{err_is, arrives, front_seen, same_count, seen_at, seated}

addressed_prop : (n : ℕ) (frame : Frame) → IsProp (IsAddressed n frame)
addressed_prop n frame = hlevel props

-- a fault that is no other
fault_of : (refusal : Refusal) → refusal_fault refusal ≡ fault.Conflict → (store : Store) × (refusal ≡ Conflict store)
fault_of Down e = absurd cc
fault_of Spent e = absurd cc
fault_of (BadFrame why) e = absurd cc
fault_of (Conflict store) e = (store, refl)
fault_of NothingToAct e = absurd cc

-- a call that was answered so was refused so
pub refused_so : (place : Place) (s : Standing) (called : Call) (after : Standing) (frames : List Outgoing) (shown : List Shown) (faults : List SeatFault) (answer : Result (Unit {0}) NodeFault)
    → answer ≡ Err fault.Conflict → (ends : Ends place s called after frames shown) → Answered place s called after frames shown ends faults answer
    → (store : Store) × IsTurn place s called (Err (Conflict store))
refused_so place s called after frames shown faults answer is (took turn rule a b c) (told, ok) = absurd (let e : Ok tt ≡ Err fault.Conflict = sym ok ∙ is in cc)
refused_so place s called after frames shown faults answer is (refused refusal rule a b c) (told, err) =
    let f = fault_of refusal (err_is _ _ answer err is) in (f.0, subst (λ (why : Refusal). IsTurn place s called (Err why)) f.1 rule)
refused_so place s called after frames shown faults answer is (failed outcome begun ran rule d a b c) (told, err) = absurd (let e = err_is _ _ answer err is in cc)
refused_so place s called after frames shown faults answer is (unchanged a b c) (told, inl none) = absurd (let e = err_is _ _ answer none is in cc)
refused_so place s called after frames shown faults answer is (unchanged a b c) (told, inr (start, err)) = absurd (let e = err_is _ _ answer err is in cc)

pub all_is : {N : Type 0} (e : Event) (is_up : Bool) (front : ℕ) (told : Told) (old new : View N) (answer : Result (Unit {0}) NodeFault) → Gains e is_up front told old new answer → (answer ≡ Err fault.OutOfMemory → ⊥)
    → new.all ≡ grown old.all (node_of e) (arrived_by_event is_up front e) (made_by (node_of e) told (begins_by_event is_up e answer))
all_is e is_up front told old new answer (nothing a none_left all last) ample = absurd (ample none_left)
all_is e is_up front told old new answer (gained a some all last) ample = all

is_an_err : (answer : Result (Unit {0}) NodeFault) (why : NodeFault) → answer ≡ Err why → IsErr answer
is_an_err answer why is = subst (λ (r : Result (Unit {0}) NodeFault). IsErr r) (sym is) refl

-- no frame was forged, by what arrived neither, where the call sent nothing
unforged_with : (old : Record) (i : ℕ) (told : Told) (began : Bool) (arrived others : List Arrived) → told ≡ nothing_told → arrived ≡ others
    → IsUnforged (grown old i arrived (made_by i told began)).sent (grown old i arrived (made_by i told began)).delivered
    → IsUnforged old.sent (old.delivered ++ map (placed_at (length old.sent)) others)
unforged_with old i told began arrived others nothing_is same unforged =
    subst (λ (sent : List Frame). IsUnforged sent (old.delivered ++ map (placed_at (length old.sent)) others)) (append-nil old.sent)
    (subst (λ (t : Told). IsUnforged (old.sent ++ map (frame_by i) t.frames) (old.delivered ++ map (placed_at (length old.sent)) others)) nothing_is
    (subst (λ (came : List Arrived). IsUnforged (old.sent ++ map (frame_by i) told.frames) (old.delivered ++ map (placed_at (length old.sent)) came)) same unforged))

module _ {D : Type 0} (g : Ghosts D) where
  pub addressed : (view : View (Node D)) → RunsSendToNodes → IsBehind g view.opened view.config view.nodes view.all → AreAddressed g view
  addressed view law behind before goes honest unforged frame sent =
      ∥∥₁_elim (behind before goes honest) (addressed_prop (length view.config.sources) frame)
      (λ ruled. law view.config.setting (length view.config.sources) before view.config.sources _ ruled.runs unforged frame sent)

  -- what a seen node shows of itself
  abbrev pub TellsUp : Type 0
  TellsUp = (node : Node D) (s : Standing) → IsSeen g node s → runs node ≡ s.up

  pub never_conflicts : (old new : View (Node D)) (e : Event) (answer : Result (Unit {0}) NodeFault) → RunsNeverConflict → TellsUp → ∥ AreAtPlaces old.config old.nodes ∥₁
      → length old.nodes ≡ length old.config.sources → IsForMatch old.config e → IsBehind g old.opened old.config old.nodes old.all → Stepped g old e answer new → NeverConflicts g old answer new
  never_conflicts old new e answer law tells at_places count is_for behind stepped before goes honest unforged is =
      ∥∥₁_elim at_places (hlevel) (λ each. ∥∥₁_elim (behind before goes honest) (hlevel) (λ ruled.
      let i : ℕ = node_of e in
      let d : Standing = stopped (place_of old.config i) empty_store empty_store in
      let s : Standing = get_or ruled.standings i d in
      let below : i < length ruled.standings = subst (λ n. i < n) (same_count g old.nodes ruled.standings ruled.seen) stepped.within in
      let seen : IsSeen g stepped.before s = subst (λ node. IsSeen g node s) stepped.at (seen_at g old.nodes ruled.standings i stepped.before d stepped.within ruled.seen) in
      let placed : place_at (member_in stepped.before) ≡ place_of old.config i = ap (λ (n : Node D). place_at (member_in n)) (sym stepped.at) ∙ each i stepped.before stepped.within in
      let t = stepped.given.taken s honest seen in
      let takes = t.1 in
      let called : Call = call_of t.0 e in
      let moved = subst (λ (p : Place). (ends : Ends p s called takes.after takes.frames takes.shown) × Answered p s called takes.after takes.frames takes.shown ends takes.faults answer)
      placed (takes.ends, takes.answered) in
      let turn = refused_so (place_of old.config i) s called takes.after takes.frames takes.shown takes.faults answer is moved.0 moved.1 in
      let ample : answer ≡ Err fault.OutOfMemory → ⊥ = (λ none. let other = err_is _ _ answer is none in cc) in
      let all = all_is e (runs stepped.before) (front_in stepped.before) stepped.told old new answer stepped.gains ample in
      let came : arrived_by_event (runs stepped.before) (front_in stepped.before) e ≡ arrived_at s.up i (front_of s) called =
      arrives (runs stepped.before) (front_in stepped.before) e t.0 ∙ (ap (λ u. arrived_at u i (front_in stepped.before) called) (tells stepped.before s seen)
      ∙ ap (λ n. arrived_at s.up i n called) (front_seen g stepped.before s seen)) in
      let clean = unforged_with old.all i stepped.told (begins_by_event (runs stepped.before) e answer) (arrived_by_event (runs stepped.before) (front_in stepped.before) e) (arrived_at s.up i (front_of s) called)
      (stepped.given.stays.unmade (is_an_err answer fault.Conflict is)) came (subst (λ (now : Record). IsUnforged now.sent now.delivered) all unforged) in
      law old.config.setting (length old.config.sources) before old.config.sources (record { standings = ruled.standings; now = old.all }) i s called turn.0 ruled.runs below
      (get_or_default ruled.standings i s d below) (seated (length old.config.sources) old.config.setting.game.players e t.0 is_for) clean turn.1))
