-- A view that a cluster reached by events has what each cluster has.
use Rattle.std.proofs.Common.{◌≡◌, ℕ, List, [], ◌∷◌, ◌++◌, map, length, Result, IsTrue, refl, ap, sym, ◌∙◌, subst, length-set}
use Rattle.std.proofs.Math.Logic.{∥∥₁_elim}
use Rattle.std.specs.Coded.{le_prop}
use Rattle.std.specs.List.{All}
use Rattle.std.proofs.lemmas.List.Elements.{All-same}
use Rattle.promise_store.specs.declared.disk.Disk.{Ghosts}
use Rattle.dealer_kind.specs.Plans.{Plan}
use Rattle.dealer_node.specs.Nodes.{Node}
use Rattle.dealer_node.specs.declared.fault.NodeFault.{NodeFault}
use Rattle.dealer_node.specs.declared.fault.NodeFault.TheVariants as fault
use Rattle.dealer_kind.specs.Kind.{Setting}
use Rattle.dealer_kind.specs.declared.source.Source.{Source}
use Rattle.dealer_node.specs.Seeing.{runs, front_in, begun_of}
use Rattle.dealer_world.specs.declared.event.Event.{Event}
use Rattle.dealer_world.specs.Records.{Record}
use Rattle.dealer_world.specs.Events.{node_of}
use Rattle.dealer_world.specs.Views.{grown, placed_at}
use Rattle.dealer_world.specs.Recordings.{frame_by, made_by}
use Rattle.dealer_world.specs.Headline.{Era}
use Rattle.dealer_world.specs.Stepping.{View, Gains, nothing, call, Stepped, Ran, none, more, arrived_by_event, begins_by_event}
use Rattle.dealer_world.specs.Unforged.{IsUnforged, ArePlaced}
use Rattle.dealer_world.specs.RuleRuns.{State, RunsTo, fresh, step, opened, RunsNeverConflict}
use Rattle.dealer_world.specs.Ruling.{AreAtPlaces, GoesOn, IsBehind}
use Rattle.dealer_world.specs.Promise.{IsForMatch, GoesOnFrom, HasNoForged, WasReached, NoneIsAnswered, NoneConflicts}
use Rattle.dealer_world.proofs.Saying.{unforged_before, placed_after}
use Rattle.dealer_world.proofs.Each.{all_front, all_last}
use Rattle.dealer_world.proofs.Advancing.{still_at_places, same_begun, behind_on, behind_still}
use Rattle.dealer_world.proofs.Answering.{TellsUp, never_conflicts}

module _ {D : Type 0} (g : Ghosts D) where
  -- what holds of every cluster
  pub record IsCluster (view : View (Node D)) : Type 0 where
    pub count : length view.nodes ≡ length view.config.sources
    pub at_places : ∥ AreAtPlaces view.config view.nodes ∥₁
    pub behind : IsBehind g view.opened view.config view.nodes view.all

  -- what no event changes
  pub record IsOfOne (first last : View (Node D)) : Type 0 where
    pub config : last.config ≡ first.config
    pub opened : last.opened ≡ first.opened
    pub begun : map (begun_of g) last.nodes ≡ map (begun_of g) first.nodes

  pub step_of_one : (old new : View (Node D)) (e : Event) (answer : Result (Unit {0}) NodeFault) → Stepped g old e answer new → IsOfOne old new
  step_of_one old new e answer stepped = record {
    config = stepped.same_config;
    opened = stepped.same_opened;
    begun = ap (map (begun_of g)) stepped.others ∙ same_begun g old.nodes (node_of e) stepped.before stepped.after stepped.at stepped.given.stays.begun;
  }

  -- the record with the event's call
  abbrev grew : {old new : View (Node D)} {e : Event} {answer : Result (Unit {0}) NodeFault} → Stepped g old e answer new → Record
  grew {old} {new} {e} {answer} stepped =
      grown old.all (node_of e) (arrived_by_event (runs stepped.before) (front_in stepped.before) e) (made_by (node_of e) stepped.told (begins_by_event (runs stepped.before) e answer))

  behind_by : (old new : View (Node D)) (e : Event) (answer : Result (Unit {0}) NodeFault) → TellsUp g → IsCluster old → IsForMatch old.config e → (stepped : Stepped g old e answer new)
      → IsBehind g old.opened old.config new.nodes new.all
  behind_by old new e answer tells kept is_for stepped = by_gain stepped.gains
    where
      by_gain : Gains e (runs stepped.before) (front_in stepped.before) stepped.told old new answer → IsBehind g old.opened old.config new.nodes new.all
      by_gain (nothing _ absent all last) =
          subst (λ (r : Record). IsBehind g old.opened old.config new.nodes r) (sym all)
          (subst (λ (nodes : List (Node D)). IsBehind g old.opened old.config nodes old.all) (sym stepped.others)
          (behind_still g old.opened old.config old.nodes e stepped.before stepped.after stepped.told answer old.all kept.count is_for stepped.at stepped.given absent kept.behind))
      by_gain (call _ ample all last) =
          subst (λ (r : Record). IsBehind g old.opened old.config new.nodes r) (sym all)
          (subst (λ (nodes : List (Node D)). IsBehind g old.opened old.config nodes (grew stepped)) (sym stepped.others)
          (behind_on g old.opened old.config old.nodes e stepped.before stepped.after stepped.told answer old.all kept.count is_for stepped.at kept.at_places (tells stepped.before) stepped.given ample kept.behind))

  pub step_keeps : (old new : View (Node D)) (e : Event) (answer : Result (Unit {0}) NodeFault) → TellsUp g → IsCluster old → IsForMatch old.config e → Stepped g old e answer new → IsCluster new
  step_keeps old new e answer tells kept is_for stepped = record {
    count = ap length stepped.others ∙ (length-set old.nodes (node_of e) stepped.after ∙ (kept.count ∙ ap (λ (p : Plan). length p.sources) (sym stepped.same_config)));
    at_places = subst (λ (p : Plan). ∥ AreAtPlaces p new.nodes ∥₁) (sym stepped.same_config)
        (subst (λ (nodes : List (Node D)). ∥ AreAtPlaces old.config nodes ∥₁) (sym stepped.others)
        (still_at_places old.config old.nodes (node_of e) stepped.before stepped.after stepped.within stepped.at stepped.given.stays.member kept.at_places));
    behind = subst (λ b. IsBehind g b new.config new.nodes new.all) (sym stepped.same_opened)
        (subst (λ (p : Plan). IsBehind g old.opened p new.nodes new.all) (sym stepped.same_config) (behind_by old new e answer tells kept is_for stepped));
  }

  -- what it goes on from stays too
  goes_on_to : (first last : View (Node D)) (eras : List Era) → IsOfOne first last → GoesOnFrom g first eras → GoesOnFrom g last eras
  goes_on_to first last eras one goes =
      subst (λ b. GoesOn b last.config.setting (length last.config.sources) eras (map (begun_of g) last.nodes)) (sym one.opened)
      (subst (λ (p : Plan). GoesOn first.opened p.setting (length p.sources) eras (map (begun_of g) last.nodes)) (sym one.config)
      (subst (λ (files : List (List ℕ)). GoesOn first.opened first.config.setting (length first.config.sources) eras files) (sym one.begun) goes))

  -- a view that was reached
  pub record IsReached (first last : View (Node D)) : Type 0 where
    pub kept : IsCluster last
    pub one : IsOfOne first last

  pub ran_keeps : (first last : View (Node D)) (events : List Event) → TellsUp g → IsCluster first → All (IsForMatch first.config) events → Ran g first events last → IsReached first last
  ran_keeps first _ _ tells kept are_for (none events last empty same) =
      subst (λ (v : View (Node D)). IsReached first v) (sym same) (record { kept = kept; one = record { config = refl; opened = refl; begun = refl } })
  ran_keeps first _ _ tells kept are_for (more before between e answer events last ran stepped ample all) =
      let split : All (IsForMatch first.config) (before ++ e ∷ []) = All-same (IsForMatch first.config) (before ++ e ∷ []) events (sym all) are_for in
      let earlier = ran_keeps first between before tells kept (all_front (IsForMatch first.config) before e split) ran in
      let here : IsForMatch between.config e = subst (λ (p : Plan). IsForMatch p e) (sym earlier.one.config) (all_last (IsForMatch first.config) before e split) in
      let one = step_of_one between last e answer stepped in
      record {
        kept = step_keeps between last e answer tells earlier.kept here stepped;
        one = record { config = one.config ∙ earlier.one.config; opened = one.opened ∙ earlier.one.opened; begun = one.begun ∙ earlier.one.begun };
      }

  pub reached_keeps : (first last : View (Node D)) → TellsUp g → IsCluster first → WasReached g first last → IsReached first last
  reached_keeps first last tells kept reached = ran_keeps first last reached.events tells kept reached.are_for reached.ran

-- ---- no event of a run finds another command known

-- in every run of the rules arrivals came with no more frames than were sent
placed_in_run : (setting : Setting) (n : ℕ) (before : List Era) (sources : List Source) (state : State) → RunsTo setting n before sources state → ArePlaced state.now.sent state.now.delivered
placed_in_run setting n _ _ _ (fresh sources state plan count is) = subst (λ (now : Record). ArePlaced now.sent now.delivered) (sym is.empty) (λ arrival there. elim there [ ])
placed_in_run setting n _ _ _ (step before sources old state run s) =
    subst (λ (now : Record). ArePlaced now.sent now.delivered) (sym s.grows) (placed_after old.now.sent s.made.frames old.now.delivered s.arrived (placed_in_run setting n before sources old run))
placed_in_run setting n _ _ _ (opened before sources old latest begun others state run ends same clean plan count are empty) =
    subst (λ (now : Record). ArePlaced now.sent now.delivered) (sym empty) (λ arrival there. elim there [ ])

module _ {D : Type 0} (g : Ghosts D) where
  are_placed : (view : View (Node D)) (eras : List Era) → IsCluster g view → GoesOnFrom g view eras → IsTrue g.is_honest → ArePlaced view.all.sent view.all.delivered
  are_placed view eras kept goes honest arrival there =
      ∥∥₁_elim (kept.behind eras goes honest) le_prop (λ ruled. placed_in_run view.config.setting (length view.config.sources) eras view.config.sources _ ruled.runs arrival there)

  -- where none is forged after an event, none was before it
  unforged_behind : (old new : View (Node D)) (e : Event) (answer : Result (Unit {0}) NodeFault) → Stepped g old e answer new → ArePlaced old.all.sent old.all.delivered → HasNoForged new → HasNoForged old
  unforged_behind old new e answer stepped placed unforged = by_gain stepped.gains
    where
      by_gain : Gains e (runs stepped.before) (front_in stepped.before) stepped.told old new answer → HasNoForged old
      by_gain (nothing _ absent all last) = subst (λ (now : Record). IsUnforged now.sent now.delivered) all unforged
      by_gain (call _ ample all last) = unforged_before old.all.sent (map (frame_by (node_of e)) stepped.told.frames) old.all.delivered (map (placed_at (length old.all.sent)) (arrived_by_event (runs stepped.before) (front_in stepped.before) e)) placed (subst (λ (now : Record). IsUnforged now.sent now.delivered) all unforged)

  pub none_conflicts : (first : View (Node D)) → RunsNeverConflict → TellsUp g → IsCluster g first → NoneConflicts g first
  none_conflicts first law tells kept events last eras ran are_for goes honest unforged = by_run events last ran are_for unforged
    where
      by_run : (events : List Event) (last : View (Node D)) (ran : Ran g first events last) → All (IsForMatch first.config) events → HasNoForged last → NoneIsAnswered g fault.Conflict first last events ran
      by_run _ _ (none events last empty same) are_for unforged = tt
      by_run _ _ (more before between e answer events last ran stepped ample all) are_for unforged =
          let split : All (IsForMatch first.config) (before ++ e ∷ []) = All-same (IsForMatch first.config) (before ++ e ∷ []) events (sym all) are_for in
          let front = all_front (IsForMatch first.config) before e split in
          let there = ran_keeps g first between before tells kept front ran in
          let here : IsForMatch between.config e = subst (λ (p : Plan). IsForMatch p e) (sym there.one.config) (all_last (IsForMatch first.config) before e split) in
          let from = goes_on_to g first between eras there.one goes in
          let clean = unforged_behind between last e answer stepped (are_placed between eras there.kept from honest) unforged in (
            by_run before between ran front clean,
            never_conflicts g between last e answer law tells there.kept.at_places there.kept.count here there.kept.behind stepped eras from honest unforged,
          )
