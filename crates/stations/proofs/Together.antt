-- All nodes of a match, each with a process now or with none.
use Rattle.std.proofs.Common.{◌≡◌, ℕ, zero, suc, ◌<◌, ◌≤◌, ◌∙◌, ◌⊎◌, inl, inr, List, [], ◌∷◌, ◌++◌, length, map, Option, Some, None, get_or, IsTrue, refl, ap, sym, subst, arith}
use Rattle.std.specs.Prelude.{option_map}
use Rattle.std.specs.Coded.{le_prop}
use Rattle.std.proofs.Math.Logic.{∥∥₁_map, ∥∥₁_elim}
use Rattle.std.proofs.lemmas.Bool.{cases_lt}
use Rattle.promise_store.specs.declared.disk.Disk.{Ghosts}
use Rattle.promise_store.specs.Journals.{header}
use Rattle.promise_store.specs.Holding.{StandsFor}
use Rattle.promise_store.specs.Laws.{IsBacked}
use Rattle.dealer_kind.specs.Kind.{Setting}
use Rattle.dealer_kind.specs.Plans.{Plan, IsPlan}
use Rattle.dealer_kind.specs.declared.source.Source.{Source}
use Rattle.protocol_model.specs.Quorums.{AreChosen}
use Rattle.node_rules.specs.Standings.{Place, Standing, place_of, applied}
use Rattle.dealer_node.specs.Nodes.{Node}
use Rattle.dealer_node.specs.Members.{place_at}
use Rattle.dealer_node.specs.Seeing.{member_in, IsSeen, begun_of}
use Rattle.dealer_world.specs.Calling.{ConflictsAreRefusals}
use Rattle.dealer_world.specs.Events.{call_of}
use Rattle.dealer_world.specs.Records.{Arrived, said}
use Rattle.dealer_world.specs.RuleRuns.{plan_of}
use Rattle.dealer_world.specs.Unforged.{IsUnforged}
use Rattle.dealer_world.specs.Views.{placed_at}
use Rattle.stations.specs.declared.station.Station.{Station}
use Rattle.stations.specs.Deeds.{Deed, Did, new_at, Doing, record_of}
use Rattle.stations.specs.Joining.{IsTrueOrder, AreProcesses, ProcessesShowOneList, ProcessesAreBacked, ProcessesNeverConflict, ProcessesApplyTheChosen}
use Rattle.stations.specs.Stations.{Look, known_place, HoldsAfter, LeavesFile}
use Rattle.stations.specs.Looking.{look_of}
use Rattle.stations.specs.Incarnations.{IncarnationsAreDeeds}
use Rattle.stations.specs.Together.{HasIncarnations, HasHistory, MayFind, HaveIncarnations, HaveHistories, AllAreBacked, NoNextConflicts, AllApplyTheChosen, ArePromised, StationsArePromised}
use Rattle.stations.proofs.Dying.{ImagesAreSeen}
use Rattle.stations.proofs.Joining.{all_merely}
use Rattle.stations.proofs.OwnTables.{runs_or_knows_nothing}

-- there are so many where one of this number is
one_of : {A : Type 0} (list : List (Option A)) (i : ℕ) (one : A) → get_or list i None ≡ Some one → i < length list
one_of [] i one is = absurd cc
one_of (first ∷ list) zero one is = omega arith
one_of (first ∷ list) (suc i) one is = let less = one_of list i one is in omega (arith, less)

-- the one at a place, seen
seen_one : {A B : Type 0} (see : A → B) (list : List (Option A)) (i : ℕ) → get_or (map (option_map see) list) i None ≡ option_map see (get_or list i None)
seen_one see [] i = refl
seen_one see (first ∷ list) zero = refl
seen_one see (first ∷ list) (suc i) = seen_one see list i

module _ {D : Type 0} (g : Ghosts D) where
  -- a node is where its deeds lead; what its next process may find stands for what that holds, and its present one, if it has one, is seen as it
  record IsThere (place : Place) (now : Option (Look (Node D))) (had : HasIncarnations g place now) (deeds : List Deed) : Type 0 where
    s : Standing
    did : Did place (new_at place) deeds s
    finds : (file : List ℕ) → MayFind g place now had file → StandsFor (header place.node place.nodes) file s.store ⊎ StandsFor (header place.node place.nodes) file s.begun
    placed : (look : Look (Node D)) → now ≡ Some look → place_at (member_in look.node) ≡ place
    seen : (look : Look (Node D)) → now ≡ Some look → IsSeen g look.node s

  abbrev HasDone : (place : Place) (now : Option (Look (Node D))) → HasIncarnations g place now → Type 0
  HasDone place now had = (deeds : List Deed) × HasHistory g place now had deeds × IsThere place now had deeds

  -- one without a process
  left_there : (place : Place) (had : HasIncarnations g place None) (deeds : List Deed) → LeavesFile place had.file deeds → IsThere place None had deeds
  left_there place had deeds left = record {
    s = left.s;
    did = left.did;
    finds = λ file is.
        subst (λ (f : List ℕ). StandsFor (header place.node place.nodes) f left.s.store ⊎ StandsFor (header place.node place.nodes) f left.s.begun) (sym is) left.held;
    placed = λ look none. absurd cc;
    seen = λ look none. absurd cc;
  }

  -- one with a process
  now_there : ImagesAreSeen g → (place : Place) (look : Look (Node D)) (had : HasIncarnations g place (Some look)) (deeds : List Deed) → place_at (member_in look.node) ≡ place
      → HoldsAfter g place look.node deeds → IsThere place (Some look) had deeds
  now_there images place look had deeds placed at = record {
    s = at.s;
    did = at.did;
    finds = λ file image.
        subst (λ (head : List ℕ). StandsFor head file at.s.store ⊎ StandsFor head file at.s.begun) (ap (λ (p : Place). header p.node p.nodes) placed)
        (images look.node at.s file at.seen image);
    placed = λ other is. subst (λ (l : Look (Node D)). place_at (member_in l.node) ≡ place) (same_look look other is) placed;
    seen = λ other is. subst (λ (l : Look (Node D)). IsSeen g l.node at.s) (same_look look other is) at.seen;
  }
    where
      same_look : (one other : Look (Node D)) → Some one ≡ Some other → one ≡ other
      same_look one other is = cc

  one_node : IncarnationsAreDeeds g → ImagesAreSeen g → IsTrue g.is_honest → (place : Place) (now : Option (Station D g)) (had : HasIncarnations g place (option_map look_of now))
      → ∥ HasDone place (option_map look_of now) had ∥₁
  one_node law images honest place None had =
      ∥∥₁_map (law place had.file had.incarnations honest) (λ so. (so.0, so.1, left_there place had so.0 so.2))
  one_node law images honest place (Some station) had =
      let look = look_of station in
      ∥∥₁_elim (law place (begun_of g look.node) had.incarnations honest) (hlevel) (λ so.
      let left : LeavesFile (known_place look) (begun_of g look.node) so.0 = subst (λ (p : Place). LeavesFile p (begun_of g look.node) so.0) (sym had.at) so.2 in
      let at : ∥ HoldsAfter g place look.node (look.deeds ++ so.0) ∥₁ =
      subst (λ (p : Place). ∥ HoldsAfter g p look.node (look.deeds ++ so.0) ∥₁) had.at (station.true_to so.0 ∣ left ∣₁ honest) in
      ∥∥₁_elim station.at_place (hlevel) (λ placed.
      ∥∥₁_map at (λ here. (look.deeds ++ so.0, record { before = so.0; history = so.1; newest = refl }, now_there images place look had (look.deeds ++ so.0) (placed ∙ had.at) here))))

  module _ (stations : List (Option (Station D g))) where
    abbrev looks : List (Option (Look (Node D)))
    looks = map (option_map look_of) stations

    abbrev DoneAt : (plan : Plan) → HaveIncarnations g plan looks → (i : ℕ) → i < length looks → Type 0
    DoneAt plan had i less = HasDone (place_of plan i) (get_or looks i None) (had i less)

    node_at : IncarnationsAreDeeds g → ImagesAreSeen g → IsTrue g.is_honest → (plan : Plan) (had : HaveIncarnations g plan looks) (i : ℕ) (less : i < length looks) → ∥ DoneAt plan had i less ∥₁
    node_at law images honest plan had i less =
        subst (λ (now : Option (Look (Node D))). (had : HasIncarnations g (place_of plan i) now) → ∥ HasDone (place_of plan i) now had ∥₁) (sym (seen_one look_of stations i))
        (one_node law images honest (place_of plan i) (get_or stations i None)) (had i less)

    -- of all at once
    all_nodes : IncarnationsAreDeeds g → ImagesAreSeen g → IsTrue g.is_honest → (plan : Plan) (had : HaveIncarnations g plan looks)
        → ∥ ((i : ℕ) → i < length looks → (less : i < length looks) → DoneAt plan had i less) ∥₁
    all_nodes law images honest plan had =
        all_merely (λ i. (less : i < length looks) → DoneAt plan had i less) (length looks) (λ i less.
        ∥∥₁_map (node_at law images honest plan had i less) (λ done other. subst (λ (l : i < length looks). DoneAt plan had i l) (le_prop less other) done))

    module _ (plan : Plan) (had : HaveIncarnations g plan looks) (each : (i : ℕ) → i < length looks → (less : i < length looks) → DoneAt plan had i less) where
      -- what node i did, and nothing beyond the last node
      did_by : (i : ℕ) → i < length looks ⊎ length looks ≤ i → List Deed
      did_by i (inl less) = (each i less less).0
      did_by i (inr beyond) = []

      did_so : (i : ℕ) (which : i < length looks ⊎ length looks ≤ i) (less : i < length looks)
          → HasHistory g (place_of plan i) (get_or looks i None) (had i less) (did_by i which) × IsThere (place_of plan i) (get_or looks i None) (had i less) (did_by i which)
      unfolding did_by
      did_so i (inl within) less =
          subst (λ (l : i < length looks). HasHistory g (place_of plan i) (get_or looks i None) (had i l) (each i within within).0 × IsThere (place_of plan i) (get_or looks i None) (had i l) (each i within within).0)
          (le_prop within less) ((each i within within).1, (each i within within).2)
      did_so i (inr beyond) less = absurd (omega (arith, less, beyond))

      abbrev all_did : ℕ → List Deed
      all_did i = did_by i (cases_lt i (length looks))

      has_history : HaveHistories g plan looks had all_did
      has_history i less = (did_so i (cases_lt i (length looks)) less).0

      there_at : (i : ℕ) (less : i < length looks) → IsThere (place_of plan i) (get_or looks i None) (had i less) (all_did i)
      there_at i less = (did_so i (cases_lt i (length looks)) less).1

  -- ---- with an order of all

  module _ (stations : List (Option (Look (Node D)))) (setting : Setting) (sources : List Source) (is_plan : IsPlan (plan_of setting sources))
      (count : length stations ≡ length sources) (had : HaveIncarnations g (plan_of setting sources) stations) (histories : ℕ → List Deed)
      (each : (i : ℕ) (less : i < length stations) → IsThere (place_of (plan_of setting sources) i) (get_or stations i None) (had i less) (histories i)) (all : List Doing)
      (order : IsTrueOrder (length sources) histories all) where
    counted : (i : ℕ) → i < length sources → i < length stations
    counted i less = subst (λ (n : ℕ). i < n) (sym count) less

    are_processes : AreProcesses setting sources histories all
    are_processes = record { plan = is_plan; did = λ i less. let there = each i (counted i less) in ∣ (there.s, there.did) ∣₁; order = order }

    none_conflicts : ConflictsAreRefusals g → ProcessesNeverConflict → IsTrue g.is_honest → NoNextConflicts g stations setting sources all
    none_conflicts refusals law honest i look e new told at here is_for given unforged =
        let less = one_of stations i look at in
        let within : i < length sources = subst (λ (n : ℕ). i < n) count less in
        let there = each i less in
        let s = there.s in
        let is = refusals (place_of (plan_of setting sources) i) e s look.node new told (there.placed look at) here is_for honest (there.seen look at) given in
        law setting sources histories all are_processes i s (call_of is.found e) is.store within there.did is.seated
        (subst (λ (arrived : List Arrived). IsUnforged (record_of all).sent ((record_of all).delivered ++ map (placed_at (length (record_of all).sent)) arrived)) is.arrived unforged) is.turn

    all_are_backed : ProcessesAreBacked → AllAreBacked g (plan_of setting sources) stations had all
    all_are_backed law i less file frame message finds sent from says =
        let there = each i less in
        let s = there.s in
        let within : i < length sources = subst (λ (n : ℕ). i < n) count less in
        ∥∥₁_map (law setting sources histories all are_processes i s within there.did) (λ back.
        let backs = back frame message sent from says in
        elim (there.finds file finds) as (λ _. IsBacked (header i (length sources)) file message) [
          | inl stands ↦ (s.store, stands, backs.0)
          | inr stands ↦ (s.begun, stands, backs.1)
        ])

    all_apply_the_chosen : ProcessesApplyTheChosen → AllApplyTheChosen g stations (length sources) all
    all_apply_the_chosen law i look at =
        let less = one_of stations i look at in
        let there = each i less in
        let s = there.s in
        let seen = there.seen look at in
        elim (runs_or_knows_nothing g (member_in look.node) look.node.up look.node.disk s seen.by) as (λ _. ∥ ((s : Standing) × IsSeen g look.node s × AreChosen (length sources) (said (record_of all).sent) (applied s)) ∥₁) [
          | inl up ↦ ∥∥₁_map (law setting sources histories all are_processes i s (subst (λ (n : ℕ). i < n) count less) there.did up) (λ chosen. (s, seen, chosen))
          | inr none ↦ ∣ (s, seen, subst (λ commands. AreChosen (length sources) (said (record_of all).sent) commands) (sym none) tt) ∣₁
        ]

    are_promised : ConflictsAreRefusals g → ProcessesShowOneList → ProcessesAreBacked → ProcessesNeverConflict → ProcessesApplyTheChosen → IsTrue g.is_honest
        → ArePromised g stations setting sources had histories all
    are_promised refusals shows backs law applies honest = record {
      processes = are_processes;
      list = shows setting sources histories all are_processes;
      applied = all_apply_the_chosen applies;
      backed = all_are_backed backs;
      conflict = none_conflicts refusals law honest;
    }

  pub stations_are_promised : IncarnationsAreDeeds g → ImagesAreSeen g → ConflictsAreRefusals g → ProcessesShowOneList → ProcessesAreBacked → ProcessesNeverConflict
      → ProcessesApplyTheChosen
      → (stations : List (Option (Station D g))) → StationsArePromised g (map (option_map look_of) stations)
  stations_are_promised incarnations images refusals shows backs law applies stations setting sources is_plan count honest had =
      let plan = plan_of setting sources in
      ∥∥₁_map (all_nodes stations incarnations images honest plan had) (λ each. record {
        histories = all_did stations plan had each;
        have = has_history stations plan had each;
        promised = λ all order.
            are_promised (looks stations) setting sources is_plan count had (all_did stations plan had each) (there_at stations plan had each) all order refusals shows backs law applies honest;
      })
