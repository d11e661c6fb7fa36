-- All processes that the nodes of a match had, and what each had done of what its node did.
use Rattle.std.proofs.Common.{◌≡◌, ◌⊎◌, ℕ, zero, suc, ◌<◌, ◌≤◌, List, [], ◌∷◌, ◌++◌, length, Option, Some, None, get_or, IsTrue, refl, sym, ap, ◌∙◌, subst, inl, inr, append_assoc, arith}
use Rattle.std.specs.Coded.{le_prop}
use Rattle.std.proofs.Math.Logic.{∥∥₁_map, ∥∥₁_elim}
use Rattle.std.proofs.lemmas.Bool.{cases_lt}
use Rattle.promise_store.specs.declared.disk.Disk.{Ghosts}
use Rattle.promise_store.specs.Journals.{header}
use Rattle.promise_store.specs.Holding.{StandsFor}
use Rattle.protocol_model.specs.Stores.{empty_store}
use Rattle.dealer_kind.specs.Kind.{Setting}
use Rattle.dealer_kind.specs.Plans.{Plan, IsPlan}
use Rattle.dealer_kind.specs.declared.source.Source.{Source}
use Rattle.node_rules.specs.Standings.{Place, Standing, place_of}
use Rattle.dealer_node.specs.Nodes.{Node}
use Rattle.dealer_node.specs.Seeing.{front_in, begun_of}
use Rattle.dealer_world.specs.RuleRuns.{plan_of}
use Rattle.stations.specs.Deeds.{Deed, Did, new_at, Doing}
use Rattle.stations.specs.Joining.{IsTrueOrder, AreProcesses}
use Rattle.stations.specs.Stations.{Look, known_place, HoldsAfter, LeavesFile, Has, died, broke_off, DeathsAtRestAreDeeds, DeathsInsideAreDeeds}
use Rattle.stations.specs.Incarnations.{IsProcess, Ended, at_rest, inside, MayHaveDone, Incarnations, new_store, one_more, IsHistoryOf}
use Rattle.stations.specs.Tables.{WasLook}
use Rattle.stations.specs.Together.{HasIncarnations, HasHistory, HaveIncarnations, HaveHistories}
use Rattle.joined_lines.specs.Processes.{last_look, IsEarlier, IsProcessOf, AreStations}

new_left : (place : Place) (file : List ℕ) → StandsFor (header place.node place.nodes) file empty_store → LeavesFile place file []
new_left place file is = record { s = new_at place; did = refl; down = refl; held = inl is }

-- what is merely there for each of so many is merely there for all
all_merely : (P : ℕ → Type 0) (n : ℕ) → ((i : ℕ) → i < n → ∥ P i ∥₁) → ∥ ((i : ℕ) → i < n → P i) ∥₁
all_merely P zero each = ∣ (λ i less. absurd (omega (arith, less))) ∣₁
all_merely P (suc n) each =
    ∥∥₁_elim (each n (omega arith)) (hlevel) (λ last. ∥∥₁_map (all_merely P n (λ i less. each i (omega (arith, less)))) (λ before i less. with_last i (cases_lt i n) less before last))
  where
    with_last : (i : ℕ) → i < n ⊎ n ≤ i → i < suc n → ((k : ℕ) → k < n → P k) → P n → P i
    with_last i (inl lower) less before last = before i lower
    with_last i (inr not_lower) less before last = let is : n ≡ i = omega (arith, less, not_lower) in subst P is last

module _ {D : Type 0} (g : Ghosts D) where
  -- ---- one node

  -- these deeds are a history of the processes up to a file, in which what the earlier ones did leaves what each was begun on
  abbrev IsLed : (place : Place) (file : List ℕ) → Incarnations g place file → List Deed → Type 0
  IsLed place _ (new_store file is) deeds = deeds ≡ []
  IsLed place _ (one_more found left incarnations ended) deeds =
      (before : List Deed) × (own : List Deed) × IsLed place found incarnations before × LeavesFile place found before × MayHaveDone g place found left ended own × (deeds ≡ own ++ before)

  led_history : (place : Place) (file : List ℕ) (incarnations : Incarnations g place file) (deeds : List Deed) → IsLed place file incarnations deeds → IsHistoryOf g place file incarnations deeds
  led_history place _ (new_store file is) deeds led = led
  led_history place _ (one_more found left incarnations ended) deeds led = (led.0, led.1, led_history place found incarnations led.0 led.2, led.4, led.5)

  where_it_was : (place : Place) (found : List ℕ) (look : Look (Node D)) (before : List Deed) → IsProcess g place found look → IsTrue g.is_honest → LeavesFile place found before
      → ∥ HoldsAfter g place look.node (look.deeds ++ before) ∥₁
  where_it_was place found look before is honest left =
      subst (λ (p : Place). ∥ HoldsAfter g p look.node (look.deeds ++ before) ∥₁) is.placed
      (is.has.true_to before ∣ (subst (λ (p : Place). LeavesFile p (begun_of g look.node) before) (sym is.placed) (subst (λ (file : List ℕ). LeavesFile place file before) (sym is.begun) left)) ∣₁ honest)

  abbrev IsLedTo : (place : Place) (file : List ℕ) → Incarnations g place file → Type 0
  IsLedTo place file incarnations = (deeds : List Deed) × IsLed place file incarnations deeds × LeavesFile place file deeds

  ended_so : DeathsAtRestAreDeeds g → DeathsInsideAreDeeds g → (place : Place) (found left : List ℕ) (incarnations : Incarnations g place found) (ended : Ended g place found left) (before : List Deed)
      → IsTrue g.is_honest → IsLed place found incarnations before → LeavesFile place found before → ∥ IsLedTo place left (one_more found left incarnations ended) ∥₁
  ended_so rests breaks place found left incarnations (at_rest look is image) before honest led was =
      ∥∥₁_elim is.has.at_place (hlevel) (λ placed.
      ∥∥₁_map (where_it_was place found look before is honest was) (λ at.
      (died ∷ (look.deeds ++ before), (before, died ∷ look.deeds, led, was, refl, refl), rests place look.node (look.deeds ++ before) left (placed ∙ is.placed) image at)))
  ended_so rests breaks place found left incarnations (inside look is e new told answer here is_for given since) before honest led was =
      ∥∥₁_elim is.has.at_place (hlevel) (λ placed.
      ∥∥₁_map (where_it_was place found look before is honest was) (λ at.
      elim (breaks place e look.node new told answer (look.deeds ++ before) left (placed ∙ is.placed) here is_for given honest since at) [
        | inl kept ↦ (died ∷ (look.deeds ++ before), (before, died ∷ look.deeds, led, was, inl refl, refl), kept)
        | inr broken ↦
            (broke_off (front_in look.node) e ∷ (look.deeds ++ before), (before, broke_off (front_in look.node) e ∷ look.deeds, led, was, inr refl, refl), broken)
      ]))

  led_to : DeathsAtRestAreDeeds g → DeathsInsideAreDeeds g → (place : Place) (file : List ℕ) (incarnations : Incarnations g place file) → IsTrue g.is_honest → ∥ IsLedTo place file incarnations ∥₁
  led_to rests breaks place _ (new_store file is) honest = ∣ ([], refl, new_left place file is) ∣₁
  led_to rests breaks place _ (one_more found left incarnations ended) honest =
      ∥∥₁_elim (led_to rests breaks place found incarnations honest) (hlevel)
      (λ earlier. ended_so rests breaks place found left incarnations ended earlier.0 honest earlier.1 earlier.2)

  -- ---- its processes

  was_look : (place : Place) (found : List ℕ) (look : Look (Node D)) (last : Deed) (own before deeds : List Deed) → IsProcess g place found look → LeavesFile place found before → own ≡ last ∷ look.deeds → deeds ≡ own ++ before
      → WasLook g place deeds look
  was_look place found look last own before deeds is left did whole = record {
    at = is.placed;
    has = is.has;
    before = before;
    left = ∣ (subst (λ (file : List ℕ). LeavesFile place file before) (sym is.begun) left) ∣₁;
    since = last ∷ [];
    deeds_are = whole ∙ ap (λ (ds : List Deed). ds ++ before) did;
  }

  ended_was : (place : Place) (found left : List ℕ) (ended : Ended g place found left) (own before deeds : List Deed) → LeavesFile place found before → MayHaveDone g place found left ended own → deeds ≡ own ++ before
      → WasLook g place deeds (last_look g place found left ended)
  ended_was place found left (at_rest look is image) own before deeds was did whole = was_look place found look died own before deeds is was did whole
  ended_was place found left (inside look is e new told answer here is_for given since) own before deeds was did whole = elim did as (λ _. WasLook g place deeds look) [
    | inl kept ↦ was_look place found look died own before deeds is was kept whole
    | inr broken ↦ was_look place found look (broke_off (front_in look.node) e) own before deeds is was broken whole
  ]

  -- a process that had done so much of less had done so much of more
  was_then : (place : Place) (own before deeds : List Deed) (look : Look (Node D)) → deeds ≡ own ++ before → WasLook g place before look → WasLook g place deeds look
  was_then place own before deeds look whole was = record {
    at = was.at;
    has = was.has;
    before = was.before;
    left = was.left;
    since = own ++ was.since;
    deeds_are = whole ∙ (ap (λ (ds : List Deed). own ++ ds) was.deeds_are ∙ sym (append_assoc own was.since (look.deeds ++ was.before)));
  }

  earlier_was : (place : Place) (file : List ℕ) (incarnations : Incarnations g place file) (deeds : List Deed) (look : Look (Node D)) → IsLed place file incarnations deeds → IsEarlier g place file incarnations look
      → WasLook g place deeds look
  earlier_was place _ (new_store file is) deeds look led none = absurd none
  earlier_was place _ (one_more found left incarnations ended) deeds look led (inl same) =
      subst (WasLook g place deeds) (sym same) (ended_was place found left ended led.1 led.0 deeds led.3 led.4 led.5)
  earlier_was place _ (one_more found left incarnations ended) deeds look led (inr earlier) =
      was_then place led.1 led.0 deeds look led.5 (earlier_was place found incarnations led.0 look led.2 earlier)

  -- ---- with its present one

  -- a node is where its deeds lead, and each of its processes was as it is seen once the node had done so much of them
  pub record IsThere (place : Place) (now : Option (Look (Node D))) (had : HasIncarnations g place now) (deeds : List Deed) : Type 0 where
    pub s : Standing
    pub did : Did place (new_at place) deeds s
    pub was : (look : Look (Node D)) → IsProcessOf g place now had look → WasLook g place deeds look

  abbrev HasDone : (place : Place) (now : Option (Look (Node D))) → HasIncarnations g place now → Type 0
  HasDone place now had = (deeds : List Deed) × HasHistory g place now had deeds × IsThere place now had deeds

  present_was : (place : Place) (present : Look (Node D)) (had : HasIncarnations g place (Some present)) (before : List Deed) → Has g present → IsLed place (begun_of g present.node) had.incarnations before
      → LeavesFile place (begun_of g present.node) before → (look : Look (Node D)) → IsProcessOf g place (Some present) had look → WasLook g place (present.deeds ++ before) look
  present_was place present had before has led left look (inl same) =
      subst (WasLook g place (present.deeds ++ before)) (sym same) (record { at = had.at; has = has; before = before; left = ∣ left ∣₁; since = []; deeds_are = refl })
  present_was place present had before has led left look (inr earlier) =
      was_then place present.deeds before (present.deeds ++ before) look refl (earlier_was place (begun_of g present.node) had.incarnations before look led earlier)

  one_node : DeathsAtRestAreDeeds g → DeathsInsideAreDeeds g → IsTrue g.is_honest → (place : Place) (now : Option (Look (Node D))) (had : HasIncarnations g place now)
      → ((look : Look (Node D)) → now ≡ Some look → Has g look) → ∥ HasDone place now had ∥₁
  one_node rests breaks honest place None had has =
      ∥∥₁_map (led_to rests breaks place had.file had.incarnations honest) (λ so. (
        so.0,
        led_history place had.file had.incarnations so.0 so.1,
        record { s = so.2.s; did = so.2.did; was = λ look earlier. earlier_was place had.file had.incarnations so.0 look so.1 earlier },
      ))
  one_node rests breaks honest place (Some present) had has =
      let its : Has g present = has present refl in
      ∥∥₁_elim (led_to rests breaks place (begun_of g present.node) had.incarnations honest) (hlevel) (λ so.
      let left : LeavesFile (known_place present) (begun_of g present.node) so.0 = subst (λ (p : Place). LeavesFile p (begun_of g present.node) so.0) (sym had.at) so.2 in
      let at : ∥ HoldsAfter g place present.node (present.deeds ++ so.0) ∥₁ =
      subst (λ (p : Place). ∥ HoldsAfter g p present.node (present.deeds ++ so.0) ∥₁) had.at (its.true_to so.0 ∣ left ∣₁ honest) in
      ∥∥₁_map at (λ here. (
        present.deeds ++ so.0,
        record { before = so.0; history = led_history place (begun_of g present.node) had.incarnations so.0 so.1; newest = refl },
        record { s = here.s; did = here.did; was = present_was place present had so.0 its so.1 so.2 },
      )))

  -- ---- all nodes

  module _ (stations : List (Option (Look (Node D)))) where
    abbrev DoneAt : (plan : Plan) → HaveIncarnations g plan stations → (i : ℕ) → i < length stations → Type 0
    DoneAt plan had i less = HasDone (place_of plan i) (get_or stations i None) (had i less)

    pub all_nodes : DeathsAtRestAreDeeds g → DeathsInsideAreDeeds g → IsTrue g.is_honest → AreStations g stations → (plan : Plan) (had : HaveIncarnations g plan stations)
        → ∥ ((i : ℕ) → i < length stations → (less : i < length stations) → DoneAt plan had i less) ∥₁
    all_nodes rests breaks honest are plan had =
        all_merely (λ i. (less : i < length stations) → DoneAt plan had i less) (length stations) (λ i less.
        ∥∥₁_map (one_node rests breaks honest (place_of plan i) (get_or stations i None) (had i less) (are i)) (λ done other. subst (λ (l : i < length stations). DoneAt plan had i l) (le_prop less other) done))

    module _ (plan : Plan) (had : HaveIncarnations g plan stations) (each : (i : ℕ) → i < length stations → (less : i < length stations) → DoneAt plan had i less) where
      -- what node i did, and nothing beyond the last node
      pub did_by : (i : ℕ) → i < length stations ⊎ length stations ≤ i → List Deed
      did_by i (inl less) = (each i less less).0
      did_by i (inr beyond) = []

      did_so : (i : ℕ) (which : i < length stations ⊎ length stations ≤ i) (less : i < length stations)
          → HasHistory g (place_of plan i) (get_or stations i None) (had i less) (did_by i which) × IsThere (place_of plan i) (get_or stations i None) (had i less) (did_by i which)
      unfolding did_by
      did_so i (inl within) less =
          subst (λ (l : i < length stations). HasHistory g (place_of plan i) (get_or stations i None) (had i l) (each i within within).0 × IsThere (place_of plan i) (get_or stations i None) (had i l) (each i within within).0)
          (le_prop within less) ((each i within within).1, (each i within within).2)
      did_so i (inr beyond) less = absurd (omega (arith, less, beyond))

      abbrev pub all_did : ℕ → List Deed
      all_did i = did_by i (cases_lt i (length stations))

      pub has_history : HaveHistories g plan stations had all_did
      has_history i less = (did_so i (cases_lt i (length stations)) less).0

      pub there_at : (i : ℕ) (less : i < length stations) → IsThere (place_of plan i) (get_or stations i None) (had i less) (all_did i)
      there_at i less = (did_so i (cases_lt i (length stations)) less).1

-- so they are processes of which the laws of stations speak, in each true order
pub are_processes : {D : Type 0} (g : Ghosts D) (stations : List (Option (Look (Node D)))) (setting : Setting) (sources : List Source) → IsPlan (plan_of setting sources) → length stations ≡ length sources
    → (had : HaveIncarnations g (plan_of setting sources) stations) (histories : ℕ → List Deed)
    → ((i : ℕ) (less : i < length stations) → IsThere g (place_of (plan_of setting sources) i) (get_or stations i None) (had i less) (histories i))
    → (all : List Doing) → IsTrueOrder (length sources) histories all → AreProcesses setting sources histories all
are_processes g stations setting sources is_plan count had histories each all order = record {
  plan = is_plan;
  did = λ i less. let there = each i (subst (λ (n : ℕ). i < n) (sym count) less) in ∣ (there.s, there.did) ∣₁;
  order = order;
}
