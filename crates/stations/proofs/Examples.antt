-- Deeds of nodes and orders of them, on values.
use Rattle.std.proofs.Common.{◌≡◌, ◌≢◌, ℕ, zero, suc, ◌<◌, ◌∙◌, ◌++◌, map, ◌==◌, if◌then◌else◌, inl, inr, true, false, Bool, List, [], ◌∷◌, length, get_or, Some, None, Result, Ok, Err, refl, ap, sym, subst, arith, take, append-nil}
use Rattle.promise_store.specs.declared.disk.Disk.{Ghosts}
use Rattle.promise_store.specs.Journals.{header}
use Rattle.promise_store.specs.Holding.{StandsFor}
use Rattle.slot_log.specs.Hand.{Hand, Match}
use Rattle.protocol_model.specs.Stores.{Store, empty_store}
use Rattle.dealer_kind.specs.Kind.{Setting}
use Rattle.dealer_kind.specs.Plans.{Plan, IsPlan}
use Rattle.dealer_kind.specs.declared.source.Source.{Source}
use Rattle.node_rules.specs.Standings.{Place, Standing, place_of, front_of, started}
use Rattle.node_rules.specs.Sending.{Frame as Outgoing}
use Rattle.node_rules.specs.Showing.{Piece as Shown, header as header_piece}
use Rattle.node_rules.specs.Rules.{starting}
use Rattle.node_rules.specs.Called.{Ends, took, refused, failed, unchanged}
use Rattle.node_rules.specs.Calls.{Call, Start, Stop}
use Rattle.dealer_node.specs.Nodes.{Node}
use Rattle.dealer_node.specs.declared.fault.NodeFault.{NodeFault}
use Rattle.dealer_node.specs.declared.fault.NodeFault.TheVariants as fault
use Rattle.dealer_node.specs.Outs.{Told, nothing_told}
use Rattle.dealer_node.specs.Members.{place_at}
use Rattle.dealer_node.specs.Seeing.{member_in, front_in, table_in, begun_of, images_of, since_of, moment_of}
use Rattle.dealer_world.specs.declared.event.Event.{Event}
use Rattle.dealer_world.specs.declared.event.Event.TheVariants as event
use Rattle.dealer_world.specs.Records.{Frame, Arrived, Delivered, Ordered, Arrival}
use Rattle.dealer_world.specs.Calls.{nothing_made}
use Rattle.dealer_world.specs.Events.{node_of}
use Rattle.dealer_world.specs.Runs.{text_by_rule, arrived_at, Keeps}
use Rattle.dealer_world.specs.RuleRuns.{plan_of}
use Rattle.dealer_world.specs.Stepping.{IsFor, IsGiven}
use Rattle.dealer_world.specs.Unforged.{IsAmong, IsUnforged}
use Rattle.stations.specs.Deeds.{Deed, Did, new_at, Doing, deeds_of, IsOrder, record_of}
use Rattle.stations.specs.Joining.{AreProcesses}
use Rattle.stations.specs.Moments.{Moment, moment_now}
use Rattle.stations.specs.Stations.{Look, known_place, deed_by, GainsDeed, nothing, call, LeavesFile, died, broke_off, Acts, Has, opened}
use Rattle.stations.specs.Incarnations.{IsProcess, Ended, at_rest, inside, MayHaveDone, new_store, one_more, IsHistoryOf}
use Rattle.stations.specs.Tables.{HadTable}
use Rattle.stations.specs.Together.{HasIncarnations, HasHistory, MayFind, HaveHistories}
use Rattle.stations.proofs.Dying.{stops_down}

-- ---- orders of deeds

abbrev frame : Frame
frame = record { from = 0; to = 1; bytes = 7 ∷ [] }

-- node 0 sends a frame, and node 1 gets it
abbrev sends : Deed
sends = record { arrived = []; made = record { frames = frame ∷ []; texts = []; began = false } }

abbrev gets : Deed
gets = record { arrived = Delivered frame ∷ []; made = nothing_made }

abbrev pub by : ℕ → Deed → Doing
by node deed = record { node = node; deed = deed }

abbrev in_order : List Doing
in_order = by 1 gets ∷ by 0 sends ∷ []

abbrev out_of_order : List Doing
out_of_order = by 0 sends ∷ by 1 gets ∷ []

abbrev histories : ℕ → List Deed
histories i = if i == 0 then sends ∷ [] else gets ∷ []

own_deeds : deeds_of in_order 0 ≡ sends ∷ []
own_deeds = refl

and_those_of_the_other : deeds_of in_order 1 ≡ gets ∷ []
and_those_of_the_other = refl

none_of_a_third : deeds_of in_order 2 ≡ []
none_of_a_third = refl

a_deed_that_is_left_out : IsOrder 2 histories (by 0 sends ∷ []) → ⊥
a_deed_that_is_left_out order = let none : [] ≡ gets ∷ [] = order.each 1 (omega arith) in cc

a_deed_that_nobody_did : IsOrder 2 histories (by 1 died ∷ in_order) → ⊥
a_deed_that_nobody_did order = let more : died ∷ gets ∷ [] ≡ gets ∷ [] = order.each 1 (omega arith) in cc

one_that_is_done_by_no_node : IsOrder 2 histories (by 2 died ∷ in_order) → ⊥
one_that_is_done_by_no_node order = let few = order.nodes (by 2 died) (inl refl) in omega arith

-- a node's own deeds in another order than it did them
own_order : ℕ → List Deed
own_order i = if i == 0 then sends ∷ died ∷ [] else []

-- how many frames the last of these deeds sent
abbrev sent_last : List Deed → ℕ
sent_last [] = 0
sent_last (deed ∷ before) = length deed.made.frames

its_own_deeds_in_another_order : IsOrder 1 own_order (by 0 died ∷ by 0 sends ∷ []) → ⊥
unfolding own_order
its_own_deeds_in_another_order order = let e : 0 ≡ 1 = ap sent_last (order.each 0 (omega arith)) in omega (arith, e)

the_frame_was_sent_before : IsUnforged (record_of in_order).sent (record_of in_order).delivered
the_frame_was_sent_before arrival there = elim there [
  | inl is ↦ subst (λ (a : Arrival). IsAmong (take a.sent_before (frame ∷ [])) a.what) (sym is) (inl refl)
  | inr none ↦ absurd none
]

a_frame_that_came_before_it_was_sent : IsUnforged (record_of out_of_order).sent (record_of out_of_order).delivered → ⊥
a_frame_that_came_before_it_was_sent unforged = unforged (record { what = Delivered frame; sent_before = 0 }) (inl refl)

-- ---- what a call was

-- an order that reached a node that ran, with the front that it met
abbrev ordered : Deed
ordered = record { arrived = Ordered 1 3 ∷ []; made = nothing_made }

what_an_order_was : deed_by true 3 (event.Away 1) nothing_told (Ok tt) ≡ ordered
what_an_order_was = refl

-- also where it was refused
a_refused_order_came_too : deed_by true 3 (event.Away 1) nothing_told (Err fault.NothingToAct) ≡ ordered
a_refused_order_came_too = refl

nothing_comes_to_a_node_that_is_down : deed_by false 3 (event.Away 1) nothing_told (Err fault.Down) ≡ died
nothing_comes_to_a_node_that_is_down = refl

a_start_begins : (deed_by false 0 (event.Start 1) nothing_told (Ok tt)).made.began ≡ true
a_start_begins = refl

a_refused_start_does_not : (deed_by false 0 (event.Start 1) nothing_told (Err fault.Conflict)).made.began ≡ false
a_refused_start_does_not = refl

-- of a call that broke off what it brought came, with the front that it met
what_broke_off : broke_off 3 (event.Away 1) ≡ ordered
what_broke_off = refl

a_refused_growth_kept_as_a_deed : GainsDeed true 0 (event.Tick 1) nothing_told (Err fault.OutOfMemory) [] (died ∷ []) → ⊥
a_refused_growth_kept_as_a_deed (nothing none same) = cc
a_refused_growth_kept_as_a_deed (call ample more) = ample refl

a_deed_of_a_fault_left_out : GainsDeed true 0 (event.Tick 1) nothing_told (Err fault.Spent) [] [] → ⊥
a_deed_of_a_fault_left_out (nothing none same) = cc
a_deed_of_a_fault_left_out (call ample more) = cc

a_deed_of_a_good_call_left_out : GainsDeed true 0 (event.Tick 1) nothing_told (Ok tt) [] [] → ⊥
a_deed_of_a_good_call_left_out (nothing none same) = cc
a_deed_of_a_good_call_left_out (call ample more) = cc

-- ---- what a node did

-- a process that opened its store and died before it was started
one_that_did_nothing : (place : Place) → Did place (new_at place) (died ∷ []) (new_at place)
one_that_did_nothing place = (new_at place, refl, (Stop, stops_down place (new_at place) refl))

one_that_runs_and_was_never_started : (place : Place) (found : Store) → Did place (new_at place) [] (started place found) → ⊥
one_that_runs_and_was_never_started place found did = let e : true ≡ false = ap (λ s. s.up) did in cc

-- nothing arrives at a node that is down
nothing_arrives : (place : Place) (s after : Standing) (called : Call) (frames : List Outgoing) (shown : List Shown) (ends : Ends place s called after frames shown)
    (arrived : List Arrived) (began : Bool) → s.up ≡ false → Keeps place s called after frames shown ends arrived began → arrived ≡ []
nothing_arrives place s after called frames shown (took turn rule e f t) arrived began down keeps =
    keeps.0 ∙ ap (λ up. arrived_at up place.node (front_of s) called) down
nothing_arrives place s after called frames shown (refused refusal rule e f t) arrived began down keeps =
    keeps.0 ∙ ap (λ up. arrived_at up place.node (front_of s) called) down
nothing_arrives place s after called frames shown (failed outcome begun up rule b e f t) arrived began down keeps =
    keeps.0 ∙ ap (λ up. arrived_at up place.node (front_of s) called) down
nothing_arrives place s after called frames shown (unchanged e f t) arrived began down keeps = keeps.0

-- so no call breaks off with what was brought to a node that was down
an_order_that_came_to_a_node_that_was_down : (place : Place) (s : Standing) → Did place (new_at place) (broke_off 3 (event.Away 1) ∷ []) s → ⊥
an_order_that_came_to_a_node_that_was_down place s (old, same, (called, ruled)) =
    let none : Ordered 1 3 ∷ [] ≡ [] =
    nothing_arrives place old s called ruled.frames ruled.shown ruled.ends (Ordered 1 3 ∷ []) false (ap (λ (was : Standing). was.up) same) ruled.keeps in
    cc

-- ---- processes of a node

longer : {A : Type 0} (first : A) (list : List A) → first ∷ list ≢ list
longer first list same = let e = ap length same in omega (arith, e)

module _ {D : Type 0} (g : Ghosts D) (place : Place) (file : List ℕ) where
  module _ (is : StandsFor (header place.node place.nodes) file empty_store) where
    a_new_store_has_no_history : IsHistoryOf g place file (new_store file is) []
    a_new_store_has_no_history = refl

    what_was_done_before_there_was_a_store : IsHistoryOf g place file (new_store file is) (died ∷ []) → ⊥
    what_was_done_before_there_was_a_store done = cc

    -- its next process goes on from nothing done
    and_leaves_what_it_is : LeavesFile place file []
    and_leaves_what_it_is = record { s = new_at place; did = refl; down = refl; held = inl is }

  module _ (look : Look (Node D)) where
    a_process_with_another_deal : (hand : ℕ) → (known_place look).deals hand ≢ place.deals hand → IsProcess g place file look → ⊥
    a_process_with_another_deal hand differs is = differs (ap (λ (p : Place). p.deals hand) is.placed)

    -- nor does one with another deal go on as the present one
    a_present_process_with_another_deal : (hand : ℕ) → (known_place look).deals hand ≢ place.deals hand → HasIncarnations g place (Some look) → ⊥
    a_present_process_with_another_deal hand differs had = differs (ap (λ (p : Place). p.deals hand) had.at)

    a_process_of_another_node : look.number ≢ place.node → IsProcess g place file look → ⊥
    a_process_of_another_node differs is = differs (ap (λ (p : Place). p.node) is.placed)

    a_death_that_is_left_out : (left : List ℕ) (is : IsProcess g place file look) (image : images_of g look.node left)
        → MayHaveDone g place file left (at_rest look is image) look.deeds → ⊥
    a_death_that_is_left_out left is image done = longer died look.deeds (sym done)

    -- a process that dies inside a call
    module _ (left : List ℕ) (is : IsProcess g place file look) (e : Event) (new : Node D) (told : Told) (answer : Result (Unit {0}) NodeFault) (here : node_of e ≡ place.node)
        (is_for : IsFor place.nodes place.setting.game.players e) (given : IsGiven g e look.node new told answer) (since : since_of g new (moment_of g look.node) left) where
      abbrev dies : Ended g place file left
      dies = inside look is e new told answer here is_for given since

      what_it_brought_may_have_come : MayHaveDone g place file left dies (broke_off (front_in look.node) e ∷ look.deeds)
      what_it_brought_may_have_come = inr refl

      or_nothing_was_done : MayHaveDone g place file left dies (died ∷ look.deeds)
      or_nothing_was_done = inl refl

      a_frame_of_it_told : MayHaveDone g place file left dies (sends ∷ look.deeds) → ⊥
      a_frame_of_it_told done = elim done [
        | inl same ↦ let more : 1 ≡ 0 = ap sent_last same in omega (arith, more)
        | inr same ↦ let more : 1 ≡ 0 = ap sent_last same in omega (arith, more)
      ]

  -- ---- all nodes

  -- one node, whose process is its first
  module _ (plan : Plan) (look : Look (Node D)) (at : known_place look ≡ place_of plan 0)
      (new : StandsFor (header (place_of plan 0).node (place_of plan 0).nodes) (begun_of g look.node) empty_store) where
    one_node : (i : ℕ) → i < 1 → HasIncarnations g (place_of plan i) (get_or (Some look ∷ []) i None)
    one_node zero less = record { at = at; incarnations = new_store (begun_of g look.node) new }
    one_node (suc i) less = absurd (omega (arith, less))

    what_it_did : (i : ℕ) (less : i < 1) → HasHistory g (place_of plan i) (get_or (Some look ∷ []) i None) (one_node i less) look.deeds
    unfolding one_node
    what_it_did zero less = record { before = []; history = refl; newest = sym (append-nil look.deeds) }
    what_it_did (suc i) less = absurd (omega (arith, less))

    is_its_history : HaveHistories g plan (Some look ∷ []) one_node (λ i. look.deeds)
    is_its_history = what_it_did

    what_it_did_is_left_out : look.deeds ≡ died ∷ [] → HaveHistories g plan (Some look ∷ []) one_node (λ i. []) → ⊥
    unfolding one_node
    what_it_did_is_left_out did have =
        let own = have 0 (omega arith) in
        let more : [] ≡ died ∷ own.before = subst (λ (deeds : List Deed). [] ≡ deeds ++ own.before) did own.newest in cc

    -- its next process may find whatever this one leaves if it dies now
    what_its_next_process_may_find : (image : List ℕ) → images_of g look.node image → MayFind g (place_of plan 0) (Some look) (one_node 0 (omega arith)) image
    what_its_next_process_may_find image left = left

-- ---- a node that starts, and three of them

abbrev pub starts : Place → Deed
starts place = record { arrived = []; made = record { frames = []; texts = map text_by_rule (header_piece place.setting ∷ []); began = true } }

pub one_that_starts : (place : Place) → Did place (new_at place) (starts place ∷ []) (started place empty_store)
one_that_starts place = (
  new_at place,
  refl,
  (
    Start empty_store,
    record {
      frames = [];
      shown = header_piece place.setting ∷ [];
      ends = took (starting place empty_store) (inl refl, refl) refl refl refl;
      seated = tt;
      written = tt;
      texts = refl;
      keeps = (refl, refl);
    },
  ),
)

module _ (setting : Setting) (a b c : Source) (plan : IsPlan (plan_of setting (a ∷ b ∷ c ∷ []))) where
  abbrev three : List Source
  three = a ∷ b ∷ c ∷ []

  abbrev start_of : ℕ → Deed
  start_of i = starts (place_of (plan_of setting three) i)

  abbrev all_start : List Doing
  all_start = by 2 (start_of 2) ∷ by 1 (start_of 1) ∷ by 0 (start_of 0) ∷ []

  each_starts : (i : ℕ) → i < 3 → deeds_of all_start i ≡ start_of i ∷ []
  each_starts zero less = refl
  each_starts (suc zero) less = refl
  each_starts (suc (suc zero)) less = refl
  each_starts (suc (suc (suc i))) less = absurd (omega (arith, less))

  three_that_start : AreProcesses setting three (λ i. start_of i ∷ []) all_start
  three_that_start = record {
    plan = plan;
    did = λ i less. ∣ (started (place_of (plan_of setting three) i) empty_store, one_that_starts (place_of (plan_of setting three) i)) ∣₁;
    order = record {
      order = record {
        nodes = λ doing there. elim there [
          | inl is ↦ subst (λ (d : Doing). d.node < 3) (sym is) (omega arith)
          | inr (inl is) ↦ subst (λ (d : Doing). d.node < 3) (sym is) (omega arith)
          | inr (inr (inl is)) ↦ subst (λ (d : Doing). d.node < 3) (sym is) (omega arith)
          | inr (inr (inr none)) ↦ absurd none
        ];
        each = each_starts;
      };
      unforged = λ arrival there. absurd there;
    };
  }

-- ---- the histories of nodes

module _ {D : Type 0} (g : Ghosts D) (place : Place) where
  -- what the first process did, and that it died, is what its node did
  its_next_process : (file left : List ℕ) (new : StandsFor (header place.node place.nodes) file empty_store) (look : Look (Node D)) (is : IsProcess g place file look)
      (image : images_of g look.node left) → look.deeds ≡ starts place ∷ []
      → IsHistoryOf g place left (one_more file left (new_store file new) (at_rest look is image)) (died ∷ starts place ∷ [])
  its_next_process file left new look is image did = ([], died ∷ look.deeds, refl, refl, ap (λ (own : List Deed). died ∷ (own ++ [])) (sym did))

  what_its_present_process_did_is_left_out : (look : Look (Node D)) (at : known_place look ≡ place) (new : StandsFor (header place.node place.nodes) (begun_of g look.node) empty_store)
      → look.deeds ≡ starts place ∷ [] → HasHistory g place (Some look) (record { at = at; incarnations = new_store (begun_of g look.node) new }) [] → ⊥
  what_its_present_process_did_is_left_out look at new did own =
      let more : [] ≡ starts place ∷ own.before = subst (λ (deeds : List Deed). [] ≡ deeds ++ own.before) did own.newest in cc

-- ---- the tables of a station

-- one hand more
abbrev dealt_on : Hand → Match → Match
dealt_on hand table = record { game = table.game; count = table.count; hands = hand ∷ table.hands; room = table.room }

not_dealt_on : (hand : Hand) (table : Match) → table ≢ dealt_on hand table
not_dealt_on hand table same = longer hand table.hands (sym (ap (λ (t : Match). t.hands) same))

module _ {D : Type 0} (g : Ghosts D) (config : Plan) (number : ℕ) (node : Node D) where
  -- a process that was opened, with its node
  abbrev opened_one : Look (Node D)
  opened_one = record { config = config; number = number; node = node; deeds = []; moments = moment_now node [] ∷ [] }

  -- over a disk that isn't honest that is a station, whatever table the node has
  it_is_a_station : g.is_honest ≡ false → number < length config.sources → place_at (member_in node) ≡ place_of config number → Has g opened_one
  it_is_a_station dishonest here placed = record {
    here = here;
    at_place = ∣ placed ∣₁;
    newest = refl;
    true_to = λ before left honest. absurd (cc (dishonest, honest));
    tables = λ before left honest. absurd (cc (dishonest, honest));
    works = ∣ opened opened_one refl refl refl refl ∣₁;
  }

  it_had_its_table : HadTable opened_one (table_in node)
  it_had_its_table = record { moment = moment_now node []; was = inl refl; table_is = refl }

  a_table_that_it_never_had : (hand : Hand) → HadTable opened_one (dealt_on hand (table_in node)) → ⊥
  a_table_that_it_never_had hand had = elim had.was as (λ _. ⊥) [
    | inl is ↦ not_dealt_on hand (table_in node) (sym (ap (λ (m : Moment). m.table) is) ∙ had.table_is)
    | inr none ↦ absurd none
  ]

  -- a call is one moment more, by 92 too
  module _ (e : Event) (told : Told) (answer : Result (Unit {0}) NodeFault) (new : Look (Node D)) where
    a_moment_left_out : new.moments ≡ opened_one.moments → Acts g e told answer opened_one new → ⊥
    a_moment_left_out none acts = longer (moment_now new.node new.deeds) opened_one.moments (sym acts.moments ∙ none)

    a_moment_with_the_table_before : new.moments ≡ record { table = table_in node; deeds = new.deeds } ∷ opened_one.moments → table_in node ≢ table_in new.node
        → Acts g e told answer opened_one new → ⊥
    a_moment_with_the_table_before so other acts =
        other (ap (λ (ms : List Moment). first_table (table_in node) ms) (sym so ∙ acts.moments))
      where
        first_table : Match → List Moment → Match
        first_table none [] = none
        first_table none (moment ∷ earlier) = moment.table
