-- Two of three nodes choose a deal over disks on paper: values of nodes for which each call is as the code's contracts say.
use Rattle.std.proofs.Common.{◌≡◌, ◌⊎◌, ℕ, ◌<◌, ◌^◌, Bool, false, List, [], ◌∷◌, length, inl, inr, Result, Ok, Err, IsErr, refl, ap, sym, ◌∙◌, subst, arith}
use Rattle.std.specs.Global.{Vec, Global}
use Rattle.std.specs.Ptr.{null_ptr}
use Rattle.paxos_wire.specs.declared.message.Message.{Message}
use Rattle.paxos_wire.specs.Spelling.{frame as bytes_of, frame_of}
use Rattle.promise_store.specs.declared.held.Held.{Held}
use Rattle.promise_store.specs.declared.records.Record.{Record}
use Rattle.promise_store.specs.declared.fault.StoreFault.TheVariants.{Disk}
use Rattle.promise_store.specs.declared.stage.Stage.TheVariants.{New}
use Rattle.promise_store.specs.Stages.{marked}
use Rattle.promise_store.specs.Journals.{header, IsJournalOf}
use Rattle.promise_store.specs.Holding.{holding, store_of, StandsFor}
use Rattle.promise_store.proofs.Journals.{one_journal, same_stages}
use Rattle.slot_log.specs.Hand.{Hand}
use Rattle.protocol_model.specs.Stores.{Store, empty_store}
use Rattle.node_rules.specs.Standings.{Standing, stopped, started as started_at}
use Rattle.node_rules.specs.Turns.{Turn}
use Rattle.node_rules.specs.Calls.{Call, Start, Tick, Connect, Line}
use Rattle.node_rules.specs.Calls as call
use Rattle.node_rules.specs.Rules.{IsTurn, starting}
use Rattle.node_rules.specs.Called.{took}
use Rattle.dealer_node.specs.Nodes.{Node}
use Rattle.dealer_node.specs.declared.fault.NodeFault.{NodeFault}
use Rattle.dealer_node.specs.declared.fault.NodeFault.TheVariants as fault
use Rattle.dealer_node.specs.Members.{place_at}
use Rattle.dealer_node.specs.Outs.{nothing_told}
use Rattle.dealer_node.specs.Turned.{told_of}
use Rattle.dealer_node.specs.Taking.{MayBegin, Takes}
use Rattle.dealer_node.proofs.AsOne.{as_one}
use Rattle.dealer_world.specs.declared.event.Event.{Event}
use Rattle.dealer_world.specs.declared.event.Event.TheVariants as event
use Rattle.dealer_world.specs.Records.{Connected, Came}
use Rattle.dealer_world.specs.Events.{call_of}
use Rattle.dealer_world.specs.Stepping.{IsGiven, MakesOfDisk}
use Rattle.stations.specs.Deeds.{Deed}
use Rattle.stations.specs.Moments.{Moment, moment_now}
use Rattle.stations.specs.Stations.{Look, call as one_more}
use Rattle.joined_lines.proofs.WitnessRules.{AreRead, plan, place, prepare, promise, accept, accepted, first, prepares, leads, knows, has_promised, has_voted, ticked, promising, leading, voting, learning, tick_taken, prepare_taken, promise_taken, accept_taken, accepted_taken, said_by_bot, is_connected, is_ready, connecting_0, greeting, connect_taken}
use Rattle.joined_lines.proofs.WitnessNodes.{deed_so, got, started, Took, frame_turn}
use Rattle.joined_lines.proofs.WitnessDisks.{prepare_reads, promise_reads, accept_reads, accepted_reads, to_one, and_more, created, is_new, Paper, paper, new_disk, is_new_disk, one_record, two_records, none_of, journal_of, stands_for, member, disk_at, node_at, IsAt, sees, holds_none, holds_promise, holds_vote, dealt_hand, is_first, is_prepared, is_leading, is_knowing, is_promised, is_voted, is_at_connected, is_at_ready}
use Rattle.joined_lines.proofs.WitnessDeal.{over_disk, first_opened, second_opened, TwoDeal, greet_rule}

-- ---- calls of nodes that run

not_an_error : (why : NodeFault) → ◌≡◌ {A = Result (Unit {0}) NodeFault} (Ok tt) (Err why) → ⊥
not_an_error why e = cc

is_ok_not_err : IsErr {T = Unit {0}} {E = NodeFault} (Ok tt) → ⊥
is_ok_not_err e = cc

module _ (i : ℕ) (s after : Standing) (old_records new_records : List Record) (old_held new_held : Held) (old_hands new_hands : List Hand)
    (was : IsAt i old_records old_held s old_hands) (is : IsAt i new_records new_held after new_hands) where
  abbrev old : Node Paper
  old = node_at i old_records old_held s old_hands

  abbrev new : Node Paper
  new = node_at i new_records new_held after new_hands

  takes : (called : Call) (turn : Turn) → turn.after ≡ after → turn.faults ≡ [] → IsTurn (place_at (member i)) s called (Ok turn) → AreRead turn.frames
      → Takes paper called s old new nothing_told (told_of turn) (Ok tt)
  takes called turn after_is no_faults rule reads = record {
    after = after;
    frames = turn.frames;
    shown = turn.shown;
    faults = turn.faults;
    now = sees i new_records new_held after new_hands is;
    ends = took turn rule (sym after_is) refl refl;
    answered = (refl, refl);
    fails = tt;
    told = refl;
    fits = reads;
    next = after.store;
    may_begin = subst (λ (b : Bool). MayBegin b (place_at (member i)) s called after.store) (sym was.up) (inr (Ok turn, rule, sym (ap (λ (t : Standing). t.begun) after_is ∙ is.unbegun)));
    moments = λ t image same. inr (inr (subst (λ (file : List ℕ). StandsFor (header i 3) file after.store) (sym same) (stands_for i new_records after.store is.are)));
  }

  given_so : (e : Event) (called : Call) (turn : Turn) → call_of empty_store e ≡ called → MakesOfDisk paper e old new (Ok tt) → turn.after ≡ after → turn.faults ≡ []
      → IsTurn (place_at (member i)) s called (Ok turn) → AreRead turn.frames → IsGiven paper e old new (told_of turn) (Ok tt)
  given_so e called turn calls disk after_is no_faults rule reads = record {
    taken = λ other honest seen.
        subst (λ (t : Standing). (store : Store) × Takes paper (call_of store e) t old new nothing_told (told_of turn) (Ok tt))
        (as_one paper one_journal old s other honest (sees i old_records old_held s old_hands was) seen was.up)
        (empty_store, subst (λ (c : Call). Takes paper c s old new nothing_told (told_of turn) (Ok tt)) (sym calls) (takes called turn after_is no_faults rule reads));
    stays = record { member = refl; begun = refl; counts = omega arith; rose = λ e. absurd (not_an_error (fault.Store Disk) e); unmade = λ e. absurd (is_ok_not_err e) };
    disk = disk;
  }

-- ---- a start

start_rule : (i : ℕ) (store begun : Store) → (empty_store ≡ store) ⊎ (empty_store ≡ begun) → IsTurn (place_at (member i)) (stopped (place_at (member i)) store begun) (Start empty_store) (Ok (starting (place_at (member i)) empty_store))
start_rule i store begun is = (is, refl)

stands_as_one : (head bytes : List ℕ) (a b : Store) → StandsFor head bytes a → StandsFor head bytes b → a ≡ b
stands_as_one head bytes a b one other =
    one.is ∙ (ap (λ (records : List Record). store_of (holding head records)) (one_journal head bytes one.records other.records one.journal other.journal) ∙ sym other.is)

module _ (alloc : Global) where
  -- ---- their starts

  abbrev started_node : ℕ → Node Paper
  started_node i = node_at i [] (holds_none alloc) (started_at (place i) empty_store) []

  start_given : (i : ℕ) → place_at (member i) ≡ place i → IsGiven paper (event.Start i) (over_disk i (new_disk i)).node (started_node i) (told_of (starting (place i) empty_store)) (Ok tt)
  start_given i at = record {
    taken = λ s honest seen.
        let p = place_at (member i) in
        let down = seen.by.stopped in
        let either : StandsFor (header i 3) (created i) s.store ⊎ StandsFor (header i 3) (created i) s.begun = seen.by.leaves (created i) refl in
        let is : (empty_store ≡ s.store) ⊎ (empty_store ≡ s.begun) = elim either as (λ _. (empty_store ≡ s.store) ⊎ (empty_store ≡ s.begun)) [
          | inl stands ↦ inl (stands_as_one (header i 3) (created i) empty_store s.store (is_new i) stands)
          | inr stands ↦ inr (stands_as_one (header i 3) (created i) empty_store s.begun (is_new i) stands)
        ] in
        let turn = starting p empty_store in (
          empty_store,
          record {
            after = started_at p empty_store;
            frames = [];
            shown = turn.shown;
            faults = [];
            now = sees i [] (holds_none alloc) (started_at (place i) empty_store) [] (is_first alloc i);
            ends = took turn (subst (λ (t : Standing). IsTurn p t (Start empty_store) (Ok turn)) (sym down) (start_rule i s.store s.begun is)) refl refl refl;
            answered = (refl, refl);
            fails = tt;
            told = refl;
            fits = λ one there. absurd there;
            next = s.begun;
            may_begin = subst (λ (b : Bool). MayBegin b p s (Start empty_store) s.begun) (sym (ap (λ (t : Standing). t.up) down)) refl;
            moments = λ t image same. inr (subst (λ (file : List ℕ). StandsFor (header i 3) file s.store ⊎ StandsFor (header i 3) file s.begun) (sym same) either);
          },
        );
    stays = record { member = refl; begun = refl; counts = omega arith; rose = λ e. absurd (not_an_error (fault.Store Disk) e); unmade = λ e. absurd (is_ok_not_err e) };
    disk = record {
      faults = tt;
      opens = inr (record {
        before = new_disk i;
        after = disk_at i [];
        was = refl;
        is = refl;
        reopens = record { begun = refl; counts = omega arith; leaves = λ one other honest leaves image left. leaves image left; during = λ one other honest leaves t image since. inl since };
        marks = λ honest down first last records journal.
            let same = same_stages i 3 (created i) first last New New records [] journal (journal_of i [] empty_store (none_of i)) in
            subst (λ x. IsJournalOf first New (header i 3) (created i) (marked x records)) (sym same.1) (subst (λ x. IsJournalOf first x (header i 3) (created i) records) same.1 journal);
        quiet = λ honest goes. record { seen = refl; begun = refl; images = λ image left. left; during = λ t image since. inl since; counts = omega arith };
        unwritten = tt;
      });
      found = λ honest down. record { held = empty_store; stands = is_new i; seen = sees i [] (holds_none alloc) (started_at (place i) empty_store) [] (is_first alloc i) };
      refused = λ honest why e. absurd (not_an_error (fault.Store why) e);
    };
  }

  -- ---- the calls

  abbrev look_at : ℕ → Node Paper → List Deed → List Moment → Look (Node Paper)
  look_at i node deeds earlier = record { config = plan; number = i; node = node; deeds = deeds; moments = moment_now node deeds ∷ earlier }

  short_prepare : length (bytes_of prepare) < 2 ^ 63
  unfolding frame_of
  short_prepare = omega arith

  short_promise : length (bytes_of promise) < 2 ^ 63
  unfolding frame_of
  short_promise = omega arith

  short_accept : length (bytes_of accept) < 2 ^ 63
  unfolding frame_of
  short_accept = omega arith

  short_accepted : length (bytes_of accepted) < 2 ^ 63
  unfolding frame_of
  short_accepted = omega arith

  abbrev bytes_for : (message : Message) → length (bytes_of message) < 2 ^ 63 → Vec ℕ
  bytes_for message small =
      record { ptr = null_ptr; len = length (bytes_of message); cap = length (bytes_of message); alloc = alloc; items = bytes_of message; ok = (refl, omega arith); small = small }

  ample : ◌≡◌ {A = Result (Unit {0}) NodeFault} (Ok tt) (Err fault.OutOfMemory) → ⊥
  ample e = not_an_error fault.OutOfMemory e

  abbrev look_started_0 : Look (Node Paper)
  look_started_0 = look_at 0 (started_node 0) (started 0 ∷ []) (over_disk 0 (new_disk 0)).moments

  abbrev look_started_1 : Look (Node Paper)
  look_started_1 = look_at 1 (started_node 1) (started 1 ∷ []) (over_disk 1 (new_disk 1)).moments

  started_0 : Took paper (event.Start 0) (over_disk 0 (new_disk 0)) look_started_0
  started_0 = record { told = told_of (starting (place 0) empty_store); acts = record { config = refl; number = refl; given = start_given 0 refl; gains = one_more ample refl; moments = refl } }

  started_1 : Took paper (event.Start 1) (over_disk 1 (new_disk 1)) look_started_1
  started_1 = record { told = told_of (starting (place 1) empty_store); acts = record { config = refl; number = refl; given = start_given 1 refl; gains = one_more ample refl; moments = refl } }

  abbrev node_prepared : Node Paper
  node_prepared = node_at 0 one_record (holds_promise alloc) prepares []

  abbrev node_leading : Node Paper
  node_leading = node_at 0 two_records (holds_vote alloc) leads []

  abbrev node_knowing : Node Paper
  node_knowing = node_at 0 two_records (holds_vote alloc) knows dealt_hand

  abbrev node_promised : Node Paper
  node_promised = node_at 1 one_record (holds_promise alloc) has_promised []

  abbrev node_voted : Node Paper
  node_voted = node_at 1 two_records (holds_vote alloc) has_voted []

  abbrev connected_deeds : List Deed
  connected_deeds = deed_so 0 (Connected 0 0 ∷ []) false connecting_0 ∷ started 0 ∷ []

  abbrev greeted_deeds : List Deed
  greeted_deeds = deed_so 0 (Came 0 0 said_by_bot ∷ []) false greeting ∷ connected_deeds

  abbrev deeds_1 : List Deed
  deeds_1 = deed_so 0 [] false ticked ∷ greeted_deeds

  abbrev deeds_2 : List Deed
  deeds_2 = got 1 0 promise leading ∷ deeds_1

  abbrev deeds_3 : List Deed
  deeds_3 = got 1 0 accepted learning ∷ deeds_2

  abbrev other_deeds_1 : List Deed
  other_deeds_1 = got 0 1 prepare promising ∷ started 1 ∷ []

  abbrev other_deeds_2 : List Deed
  other_deeds_2 = got 0 1 accept voting ∷ other_deeds_1

  abbrev node_connected : Node Paper
  node_connected = node_at 0 [] (holds_none alloc) is_connected []

  abbrev node_ready : Node Paper
  node_ready = node_at 0 [] (holds_none alloc) is_ready []

  abbrev look_connected_0 : Look (Node Paper)
  look_connected_0 = look_at 0 node_connected connected_deeds look_started_0.moments

  abbrev look_greeted_0 : Look (Node Paper)
  look_greeted_0 = look_at 0 node_ready greeted_deeds look_connected_0.moments

  abbrev look_ticked_0 : Look (Node Paper)
  look_ticked_0 = look_at 0 node_prepared deeds_1 look_greeted_0.moments

  abbrev look_leading_0 : Look (Node Paper)
  look_leading_0 = look_at 0 node_leading deeds_2 look_ticked_0.moments

  abbrev look_knowing_0 : Look (Node Paper)
  look_knowing_0 = look_at 0 node_knowing deeds_3 look_leading_0.moments

  abbrev look_promised_1 : Look (Node Paper)
  look_promised_1 = look_at 1 node_promised other_deeds_1 look_started_1.moments

  abbrev look_voted_1 : Look (Node Paper)
  look_voted_1 = look_at 1 node_voted other_deeds_2 look_promised_1.moments

  connect_0 : Took paper (event.Connect 0 0) look_started_0 look_connected_0
  connect_0 = record {
    told = told_of connecting_0;
    acts = record {
      config = refl;
      number = refl;
      given = given_so 0 (first 0) is_connected [] [] (holds_none alloc) (holds_none alloc) [] [] (is_first alloc 0) (is_at_connected alloc) (event.Connect 0 0) (Connect 0) connecting_0 refl tt refl refl
          (sym (ap (λ (t : Turn). Ok t) connect_taken)) (λ one there. absurd there);
      gains = one_more ample refl;
      moments = refl;
    };
  }

  short_line : length said_by_bot < 2 ^ 63
  short_line = omega arith

  abbrev bytes_of_bot : Vec ℕ
  bytes_of_bot = record { ptr = null_ptr; len = length said_by_bot; cap = length said_by_bot; alloc = alloc; items = said_by_bot; ok = (refl, omega arith); small = short_line }

  line_0 : Took paper (event.Line 0 0 bytes_of_bot) look_connected_0 look_greeted_0
  line_0 = record {
    told = told_of greeting;
    acts = record {
      config = refl;
      number = refl;
      given = given_so 0 is_connected is_ready [] [] (holds_none alloc) (holds_none alloc) [] [] (is_at_connected alloc) (is_at_ready alloc) (event.Line 0 0 bytes_of_bot) (Line 0 said_by_bot) greeting refl tt refl refl
          greet_rule (λ one there. absurd there);
      gains = one_more ample refl;
      moments = refl;
    };
  }

  ticks_0 : Took paper (event.Tick 0) look_greeted_0 look_ticked_0
  ticks_0 = record {
    told = told_of ticked;
    acts = record {
      config = refl;
      number = refl;
      given = given_so 0 is_ready prepares [] one_record (holds_none alloc) (holds_promise alloc) [] [] (is_at_ready alloc) (is_prepared alloc) (event.Tick 0) Tick ticked refl tt refl refl (sym tick_taken)
          (and_more 1 prepare (record { to = 2; message = prepare } ∷ []) prepare_reads (to_one 2 prepare prepare_reads));
      gains = one_more ample refl;
      moments = refl;
    };
  }

  prepare_1 : Took paper (event.Frame 0 1 (bytes_for prepare short_prepare)) look_started_1 look_promised_1
  prepare_1 = record {
    told = told_of promising;
    acts = record {
      config = refl;
      number = refl;
      given = given_so 1 (first 1) has_promised [] one_record (holds_none alloc) (holds_promise alloc) [] [] (is_first alloc 1) (is_promised alloc) (event.Frame 0 1 (bytes_for prepare short_prepare)) (call.Frame 0 (bytes_of prepare)) promising refl tt refl refl
          (frame_turn (place 1) (first 1) 0 (bytes_of prepare) prepare promising refl prepare_reads prepare_taken) (to_one 0 promise promise_reads);
      gains = one_more ample refl;
      moments = refl;
    };
  }

  promise_0 : Took paper (event.Frame 1 0 (bytes_for promise short_promise)) look_ticked_0 look_leading_0
  promise_0 = record {
    told = told_of leading;
    acts = record {
      config = refl;
      number = refl;
      given = given_so 0 prepares leads one_record two_records (holds_promise alloc) (holds_vote alloc) [] [] (is_prepared alloc) (is_leading alloc) (event.Frame 1 0 (bytes_for promise short_promise)) (call.Frame 1 (bytes_of promise)) leading refl tt refl refl
          (frame_turn (place 0) prepares 1 (bytes_of promise) promise leading refl promise_reads promise_taken)
          (and_more 1 accept (record { to = 2; message = accept } ∷ record { to = 1; message = accepted } ∷ record { to = 2; message = accepted } ∷ []) accept_reads
          (and_more 2 accept (record { to = 1; message = accepted } ∷ record { to = 2; message = accepted } ∷ []) accept_reads
          (and_more 1 accepted (record { to = 2; message = accepted } ∷ []) accepted_reads (to_one 2 accepted accepted_reads))));
      gains = one_more ample refl;
      moments = refl;
    };
  }

  accept_1 : Took paper (event.Frame 0 1 (bytes_for accept short_accept)) look_promised_1 look_voted_1
  accept_1 = record {
    told = told_of voting;
    acts = record {
      config = refl;
      number = refl;
      given = given_so 1 has_promised has_voted one_record two_records (holds_promise alloc) (holds_vote alloc) [] [] (is_promised alloc) (is_voted alloc) (event.Frame 0 1 (bytes_for accept short_accept)) (call.Frame 0 (bytes_of accept)) voting refl tt refl refl
          (frame_turn (place 1) has_promised 0 (bytes_of accept) accept voting refl accept_reads accept_taken) (and_more 0 accepted (record { to = 2; message = accepted } ∷ []) accepted_reads (to_one 2 accepted accepted_reads));
      gains = one_more ample refl;
      moments = refl;
    };
  }

  vote_0 : Took paper (event.Frame 1 0 (bytes_for accepted short_accepted)) look_leading_0 look_knowing_0
  vote_0 = record {
    told = told_of learning;
    acts = record {
      config = refl;
      number = refl;
      given = given_so 0 leads knows two_records two_records (holds_vote alloc) (holds_vote alloc) [] dealt_hand (is_leading alloc) (is_knowing alloc) (event.Frame 1 0 (bytes_for accepted short_accepted)) (call.Frame 1 (bytes_of accepted)) learning refl tt refl refl
          (frame_turn (place 0) leads 1 (bytes_of accepted) accepted learning refl accepted_reads accepted_taken) (λ one there. absurd there);
      gains = one_more ample refl;
      moments = refl;
    };
  }

  pub two_deal : TwoDeal paper
  two_deal = record {
    opened_0 = over_disk 0 (new_disk 0);
    opened_1 = over_disk 1 (new_disk 1);
    is_opened_0 = first_opened paper (new_disk 0) (is_new_disk 0);
    is_opened_1 = second_opened paper (new_disk 1) (is_new_disk 1);
    started_0 = look_started_0;
    connected_0 = look_connected_0;
    greeted_0 = look_greeted_0;
    ticked_0 = look_ticked_0;
    leading_0 = look_leading_0;
    knowing_0 = look_knowing_0;
    started_1 = look_started_1;
    promised_1 = look_promised_1;
    voted_1 = look_voted_1;
    start_0 = started_0;
    start_1 = started_1;
    connect = connect_0;
    line_bytes = bytes_of_bot;
    line_is = refl;
    gets_line = line_0;
    tick = ticks_0;
    prepare_bytes = bytes_for prepare short_prepare;
    prepare_is = refl;
    gets_prepare = prepare_1;
    promise_bytes = bytes_for promise short_promise;
    promise_is = refl;
    gets_promise = promise_0;
    accept_bytes = bytes_for accept short_accept;
    accept_is = refl;
    gets_accept = accept_1;
    vote_bytes = bytes_for accepted short_accepted;
    vote_is = refl;
    gets_vote = vote_0;
  }
