-- A process of a node that deals: what it holds and did after each of its calls, and that it is a station.
use Rattle.std.proofs.Common.{◌≡◌, ◌⊎◌, ℕ, ◌<◌, Bool, true, false, List, [], ◌∷◌, ◌++◌, length, map, inl, inr, Result, Ok, Err, IsTrue, refl, ap, sym, ◌∙◌, subst, arith}
use Rattle.std.proofs.Math.Logic.{∥∥₁_map}
use Rattle.std.specs.Global.{Vec}
use Rattle.promise_store.specs.declared.disk.Disk.{Ghosts}
use Rattle.promise_store.specs.declared.records.Record.{Record}
use Rattle.promise_store.specs.Journals.{header}
use Rattle.promise_store.specs.Holding.{StandsFor, holding, store_of}
use Rattle.promise_store.proofs.Journals.{one_journal}
use Rattle.paxos_wire.specs.declared.message.Message.{Message}
use Rattle.paxos_wire.specs.declared.fault.FrameFault.{FrameFault}
use Rattle.paxos_wire.specs.Faults.{reading}
use Rattle.paxos_wire.specs.Spelling.{frame as bytes_of}
use Rattle.slot_log.specs.declared.command.Command.{Command}
use Rattle.protocol_model.specs.Stores.{Store, empty_store}
use Rattle.node_rules.specs.Standings.{Place, Standing, front_of, stopped, applied}
use Rattle.node_rules.specs.Turns.{Turn, Refusal, and_then}
use Rattle.node_rules.specs.Proposing.{ticking, closing}
use Rattle.node_rules.specs.Calls.{Call, Start, Tick, Connect, Line}
use Rattle.node_rules.specs.Seats.{connecting}
use Rattle.node_rules.specs.Calls as call
use Rattle.node_rules.specs.Rules.{IsTurn, IsTurnBy, on_message, on_read, starting}
use Rattle.node_rules.specs.Called.{took}
use Rattle.dealer_node.specs.Nodes.{Node}
use Rattle.dealer_node.specs.declared.fault.NodeFault.{NodeFault}
use Rattle.dealer_node.specs.declared.fault.NodeFault.TheVariants as fault
use Rattle.dealer_node.specs.Outs.{Told}
use Rattle.dealer_node.specs.Members.{place_at}
use Rattle.dealer_node.specs.Turned.{framed, printed, told_of}
use Rattle.dealer_node.specs.Scenes.{IsTableOf}
use Rattle.dealer_node.specs.Seeing.{member_in, runs, front_in, table_in, IsSeen, begun_of}
use Rattle.dealer_node.proofs.AsOne.{tells_up}
use Rattle.dealer_world.specs.declared.event.Event.{Event}
use Rattle.dealer_world.specs.declared.event.Event.TheVariants as event
use Rattle.dealer_world.specs.Records.{Arrived, Delivered, Connected, Came}
use Rattle.dealer_world.specs.Events.{node_of, call_of}
use Rattle.dealer_world.specs.Recordings.{frame_by, text_by}
use Rattle.dealer_world.specs.Runs.{Ruled, IsSeated, arrived_at, begins_by}
use Rattle.dealer_world.specs.Stepping.{IsFor}
use Rattle.stations.specs.Deeds.{Deed, Did, new_at}
use Rattle.stations.specs.Moments.{Moment, moment_now, EndNow, MakesTable}
use Rattle.stations.specs.Stations.{Look, known_place, deed_by, GainsDeed, nothing, call as one_more, LeavesFile, IsTrueTo, AreTrueTo, Acts, Works, opened, acted, Has}
use Rattle.stations.proofs.OwnTables.{put_now, tables_then, has_its_table}
use Rattle.joined_lines.proofs.WitnessRules.{AreRead, place, first}
use Rattle.joined_lines.proofs.WitnessCalls.{ComesTo, takes_turn, written_so, printed_so}

-- ---- deeds

-- what node i did by a call with this turn
abbrev pub deed_so : ℕ → List Arrived → Bool → Turn → Deed
deed_so i arrived began turn =
    record { arrived = arrived; made = record { frames = map (frame_by i) (map framed turn.frames); texts = map text_by (map printed turn.shown); began = began } }

abbrev pub got : ℕ → ℕ → Message → Turn → Deed
got from i message turn = deed_so i (Delivered (record { from = from; to = i; bytes = bytes_of message }) ∷ []) false turn

gained : (up : Bool) (front : ℕ) (e : Event) (told : Told) (old new : List Deed) → GainsDeed up front e told (Ok tt) old new → new ≡ deed_by up front e told (Ok tt) ∷ old
gained up front e told old new (nothing vain same) = absurd (none vain)
  where
    none : ◌≡◌ {A = Result (Unit {0}) NodeFault} (Ok tt) (Err fault.OutOfMemory) → ⊥
    none vain = cc
gained up front e told old new (one_more ample is) = is

-- ---- rules

frame_comes : (p : Place) (s : Standing) (from : ℕ) (bytes : List ℕ) (message : Message) (turn : Turn) → s.up ≡ true → reading bytes ≡ Ok message → on_message p from message s ≡ Ok turn
    → ComesTo p s (call.Frame from bytes) turn
frame_comes p s from bytes message turn up reads taken =
    subst (λ (b : Bool). (outcome : Result Turn Refusal) → IsTurnBy b p s (call.Frame from bytes) outcome → outcome ≡ Ok turn) (sym up)
    (λ outcome is. is ∙ (ap (λ (read : Result Message FrameFault). on_read p from read s) reads ∙ taken))

pub frame_turn : (p : Place) (s : Standing) (from : ℕ) (bytes : List ℕ) (message : Message) (turn : Turn) → s.up ≡ true → reading bytes ≡ Ok message → on_message p from message s ≡ Ok turn
    → IsTurn p s (call.Frame from bytes) (Ok turn)
frame_turn p s from bytes message turn up reads taken =
    subst (λ (b : Bool). IsTurnBy b p s (call.Frame from bytes) (Ok turn)) (sym up) (sym (ap (λ (read : Result Message FrameFault). on_read p from read s) reads ∙ taken))

ruled_so : (i : ℕ) (s : Standing) (called : Call) (arrived : List Arrived) (began : Bool) (turn : Turn) → IsTurn (place i) s called (Ok turn) → AreRead turn.frames → IsSeated 2 called
    → arrived ≡ arrived_at s.up i (front_of s) called → began ≡ begins_by s.up called
    → Ruled (place i) s called arrived (deed_so i arrived began turn).made turn.after
ruled_so i s called arrived began turn rule reads seated arrives begins = record {
  frames = turn.frames;
  shown = turn.shown;
  ends = took turn rule refl refl refl;
  seated = seated;
  written = written_so i turn.frames reads;
  texts = printed_so turn.shown;
  keeps = (arrives, begins);
}

-- ---- a start

stands_as_one : (head bytes : List ℕ) (a b : Store) → StandsFor head bytes a → StandsFor head bytes b → a ≡ b
stands_as_one head bytes a b one other =
    one.is ∙ (ap (λ (records : List Record). store_of (holding head records)) (one_journal head bytes one.records other.records one.journal other.journal) ∙ sym other.is)

-- what a start over a new store did
abbrev pub started : ℕ → Deed
started i = deed_so i [] true (starting (place i) empty_store)

start_comes : (i : ℕ) (found : Store) → ComesTo (place i) (new_at (place i)) (Start found) (starting (place i) empty_store)
start_comes i found outcome (inl is, taken) = taken ∙ ap (λ (store : Store). Ok (starting (place i) store)) is
start_comes i found outcome (inr is, taken) = taken ∙ ap (λ (store : Store). Ok (starting (place i) store)) is

none_asked : (i : ℕ) → AreRead (starting (place i) empty_store).frames
none_asked i one there = absurd there

starts_from : (i : ℕ) (store begun : Store) → (empty_store ≡ store) ⊎ (empty_store ≡ begun) → Ruled (place i) (stopped (place i) store begun) (Start empty_store) [] (started i).made (first i)
starts_from i store begun found =
    ruled_so i (stopped (place i) store begun) (Start empty_store) [] true (starting (place i) empty_store) (found, refl) (none_asked i) tt refl refl

module _ {D : Type 0} (g : Ghosts D) where
  -- an event was given to a process, and it took it
  pub record Took (e : Event) (old new : Look (Node D)) : Type 0 where
    pub told : Told
    pub acts : Acts g e told (Ok tt) old new

module _ {D : Type 0} (g : Ghosts D) (i : ℕ) (file : List ℕ) where
  -- a process of node i that was opened on this file, over which nothing is stored
  pub record IsOpened (look : Look (Node D)) : Type 0 where
    pub known : known_place look ≡ place i
    pub at : place_at (member_in look.node) ≡ place i
    pub begun : begun_of g look.node ≡ file
    pub seen : IsSeen g look.node (new_at (place i))
    pub deeds_are : look.deeds ≡ []
    pub moments_are : look.moments ≡ moment_now look.node [] ∷ []

  -- and what it is after these deeds: whatever its node did before that left the file, it holds and knows this
  pub record Stands (s : Standing) (deeds : List Deed) (look : Look (Node D)) : Type 0 where
    pub known : known_place look ≡ place i
    pub at : place_at (member_in look.node) ≡ place i
    pub begun : begun_of g look.node ≡ file
    pub seen : IsSeen g look.node s
    pub deeds_are : look.deeds ≡ deeds
    pub did : (before : List Deed) → LeavesFile (place i) file before → Did (place i) (new_at (place i)) (deeds ++ before) s
    pub now : EndNow look.node look.deeds look.moments
    pub tables : AreTrueTo g (place i) look.node look.moments
    pub works : Works g (place i) file look

module _ {D : Type 0} (g : Ghosts D) (honest : IsTrue g.is_honest) (i : ℕ) (is_node : i < 3) (file : List ℕ) (new_file : StandsFor (header i 3) file empty_store) where
  -- ---- its calls

  known_still : (e : Event) (old new : Look (Node D)) → Took g e old new → known_place old ≡ place i → known_place new ≡ place i
  known_still e old new it was = ap (λ config. known_place (record new { config = config })) it.acts.config ∙ (ap (λ (n : ℕ). known_place (record old { number = n })) it.acts.number ∙ was)

  at_still : (e : Event) (old new : Look (Node D)) → Took g e old new → place_at (member_in old.node) ≡ place i → place_at (member_in new.node) ≡ place i
  at_still e old new it was = ap place_at it.acts.given.stays.member ∙ was

  deeds_now : (e : Event) (s : Standing) (deed : Deed) (deeds : List Deed) (turn : Turn) (old new : Look (Node D)) (it : Took g e old new) → IsSeen g old.node s → old.deeds ≡ deeds
      → it.told ≡ told_of turn → ((front : ℕ) → deed_by s.up front e (told_of turn) (Ok tt) ≡ deed) → new.deeds ≡ deed ∷ deeds
  deeds_now e s deed deeds turn old new it seen were told deed_is =
      gained (runs old.node) (front_in old.node) e it.told old.deeds new.deeds it.acts.gains
      ∙ (ap (λ (up : Bool). deed_by up (front_in old.node) e it.told (Ok tt) ∷ old.deeds) (tells_up g old.node s seen)
      ∙ (ap (λ (told : Told). deed_by s.up (front_in old.node) e told (Ok tt) ∷ old.deeds) told
      ∙ (ap (λ (own : Deed). own ∷ old.deeds) (deed_is (front_in old.node)) ∙ ap (λ (own : List Deed). deed ∷ own) were)))

  -- ---- its tables

  true_so : (s : Standing) (deeds : List Deed) (look : Look (Node D)) → begun_of g look.node ≡ file → IsSeen g look.node s → look.deeds ≡ deeds
      → ((before : List Deed) → LeavesFile (place i) file before → Did (place i) (new_at (place i)) (deeds ++ before) s) → IsTrueTo g (place i) look.node look.deeds
  true_so s deeds look begun seen are did before left honest =
      ∥∥₁_map (subst (λ (f : List ℕ). ∥ LeavesFile (place i) f before ∥₁) begun left) (λ was.
      record { s = s; seen = seen; did = subst (λ (own : List Deed). Did (place i) (new_at (place i)) (own ++ before) s) (sym are) (did before was) })

  first_table : (look : Look (Node D)) → IsOpened g i file look → AreTrueTo g (place i) look.node look.moments
  first_table look was = subst (AreTrueTo g (place i) look.node) (sym was.moments_are) (λ before left honest moment there.
      elim there as (λ _. ∥ MakesTable (place i) (moment.deeds ++ before) moment.table ∥₁) [
        | inl is ↦
            subst (λ (m : Moment). ∥ MakesTable (place i) (m.deeds ++ before) m.table ∥₁) (sym is)
            (∥∥₁_map (subst (λ (f : List ℕ). ∥ LeavesFile (place i) f before ∥₁) was.begun left) (λ was_left.
            record {
              s = was_left.s;
              did = was_left.did;
              runs = inr (ap applied was_left.down);
              table_is = subst (λ (commands : List Command). IsTableOf (place i).setting commands (table_in look.node)) (sym (ap applied was_left.down))
                  (subst (λ (p : Place). IsTableOf p.setting [] (table_in look.node)) was.at (has_its_table g look.node (new_at (place i)) was.seen));
            }))
        | inr none ↦ absurd none
      ])

  tables_so : (e : Event) (old new : Look (Node D)) (it : Took g e old new) → place_at (member_in new.node) ≡ place i → IsTrueTo g (place i) new.node new.deeds
      → AreTrueTo g (place i) old.node old.moments → AreTrueTo g (place i) new.node new.moments
  tables_so e old new it at true_to tables = tables_then g (place i) e it.told (Ok tt) old new it.acts ∣ at ∣₁ true_to tables

  -- it is started
  pub starts : (old new : Look (Node D)) → IsOpened g i file old → Took g (event.Start i) old new → Stands g i file (first i) (started i ∷ []) new
  starts old new was it =
      let turn = starting (place i) empty_store in
      let took = takes_turn g (place i) (event.Start i) (new_at (place i)) old.node new.node it.told turn was.at honest was.seen it.acts.given (start_comes i) in
      let at = at_still (event.Start i) old new it was.at in
      let begun = it.acts.given.stays.begun ∙ was.begun in
      let deeds_are = deeds_now (event.Start i) (new_at (place i)) (started i) [] turn old new it was.seen was.deeds_are took.told_is (λ front. refl) in
      record {
        known = known_still (event.Start i) old new it was.known;
        at = at;
        begun = begun;
        seen = took.seen;
        deeds_are = deeds_are;
        did = did_start;
        now = put_now new.node new.deeds old.moments new.moments it.acts.moments;
        tables = tables_so (event.Start i) old new it at (true_so (first i) (started i ∷ []) new begun took.seen deeds_are did_start) (first_table old was);
        works = acted old new (event.Start i) it.told (Ok tt) (opened old was.known was.begun was.deeds_are was.moments_are) refl is_node it.acts;
      }
    where
      did_start : (before : List Deed) → LeavesFile (place i) file before → Did (place i) (new_at (place i)) (started i ∷ before) (first i)
      did_start before left =
          let found : (empty_store ≡ left.s.store) ⊎ (empty_store ≡ left.s.begun) = elim left.held as (λ _. (empty_store ≡ left.s.store) ⊎ (empty_store ≡ left.s.begun)) [
            | inl stands ↦ inl (stands_as_one (header i 3) file empty_store left.s.store new_file stands)
            | inr stands ↦ inr (stands_as_one (header i 3) file empty_store left.s.begun new_file stands)
          ] in
          (left.s, left.did, (Start empty_store, subst (λ (s : Standing). Ruled (place i) s (Start empty_store) [] (started i).made (first i)) (sym left.down) (starts_from i left.s.store left.s.begun found)))

  -- an event is given to it while it runs, of which its rule has this turn
  does : (e : Event) (called : Call) (arrived : List Arrived) (s : Standing) (turn : Turn) (deeds : List Deed) (old new : Look (Node D)) → Stands g i file s deeds old → Took g e old new
      → node_of e ≡ i → IsFor 3 2 e → ((found : Store) → ComesTo (place i) s (call_of found e) turn) → IsTurn (place i) s called (Ok turn) → IsSeated 2 called
      → arrived ≡ arrived_at s.up i (front_of s) called → false ≡ begins_by s.up called → ((front : ℕ) → deed_by s.up front e (told_of turn) (Ok tt) ≡ deed_so i arrived false turn)
      → Stands g i file turn.after (deed_so i arrived false turn ∷ deeds) new × AreRead turn.frames
  does e called arrived s turn deeds old new was it here is_for comes rule seated arrives begins deed_is =
      let took = takes_turn g (place i) e s old.node new.node it.told turn was.at honest was.seen it.acts.given comes in
      let ruled = ruled_so i s called arrived false turn rule took.reads seated arrives begins in
      let at = at_still e old new it was.at in
      let begun = it.acts.given.stays.begun ∙ was.begun in
      let deeds_are = deeds_now e s (deed_so i arrived false turn) deeds turn old new it was.seen was.deeds_are took.told_is deed_is in
      let did : (before : List Deed) → LeavesFile (place i) file before → Did (place i) (new_at (place i)) (deed_so i arrived false turn ∷ (deeds ++ before)) turn.after =
      (λ before left. (s, was.did before left, (called, ruled))) in (
        record {
          known = known_still e old new it was.known;
          at = at;
          begun = begun;
          seen = took.seen;
          deeds_are = deeds_are;
          did = did;
          now = put_now new.node new.deeds old.moments new.moments it.acts.moments;
          tables = tables_so e old new it at (true_so turn.after (deed_so i arrived false turn ∷ deeds) new begun took.seen deeds_are did) was.tables;
          works = acted old new e it.told (Ok tt) was.works here is_for it.acts;
        },
        took.reads,
      )

  -- it gets a frame
  pub gets : (from : ℕ) (bytes : Vec ℕ) (message : Message) (s : Standing) (turn : Turn) (deeds : List Deed) (old new : Look (Node D)) → Stands g i file s deeds old → Took g (event.Frame from i bytes) old new
      → from < 3 → s.up ≡ true → bytes.items ≡ bytes_of message → reading (bytes_of message) ≡ Ok message → on_message (place i) from message s ≡ Ok turn
      → Stands g i file turn.after (got from i message turn ∷ deeds) new × AreRead turn.frames
  gets from bytes message s turn deeds old new was it within up bytes_are reads taken =
      let e : Event = event.Frame from i bytes in
      let called = call.Frame from (bytes_of message) in
      does e called (Delivered (record { from = from; to = i; bytes = bytes_of message }) ∷ []) s turn deeds old new was it refl (within, is_node)
      (λ found. frame_comes (place i) s from bytes.items message turn up (ap reading bytes_are ∙ reads) taken) (frame_turn (place i) s from (bytes_of message) message turn up reads taken) tt
      (sym (ap (λ (b : Bool). arrived_at b i (front_of s) called) up)) (sym (ap (λ (b : Bool). begins_by b called) up))
      (λ front. ap (λ (b : Bool). deed_by b front e (told_of turn) (Ok tt)) up ∙ ap (λ (b : List ℕ). deed_so i (Delivered (record { from = from; to = i; bytes = b }) ∷ []) false turn) bytes_are)

  -- it ticks
  pub ticks : (s : Standing) (turn : Turn) (deeds : List Deed) (old new : Look (Node D)) → Stands g i file s deeds old → Took g (event.Tick i) old new → s.up ≡ true
      → and_then (ticking (place i) s) (closing (place i)) ≡ Ok turn → Stands g i file turn.after (deed_so i [] false turn ∷ deeds) new × AreRead turn.frames
  ticks s turn deeds old new was it up taken =
      does (event.Tick i) Tick [] s turn deeds old new was it refl is_node
      (λ found. subst (λ (b : Bool). (outcome : Result Turn Refusal) → IsTurnBy b (place i) s Tick outcome → outcome ≡ Ok turn) (sym up) (λ outcome is. is ∙ taken))
      (subst (λ (b : Bool). IsTurnBy b (place i) s Tick (Ok turn)) (sym up) (sym taken)) tt (sym (ap (λ (b : Bool). arrived_at b i (front_of s) Tick) up)) refl
      (λ front. ap (λ (b : Bool). deed_by b front (event.Tick i) (told_of turn) (Ok tt)) up)

  -- a bot connects to seat 0
  pub connects : (s : Standing) (turn : Turn) (deeds : List Deed) (old new : Look (Node D)) → Stands g i file s deeds old → Took g (event.Connect i 0) old new → s.up ≡ true → connecting 0 s ≡ turn
      → Stands g i file turn.after (deed_so i (Connected i 0 ∷ []) false turn ∷ deeds) new × AreRead turn.frames
  connects s turn deeds old new was it up taken =
      let ok : ◌≡◌ {A = Result Turn Refusal} (Ok (connecting 0 s)) (Ok turn) = ap (λ (t : Turn). Ok t) taken in
      does (event.Connect i 0) (Connect 0) (Connected i 0 ∷ []) s turn deeds old new was it refl (is_node, omega arith)
      (λ found. subst (λ (b : Bool). (outcome : Result Turn Refusal) → IsTurnBy b (place i) s (Connect 0) outcome → outcome ≡ Ok turn) (sym up) (λ outcome is. is ∙ ok))
      (subst (λ (b : Bool). IsTurnBy b (place i) s (Connect 0) (Ok turn)) (sym up) (sym ok)) (omega arith) (sym (ap (λ (b : Bool). arrived_at b i (front_of s) (Connect 0)) up)) refl
      (λ front. ap (λ (b : Bool). deed_by b front (event.Connect i 0) (told_of turn) (Ok tt)) up)

  -- and its bytes come
  pub hears : (bytes : Vec ℕ) (said : List ℕ) (s : Standing) (turn : Turn) (deeds : List Deed) (old new : Look (Node D)) → Stands g i file s deeds old → Took g (event.Line i 0 bytes) old new → s.up ≡ true
      → bytes.items ≡ said → ComesTo (place i) s (Line 0 said) turn → IsTurn (place i) s (Line 0 said) (Ok turn)
      → Stands g i file turn.after (deed_so i (Came i 0 said ∷ []) false turn ∷ deeds) new × AreRead turn.frames
  hears bytes said s turn deeds old new was it up bytes_are comes rule =
      does (event.Line i 0 bytes) (Line 0 said) (Came i 0 said ∷ []) s turn deeds old new was it refl (is_node, omega arith)
      (λ found. subst (λ (b : List ℕ). ComesTo (place i) s (Line 0 b) turn) (sym bytes_are) comes) rule (omega arith) (sym (ap (λ (b : Bool). arrived_at b i (front_of s) (Line 0 said)) up)) refl
      (λ front. ap (λ (b : Bool). deed_by b front (event.Line i 0 bytes) (told_of turn) (Ok tt)) up ∙ ap (λ (b : List ℕ). deed_so i (Came i 0 b ∷ []) false turn) bytes_are)

  -- ---- it is a station

  pub has : (s : Standing) (deeds : List Deed) (look : Look (Node D)) → Stands g i file s deeds look → Has g look
  has s deeds look stands =
      let number : look.number ≡ i = ap (λ (p : Place). p.node) stands.known in
      let nodes : length look.config.sources ≡ 3 = ap (λ (p : Place). p.nodes) stands.known in
      record {
        here = omega (arith, number, nodes, is_node);
        at_place = ∣ stands.at ∙ sym stands.known ∣₁;
        newest = stands.now;
        true_to = subst (λ (p : Place). IsTrueTo g p look.node look.deeds) (sym stands.known) (true_so s deeds look stands.begun stands.seen stands.deeds_are stands.did);
        tables = subst (λ (p : Place). AreTrueTo g p look.node look.moments) (sym stands.known) stands.tables;
        works = ∣ subst (λ (p : Place). Works g p (begun_of g look.node) look) (sym stands.known) (subst (λ (f : List ℕ). Works g (place i) f look) (sym stands.begun) stands.works) ∣₁;
      }
