-- A call of a node, given by an event, is a call by the rules.
use Rattle.std.proofs.Common.{◌≡◌, ℕ, zero, suc, ◌<◌, inl, inr, Bool, true, false, List, [], ◌∷◌, map, length, get_or, set, Option, Some, None, Result, Ok, Err, IsTrue, refl, ap, sym, ◌∙◌, subst, arith}
use Rattle.std.proofs.lemmas.List.{get_or_default, set-get_or}
use Rattle.paxos_wire.specs.Spelling.{frame}
use Rattle.paxos_wire.specs.Faults.{reading}
use Rattle.promise_store.specs.declared.disk.Disk.{Ghosts}
use Rattle.protocol_model.specs.Sets.{In}
use Rattle.protocol_model.specs.Stores.{Store, empty_store}
use Rattle.protocol_model.specs.Dealers as model
use Rattle.dealer_kind.specs.Plans.{Plan}
use Rattle.slot_log.specs.Slots.{front}
use Rattle.node_rules.specs.Standings.{Place, Standing, place_of, front_of, stopped}
use Rattle.node_rules.specs.Sending.{Frame as Outgoing}
use Rattle.node_rules.specs.Showing.{Piece as Shown, SeatFault}
use Rattle.node_rules.specs.Turns.{Refusal, Down, Spent, BadFrame, Conflict, NothingToAct}
use Rattle.node_rules.specs.Calls.{Call, Start, Tick, Away, Line, Connect, Drop, Stop}
use Rattle.node_rules.specs.Calls as call
use Rattle.node_rules.specs.Called.{Ends, took, refused, failed, unchanged}
use Rattle.dealer_node.specs.Nodes.{Node}
use Rattle.dealer_node.specs.declared.fault.NodeFault.{NodeFault}
use Rattle.dealer_node.specs.declared.fault.NodeFault.TheVariants as fault
use Rattle.dealer_node.specs.Outs.{Told, nothing_told, both_told}
use Rattle.dealer_node.specs.declared.up.Up.{Up}
use Rattle.dealer_node.specs.Members.{Membership, place_at}
use Rattle.dealer_node.specs.Turned.{reader_of, framed, printed, fault_of}
use Rattle.dealer_node.specs.Seeing.{member_in, runs, front_by, front_in, IsSeenBy, IsSeen}
use Rattle.dealer_node.specs.Taking.{Answered, IsStart, refusal_fault}
use Rattle.dealer_world.specs.declared.event.Event.{Event}
use Rattle.dealer_world.specs.declared.event.Event.TheVariants as event
use Rattle.dealer_world.specs.Records.{Record}
use Rattle.dealer_world.specs.Calls.{Text}
use Rattle.dealer_world.specs.Views.{grown}
use Rattle.dealer_world.specs.Runs.{AreWritten, text_by_rule, arrived_by, arrived_at, begins_by, Keeps, IsSeated, Ruled}
use Rattle.dealer_world.specs.RuleRuns.{State, step}
use Rattle.dealer_world.specs.Headline.{Era}
use Rattle.dealer_world.specs.KeptShown.{reader_by}
use Rattle.dealer_world.specs.Recordings.{frame_by, text_by, made_by}
use Rattle.dealer_world.specs.Events.{node_of, call_of, brought_by}
use Rattle.dealer_world.specs.Stepping.{IsFor, IsGiven, arrived_by_event, may_begin, begins_by_event}
use Rattle.dealer_world.specs.Ruling.{AreSeen, AreRuled}

-- ---- what it made

same_reader : (reader : model.Reader) → reader_by (reader_of reader) ≡ reader
same_reader (model.Seat seat) = refl
same_reader model.Log = refl

pub same_texts : (shown : List Shown) → map text_by (map printed shown) ≡ map text_by_rule shown
same_texts [] = refl
same_texts (piece ∷ shown) =
    let first : Text → List Text = λ text. text ∷ map text_by (map printed shown) in
    ap (λ reader. first (record { reader = reader; text = piece.text })) (same_reader piece.reader) ∙ ap (λ texts. text_by_rule piece ∷ texts) (same_texts shown)

pub written : (i : ℕ) (frames : List Outgoing) → ((one : Outgoing) → In one frames → reading (frame one.message) ≡ Ok one.message) → AreWritten i frames (map (frame_by i) (map framed frames))
written i [] fits = tt
written i (one ∷ frames) fits = (refl, refl, refl, fits one (inl refl), written i frames (λ other there. fits other (inr there)))

-- ---- what arrived, and whether a start began

pub brought : (front : ℕ) (e : Event) (found : Store) → brought_by front e ≡ arrived_by (node_of e) front (call_of found e)
brought front (event.Frame from to bytes) found = refl
brought front (event.Line node seat bytes) found = refl
brought front (event.Tick node) found = refl
brought front (event.Away node) found = refl
brought front (event.Connect node seat) found = refl
brought front (event.Drop node seat) found = refl
brought front (event.Stop node pick) found = refl
brought front (event.Start node) found = refl

pub arrives : (up : Bool) (front : ℕ) (e : Event) (found : Store) → arrived_by_event up front e ≡ arrived_at up (node_of e) front (call_of found e)
arrives true front e found = brought front e found
arrives false front e found = refl

begins : (up : Bool) (e : Event) (found : Store) → may_begin up e ≡ begins_by up (call_of found e)
begins up (event.Frame from to bytes) found = refl
begins up (event.Line node seat bytes) found = refl
begins up (event.Tick node) found = refl
begins up (event.Away node) found = refl
begins up (event.Connect node seat) found = refl
begins up (event.Drop node seat) found = refl
begins up (event.Stop node pick) found = refl
begins true (event.Start node) found = refl
begins false (event.Start node) found = refl

begins_not : (up : Bool) (e : Event) (answer : Result (Unit {0}) NodeFault) (why : NodeFault) → answer ≡ Err why → begins_by_event up e answer ≡ false
begins_not up e answer why is = ap (begins_by_event up e) is

down_at_start : (up : Bool) (called : Call) → IsStart up called → up ≡ false
down_at_start false (Start found) is = refl
down_at_start false Tick is = absurd is
down_at_start false Away is = absurd is
down_at_start false (call.Frame from bytes) is = absurd is
down_at_start false (Line seat bytes) is = absurd is
down_at_start false (Connect seat) is = absurd is
down_at_start false (Drop seat) is = absurd is
down_at_start false Stop is = absurd is
down_at_start true called is = absurd is

pub kept : (place : Place) (s : Standing) (e : Event) (found : Store) (after : Standing) (frames : List Outgoing) (shown : List Shown) (faults : List SeatFault)
    (answer : Result (Unit {0}) NodeFault) (up : Bool) (front : ℕ) → place.node ≡ node_of e → up ≡ s.up → front ≡ front_of s → (answer ≡ Err fault.OutOfMemory → ⊥)
    → (ends : Ends place s (call_of found e) after frames shown) → Answered place s (call_of found e) after frames shown ends faults answer
    → Keeps place s (call_of found e) after frames shown ends (arrived_by_event up front e) (begins_by_event up e answer)
kept place s e found after frames shown faults answer up front here is same ample ends answered = by_end ends answered
  where
    arrived : arrived_by_event up front e ≡ arrived_at s.up place.node (front_of s) (call_of found e)
    arrived = arrives up front e found
        ∙ (ap (λ u. arrived_at u (node_of e) front (call_of found e)) is
        ∙ (ap (λ i. arrived_at s.up i front (call_of found e)) (sym here) ∙ ap (λ n. arrived_at s.up place.node n (call_of found e)) same))

    by_end : (ends : Ends place s (call_of found e) after frames shown) → Answered place s (call_of found e) after frames shown ends faults answer
        → Keeps place s (call_of found e) after frames shown ends (arrived_by_event up front e) (begins_by_event up e answer)
    by_end (took turn rule a b c) (told, ok) = (arrived, ap (begins_by_event up e) ok ∙ (begins up e found ∙ ap (λ u. begins_by u (call_of found e)) is))
    by_end (refused refusal rule a b c) (told, err) = (arrived, begins_not up e answer _ err)
    by_end (failed outcome begun ran rule d a b c) (told, err) = (arrived, begins_not up e answer _ err)
    by_end (unchanged a b c) (told, inl none) = absurd (ample none)
    by_end (unchanged a b c) (told, inr (start, err)) = (ap (λ u. arrived_by_event u front e) (is ∙ down_at_start s.up (call_of found e) start), begins_not up e answer _ err)

abbrev pub ruled_by : (place : Place) (s : Standing) (e : Event) (found : Store) (after : Standing) (frames : List Outgoing) (shown : List Shown) (faults : List SeatFault)
    (answer : Result (Unit {0}) NodeFault) (told : Told) (up : Bool) (front : ℕ) → place.node ≡ node_of e → up ≡ s.up → front ≡ front_of s → (answer ≡ Err fault.OutOfMemory → ⊥)
    → IsSeated place.setting.game.players (call_of found e)
    → (ends : Ends place s (call_of found e) after frames shown) → Answered place s (call_of found e) after frames shown ends faults answer
    → told ≡ both_told nothing_told (record { frames = map framed frames; shown = map printed shown; faults = map fault_of faults })
    → ((one : Outgoing) → In one frames → reading (frame one.message) ≡ Ok one.message)
    → Ruled place s (call_of found e) (arrived_by_event up front e) (made_by (node_of e) told (begins_by_event up e answer)) after
ruled_by place s e found after frames shown faults answer told up front here is same ample seated ends answered made fits = record {
  frames = frames;
  shown = shown;
  ends = ends;
  seated = seated;
  written = subst (λ i. AreWritten place.node frames (map (frame_by i) told.frames)) here
      (subst (λ (t : Told). AreWritten place.node frames (map (frame_by place.node) t.frames)) (sym made) (written place.node frames fits));
  texts = ap (λ (t : Told). map text_by t.shown) made ∙ same_texts shown;
  keeps = kept place s e found after frames shown faults answer up front here is same ample ends answered;
}

-- ---- what its node is seen as

module _ {D : Type 0} (g : Ghosts D) where
  front_by_seen : (member : Membership) (up : Option (Up D)) (disk : Option D) (s : Standing) → IsSeenBy g member up disk s → front_by up ≡ front_of s
  front_by_seen member (Some up) disk s seen = λ i. front ((seen.running.learned i).log)
  front_by_seen member None (Some disk) s seen = sym (ap front_of seen.stopped)
  front_by_seen member None None s seen = absurd seen

  -- its front, running or not
  pub front_seen : (node : Node D) (s : Standing) → IsSeen g node s → front_in node ≡ front_of s
  front_seen node s seen = front_by_seen node.member node.up node.disk s seen.by

  pub same_count : (nodes : List (Node D)) (standings : List Standing) → AreSeen g nodes standings → length nodes ≡ length standings
  same_count [] [] seen = refl
  same_count [] (s ∷ standings) seen = absurd seen
  same_count (node ∷ nodes) [] seen = absurd seen
  same_count (node ∷ nodes) (s ∷ standings) (is, seen) = ap suc (same_count nodes standings seen)

  pub seen_at : (nodes : List (Node D)) (standings : List Standing) (i : ℕ) (d : Node D) (e : Standing) → i < length nodes → AreSeen g nodes standings
      → IsSeen g (get_or nodes i d) (get_or standings i e)
  seen_at [] standings i d e less seen = absurd (omega arith)
  seen_at (node ∷ nodes) [] i d e less seen = absurd seen
  seen_at (node ∷ nodes) (s ∷ standings) zero d e less (is, seen) = is
  seen_at (node ∷ nodes) (s ∷ standings) (suc i) d e less (is, seen) = seen_at nodes standings i d e (omega arith) seen

  pub seen_set : (nodes : List (Node D)) (standings : List Standing) (i : ℕ) (node : Node D) (s : Standing) → AreSeen g nodes standings → IsSeen g node s
      → AreSeen g (set nodes i node) (set standings i s)
  seen_set [] [] i node s seen is = seen
  seen_set [] (t ∷ standings) i node s seen is = absurd seen
  seen_set (other ∷ nodes) [] i node s seen is = absurd seen
  seen_set (other ∷ nodes) (t ∷ standings) zero node s (was, seen) is = (is, seen)
  seen_set (other ∷ nodes) (t ∷ standings) (suc i) node s (was, seen) is = (was, seen_set nodes standings i node s seen is)

-- ---- a call of one node of the cluster

pub seated : (nodes players : ℕ) (e : Event) (found : Store) → IsFor nodes players e → IsSeated players (call_of found e)
seated nodes players (event.Frame from to bytes) found is = tt
seated nodes players (event.Line node seat bytes) found (here, seat_here) = seat_here
seated nodes players (event.Tick node) found is = tt
seated nodes players (event.Away node) found is = tt
seated nodes players (event.Connect node seat) found (here, seat_here) = seat_here
seated nodes players (event.Drop node seat) found (here, seat_here) = seat_here
seated nodes players (event.Stop node pick) found is = tt
seated nodes players (event.Start node) found is = tt

pub node_within : (nodes players : ℕ) (e : Event) → IsFor nodes players e → node_of e < nodes
node_within nodes players (event.Frame from to bytes) (other, here) = here
node_within nodes players (event.Line node seat bytes) (here, seat_here) = here
node_within nodes players (event.Tick node) here = here
node_within nodes players (event.Away node) here = here
node_within nodes players (event.Connect node seat) (here, seat_here) = here
node_within nodes players (event.Drop node seat) (here, seat_here) = here
node_within nodes players (event.Stop node pick) here = here
node_within nodes players (event.Start node) here = here

-- a turn, a refusal and a failed disk aren't want of memory
ample_fault : (refusal : Refusal) → refusal_fault refusal ≡ fault.OutOfMemory → ⊥
ample_fault Down e = cc
ample_fault Spent e = cc
ample_fault (BadFrame why) e = cc
ample_fault (Conflict store) e = cc
ample_fault NothingToAct e = cc

-- what an answer refuses
abbrev pub fault_in : Result (Unit {0}) NodeFault → NodeFault
fault_in (Ok done) = fault.Down
fault_in (Err why) = why

pub fault_is : (a b : Result (Unit {0}) NodeFault) → a ≡ b → fault_in a ≡ fault_in b
fault_is a b is = ap fault_in is

pub err_is : (a b : NodeFault) (answer : Result (Unit {0}) NodeFault) → answer ≡ Err a → answer ≡ Err b → a ≡ b
err_is a b answer is_a is_b = fault_is (Err a) (Err b) (sym is_a ∙ is_b)

pub same_after : (place : Place) (s : Standing) (called : Call) (after : Standing) (frames : List Outgoing) (shown : List Shown) (faults : List SeatFault)
    (answer : Result (Unit {0}) NodeFault) → answer ≡ Err fault.OutOfMemory
    → (ends : Ends place s called after frames shown) → Answered place s called after frames shown ends faults answer → after ≡ s
same_after place s called after frames shown faults answer none (took turn rule a b c) (told, ok) = absurd (let e : Ok tt ≡ Err fault.OutOfMemory = sym ok ∙ none in cc)
same_after place s called after frames shown faults answer none (refused refusal rule a b c) (told, err) = absurd (ample_fault refusal (err_is _ _ answer err none))
same_after place s called after frames shown faults answer none (failed outcome begun ran rule d a b c) (told, err) = absurd (let e = err_is _ _ answer err none in cc)
same_after place s called after frames shown faults answer none (unchanged same b c) answered = same

module _ {D : Type 0} (g : Ghosts D) where
  -- a call keeps the nodes those of a run of the rules
  pub runs_on : (plan : Plan) (eras : List Era) (nodes : List (Node D)) (e : Event) (old new : Node D) (told : Told) (answer : Result (Unit {0}) NodeFault) (all : Record)
      → place_at (member_in old) ≡ place_of plan (node_of e) → node_of e < length nodes → get_or nodes (node_of e) old ≡ old
      → IsFor (length nodes) plan.setting.game.players e → IsTrue g.is_honest → ((s : Standing) → IsSeen g old s → runs old ≡ s.up)
      → IsGiven g e old new told answer → (answer ≡ Err fault.OutOfMemory → ⊥) → AreRuled g plan eras nodes all
      → AreRuled g plan eras (set nodes (node_of e) new) (grown all (node_of e) (arrived_by_event (runs old) (front_in old) e) (made_by (node_of e) told (begins_by_event (runs old) e answer)))
  runs_on plan eras nodes e old new told answer all placed less at is_for honest is_up given ample ruled =
      let i = node_of e in
      let d : Standing = stopped (place_of plan i) empty_store empty_store in
      let s : Standing = get_or ruled.standings i d in
      let count = same_count g nodes ruled.standings ruled.seen in
      let seen : IsSeen g old s = subst (λ node. IsSeen g node s) at (seen_at g nodes ruled.standings i old d less ruled.seen) in
      let t = given.taken s honest seen in
      let takes = t.1 in
      let called = call_of t.0 e in
      let moved = subst (λ (p : Place). (ends : Ends p s called takes.after takes.frames takes.shown) × Answered p s called takes.after takes.frames takes.shown ends takes.faults answer)
      placed (takes.ends, takes.answered) in
      let all_new = grown all i (arrived_by_event (runs old) (front_in old) e) (made_by i told (begins_by_event (runs old) e answer)) in
      let new_state : State = record { standings = set ruled.standings i takes.after; now = all_new } in
      record {
        standings = set ruled.standings i takes.after;
        seen = seen_set g nodes ruled.standings i new takes.after ruled.seen takes.now;
        runs = step eras plan.sources (record { standings = ruled.standings; now = all }) new_state ruled.runs (record {
          node = i;
          is_node = subst (λ n. i < n) count less;
          before = s;
          at = get_or_default ruled.standings i s d (subst (λ n. i < n) count less);
          called = called;
          arrived = arrived_by_event (runs old) (front_in old) e;
          made = made_by i told (begins_by_event (runs old) e answer);
          after = takes.after;
          ruled = ruled_by (place_of plan i) s e t.0 takes.after takes.frames takes.shown takes.faults answer told (runs old) (front_in old) refl (is_up s seen) (front_seen g old s seen) ample
              (seated (length nodes) plan.setting.game.players e t.0 is_for) moved.0 moved.1 takes.told takes.fits;
          standings = refl;
          grows = refl;
        });
      }

  -- one that found no memory leaves them so
  pub runs_still : (plan : Plan) (eras : List Era) (nodes : List (Node D)) (e : Event) (old new : Node D) (told : Told) (answer : Result (Unit {0}) NodeFault) (all : Record)
      → node_of e < length nodes → get_or nodes (node_of e) old ≡ old → IsTrue g.is_honest
      → IsGiven g e old new told answer → answer ≡ Err fault.OutOfMemory → AreRuled g plan eras nodes all
      → AreRuled g plan eras (set nodes (node_of e) new) all
  runs_still plan eras nodes e old new told answer all less at honest given none ruled =
      let i = node_of e in
      let d : Standing = stopped (place_of plan i) empty_store empty_store in
      let s : Standing = get_or ruled.standings i d in
      let seen : IsSeen g old s = subst (λ node. IsSeen g node s) at (seen_at g nodes ruled.standings i old d less ruled.seen) in
      let takes = (given.taken s honest seen).1 in
      let same : takes.after ≡ s = same_after (place_at (member_in old)) s (call_of (given.taken s honest seen).0 e) takes.after takes.frames takes.shown takes.faults answer none takes.ends takes.answered in
      record {
        standings = ruled.standings;
        seen = subst (λ (standings : List Standing). AreSeen g (set nodes i new) standings) (ap (set ruled.standings i) same ∙ set-get_or ruled.standings i d)
            (seen_set g nodes ruled.standings i new takes.after ruled.seen takes.now);
        runs = ruled.runs;
      }
