-- Two of three nodes choose a deal: their processes, what they did, and a true order of it.
use Rattle.std.proofs.Common.{get_or, ◌≡◌, ℕ, zero, suc, ◌<◌, Bool, true, false, List, [], ◌∷◌, ◌++◌, take, Option, Some, None, inl, inr, Result, Ok, IsTrue, refl, ap, sym, ◌∙◌, subst, arith}
use Rattle.std.specs.Global.{Vec}
use Rattle.promise_store.specs.declared.disk.Disk.{Ghosts}
use Rattle.promise_store.specs.Journals.{header}
use Rattle.promise_store.specs.Holding.{StandsFor}
use Rattle.paxos_wire.specs.declared.message.Message.{Message as Wire}
use Rattle.paxos_wire.specs.declared.fault.FrameFault.{FrameFault}
use Rattle.paxos_wire.specs.Faults.{reading}
use Rattle.paxos_wire.specs.Spelling.{frame as bytes_of, frame_of as bytes_by}
use Rattle.protocol_model.specs.Sets.{In}
use Rattle.protocol_model.specs.Messages.{Message, Accepted}
use Rattle.protocol_model.specs.Quorums.{AreChosen}
use Rattle.protocol_model.specs.Stores.{empty_store}
use Rattle.dealer_kind.specs.Kind.{hands_after}
use Rattle.dealer_kind.specs.declared.source.Source.TheVariants.{Seed}
use Rattle.node_rules.specs.Standings.{hands_at}
use Rattle.node_rules.specs.Turns.{Turn, and_then}
use Rattle.node_rules.specs.Calls.{Line}
use Rattle.node_rules.specs.Rules.{IsTurn}
use Rattle.node_rules.specs.Proposing.{closing}
use Rattle.node_rules.specs.Seats.{hearing}
use Rattle.seat_session.specs.Session.{Standing as Talk}
use Rattle.seat_session.specs.declared.said.Said.{Said}
use Rattle.seat_session.specs.declared.said.Said.TheVariants.{Ready}
use Rattle.seat_session.specs.declared.session_fault.SessionFault.{SessionFault}
use Rattle.node_rules.proofs.Examples.{opened as opened_up, setting}
use Rattle.dealer_node.specs.Nodes.{Node}
use Rattle.dealer_node.specs.Seeing.{begun_of}
use Rattle.dealer_world.specs.declared.event.Event.TheVariants as event
use Rattle.dealer_world.specs.Records.{Frame, Arrival, said, said_by, messages_of, Connected, Came, Delivered}
use Rattle.dealer_world.specs.Unforged.{IsAmong, IsUnforged}
use Rattle.stations.specs.Deeds.{Deed, Doing, deeds_of, record_of}
use Rattle.stations.specs.Joining.{IsTrueOrder}
use Rattle.stations.specs.Moments.{moment_now}
use Rattle.stations.specs.Stations.{Look, Has}
use Rattle.stations.specs.Incarnations.{new_store}
use Rattle.stations.specs.Together.{HaveIncarnations, HaveHistories}
use Rattle.joined_lines.proofs.WitnessRules.{AreRead, plan, dealt, first_ballot, prepare, promise, accept, accepted, first, prepares, leads, knows, has_promised, has_voted, ticked, promising, leading, voting, learning, tick_taken, prepare_taken, promise_taken, accept_taken, accepted_taken, said_by_bot, ready, is_connected, is_ready, connecting_0, greeting, connect_taken, greeting_taken, drains, drains_so, place}
use Rattle.joined_lines.proofs.WitnessDisks.{created, is_new, IsNewDisk}
use Rattle.joined_lines.proofs.WitnessCalls.{ComesTo}
use Rattle.joined_lines.proofs.WitnessNodes.{deed_so, got, started, Took, IsOpened, Stands, starts, gets, ticks, has, connects, hears}

-- ---- the bytes of the bot

pub greet_comes : ComesTo (place 0) is_connected (Line 0 said_by_bot) greeting
greet_comes outcome (heard, (answers, new, drained, heard_is), is) =
    let same = drains_so (hands_at (place 0) is_connected) answers new drained in
    is ∙ (ap (λ (h : Turn). and_then (Ok h) (closing (place 0))) (heard_is ∙ (ap (λ (a : List (Result Said SessionFault)). hearing (place 0) 0 a new is_connected) same.0
    ∙ ap (λ (talk : Talk). hearing (place 0) 0 (Ok Ready ∷ []) talk is_connected) same.1)) ∙ greeting_taken)

pub greet_rule : IsTurn (place 0) is_connected (Line 0 said_by_bot) (Ok greeting)
greet_rule = (hearing (place 0) 0 (Ok Ready ∷ []) ready is_connected, (Ok Ready ∷ [], ready, drains (hands_at (place 0) is_connected), refl), sym greeting_taken)

-- ---- what they did, newest first

abbrev connecting_deed : Deed
connecting_deed = deed_so 0 (Connected 0 0 ∷ []) false connecting_0

abbrev greeting_deed : Deed
greeting_deed = deed_so 0 (Came 0 0 said_by_bot ∷ []) false greeting

abbrev ticking_deed : Deed
ticking_deed = deed_so 0 [] false ticked

abbrev leading_deed : Deed
leading_deed = got 1 0 promise leading

abbrev learning_deed : Deed
learning_deed = got 1 0 accepted learning

abbrev promising_deed : Deed
promising_deed = got 0 1 prepare promising

abbrev voting_deed : Deed
voting_deed = got 0 1 accept voting

abbrev pub did_by : ℕ → List Deed
did_by zero = learning_deed ∷ leading_deed ∷ ticking_deed ∷ greeting_deed ∷ connecting_deed ∷ started 0 ∷ []
did_by (suc zero) = voting_deed ∷ promising_deed ∷ started 1 ∷ []
did_by (suc (suc node)) = []

abbrev by : ℕ → Deed → Doing
by node deed = record { node = node; deed = deed }

abbrev pub in_order : List Doing
in_order = by 0 learning_deed ∷ by 1 voting_deed ∷ by 0 leading_deed ∷ by 1 promising_deed ∷ by 0 ticking_deed ∷ by 0 greeting_deed ∷ by 0 connecting_deed ∷ by 1 (started 1) ∷ by 0 (started 0) ∷ []

-- ---- their order is a true one

abbrev IsNode : Doing → Type 0
IsNode doing = doing.node < 3

abbrev frame_of : ℕ → ℕ → Wire → Frame
frame_of from to message = record { from = from; to = to; bytes = bytes_of message }

abbrev sent : List Frame
sent = frame_of 0 1 prepare ∷ frame_of 0 2 prepare ∷ frame_of 1 0 promise ∷ frame_of 0 1 accept ∷ frame_of 0 2 accept ∷ frame_of 0 1 accepted ∷ frame_of 0 2 accepted ∷ frame_of 1 0 accepted ∷ frame_of 1 2 accepted ∷ []

sent_is : (record_of in_order).sent ≡ sent
sent_is = refl

came_after : Arrival → Type 0
came_after a = IsAmong (take a.sent_before sent) a.what

each_came_after : IsUnforged (record_of in_order).sent (record_of in_order).delivered
unfolding came_after
each_came_after arrival there = elim there [
  | inl is ↦ subst came_after (sym is) tt
  | inr (inl is) ↦ subst came_after (sym is) tt
  | inr (inr (inl is)) ↦ subst came_after (sym is) (inl refl)
  | inr (inr (inr (inl is))) ↦ subst came_after (sym is) (inr (inr (inl refl)))
  | inr (inr (inr (inr (inl is)))) ↦ subst came_after (sym is) (inr (inr (inr (inl refl))))
  | inr (inr (inr (inr (inr (inl is))))) ↦ subst came_after (sym is) (inr (inr (inr (inr (inr (inr (inr (inl refl))))))))
  | inr (inr (inr (inr (inr (inr (none)))))) ↦ absurd none
]

own_deeds : (i : ℕ) → i < 3 → deeds_of in_order i ≡ did_by i
own_deeds zero less = refl
own_deeds (suc zero) less = refl
own_deeds (suc (suc zero)) less = refl
own_deeds (suc (suc (suc i))) less = absurd (omega (arith, less))

-- whatever histories are theirs
pub in_true_order : (histories : ℕ → List Deed) → ((i : ℕ) → i < 3 → did_by i ≡ histories i) → IsTrueOrder 3 histories in_order
in_true_order histories are = record {
  order = record {
    nodes = λ doing there. elim there [
      | inl is ↦ subst IsNode (sym is) (omega arith)
      | inr (inl is) ↦ subst IsNode (sym is) (omega arith)
      | inr (inr (inl is)) ↦ subst IsNode (sym is) (omega arith)
      | inr (inr (inr (inl is))) ↦ subst IsNode (sym is) (omega arith)
      | inr (inr (inr (inr (inl is)))) ↦ subst IsNode (sym is) (omega arith)
      | inr (inr (inr (inr (inr (inl is))))) ↦ subst IsNode (sym is) (omega arith)
      | inr (inr (inr (inr (inr (inr (inl is)))))) ↦ subst IsNode (sym is) (omega arith)
      | inr (inr (inr (inr (inr (inr (inr (inl is))))))) ↦ subst IsNode (sym is) (omega arith)
      | inr (inr (inr (inr (inr (inr (inr (inr (inl is)))))))) ↦ subst IsNode (sym is) (omega arith)
      | inr (inr (inr (inr (inr (inr (inr (inr (inr (none))))))))) ↦ absurd none
    ];
    each = λ i less. own_deeds i less ∙ are i less;
  };
  unforged = each_came_after;
}

-- not one in which node 1's vote came to node 0 before it was sent
vote_came_first : IsTrueOrder 3 did_by (by 1 voting_deed ∷ by 0 learning_deed ∷ by 0 leading_deed ∷ by 1 promising_deed ∷ by 0 ticking_deed ∷ by 0 greeting_deed ∷ by 0 connecting_deed ∷ by 1 (started 1) ∷ by 0 (started 0) ∷ []) → ⊥
unfolding bytes_by
vote_came_first order = elim (order.unforged (record { what = Delivered (frame_of 1 0 accepted); sent_before = 7 }) (inr (inr (inr (inr (inl refl)))))) as (λ _. ⊥) [
  | inl same ↦ let from : 1 ≡ 0 = ap (λ (f : Frame). f.from) same in omega (arith, from)
  | inr (inl same) ↦ let from : 1 ≡ 0 = ap (λ (f : Frame). f.from) same in omega (arith, from)
  | inr (inr (inl same)) ↦ let kind : 5 ≡ 2 = ap (λ (f : Frame). get_or f.bytes 5 0) same in omega (arith, kind)
  | inr (inr (inr (inl same))) ↦ let from : 1 ≡ 0 = ap (λ (f : Frame). f.from) same in omega (arith, from)
  | inr (inr (inr (inr (inl same)))) ↦ let from : 1 ≡ 0 = ap (λ (f : Frame). f.from) same in omega (arith, from)
  | inr (inr (inr (inr (inr (inl same))))) ↦ let from : 1 ≡ 0 = ap (λ (f : Frame). f.from) same in omega (arith, from)
  | inr (inr (inr (inr (inr (inr (inl same)))))) ↦ let from : 1 ≡ 0 = ap (λ (f : Frame). f.from) same in omega (arith, from)
  | inr (inr (inr (inr (inr (inr (inr (none))))))) ↦ absurd none
]

-- ---- the deal is chosen

in_said : (frames : List Frame) (frame : Frame) (message : Message) → In frame frames → In message (said_by frame) → In message (said frames)
in_said [] frame message there is = absurd there
in_said (one ∷ more) frame message (inl same) is = in_front (said_by one) (said more) message (subst (λ (f : Frame). In message (said_by f)) same is)
  where
    in_front : {A : Type 0} (xs ys : List A) (x : A) → In x xs → In x (xs ++ ys)
    in_front [] ys x there = absurd there
    in_front (y ∷ xs) ys x (inl same) = inl same
    in_front (y ∷ xs) ys x (inr there) = inr (in_front xs ys x there)
in_said (one ∷ more) frame message (inr there) is = in_back (said_by one) (said more) message (in_said more frame message there is)
  where
    in_back : {A : Type 0} (xs ys : List A) (x : A) → In x ys → In x (xs ++ ys)
    in_back [] ys x there = there
    in_back (y ∷ xs) ys x there = inr (in_back xs ys x there)

says : (from to : ℕ) → reading (bytes_of accepted) ≡ Ok accepted → In (Accepted from first_ballot 0 dealt) (said_by (frame_of from to accepted))
says from to reads = subst (λ (read : Result Wire FrameFault). In (Accepted from first_ballot 0 dealt) (messages_of from read)) (sym reads) (inl refl)

-- of three nodes 0 and 1
abbrev two_of_three : ℕ → Bool
two_of_three zero = true
two_of_three (suc zero) = true
two_of_three (suc (suc node)) = false

each_says : reading (bytes_of accepted) ≡ Ok accepted → (node : ℕ) → node < 3 → two_of_three node ≡ true → In (Accepted node first_ballot 0 dealt) (said (record_of in_order).sent)
each_says reads zero less is = in_said sent (frame_of 0 1 accepted) (Accepted 0 first_ballot 0 dealt) (inr (inr (inr (inr (inr (inl refl)))))) (says 0 1 reads)
each_says reads (suc zero) less is = in_said sent (frame_of 1 0 accepted) (Accepted 1 first_ballot 0 dealt) (inr (inr (inr (inr (inr (inr (inr (inl refl)))))))) (says 1 0 reads)
each_says reads (suc (suc node)) less is = absurd cc

pub is_chosen : reading (bytes_of accepted) ≡ Ok accepted → AreChosen 3 (said (record_of in_order).sent) (dealt ∷ [])
is_chosen reads = ((first_ballot, (two_of_three, omega arith, each_says reads)), tt)

-- ---- processes over new stores

none_dealt : [] ≡ hands_after setting []
unfolding opened_up
none_dealt = refl

-- node i of it, over this disk, and a process of it that was opened
abbrev node_over : {D : Type 0} → ℕ → D → Node D
node_over i disk = record {
  member = record { setting = setting; source = Seed i; nodes = 3; node = i };
  blank = record { game = setting.game; count = setting.title.hands; hands = []; room = 0 };
  disk = Some disk;
  up = None;
}

abbrev pub over_disk : {D : Type 0} → ℕ → D → Look (Node D)
over_disk i disk = record { config = plan; number = i; node = node_over i disk; deeds = []; moments = moment_now (node_over i disk) [] ∷ [] }

module _ {D : Type 0} (g : Ghosts D) where
  pub first_opened : (disk : D) → IsNewDisk g 0 disk → IsOpened g 0 (created 0) (over_disk 0 disk)
  first_opened disk is = record {
    known = refl;
    at = refl;
    begun = is.begun;
    seen = record {
      by = record { stopped = refl; leaves = λ image left. inl (subst (λ (file : List ℕ). StandsFor (header 0 3) file empty_store) (sym (is.images image left)) (is_new 0)) };
      blank = record { game = refl; count = refl; hands = none_dealt };
    };
    deeds_are = refl;
    moments_are = refl;
  }

  pub second_opened : (disk : D) → IsNewDisk g 1 disk → IsOpened g 1 (created 1) (over_disk 1 disk)
  second_opened disk is = record {
    known = refl;
    at = refl;
    begun = is.begun;
    seen = record {
      by = record { stopped = refl; leaves = λ image left. inl (subst (λ (file : List ℕ). StandsFor (header 1 3) file empty_store) (sym (is.images image left)) (is_new 1)) };
      blank = record { game = refl; count = refl; hands = none_dealt };
    };
    deeds_are = refl;
    moments_are = refl;
  }

  -- ---- the calls

  -- Processes of nodes 0 and 1, opened over new stores. Both are started; a bot connects to seat 0 of node 0, asks for the first line and names the version; node 0 ticks, and node 1 gets its Prepare; node 0 gets the Promise, and node 1 the Accept; node 0 gets node 1's vote. Each
  -- call was answered Ok
  pub record TwoDeal : Type 0 where
    pub opened_0 : Look (Node D)
    pub opened_1 : Look (Node D)
    pub is_opened_0 : IsOpened g 0 (created 0) opened_0
    pub is_opened_1 : IsOpened g 1 (created 1) opened_1
    pub started_0 : Look (Node D)
    pub connected_0 : Look (Node D)
    pub greeted_0 : Look (Node D)
    pub ticked_0 : Look (Node D)
    pub leading_0 : Look (Node D)
    pub knowing_0 : Look (Node D)
    pub started_1 : Look (Node D)
    pub promised_1 : Look (Node D)
    pub voted_1 : Look (Node D)
    pub start_0 : Took g (event.Start 0) opened_0 started_0
    pub start_1 : Took g (event.Start 1) opened_1 started_1
    pub connect : Took g (event.Connect 0 0) started_0 connected_0
    pub line_bytes : Vec ℕ
    pub line_is : line_bytes.items ≡ said_by_bot
    pub gets_line : Took g (event.Line 0 0 line_bytes) connected_0 greeted_0
    pub tick : Took g (event.Tick 0) greeted_0 ticked_0
    pub prepare_bytes : Vec ℕ
    pub prepare_is : prepare_bytes.items ≡ bytes_of prepare
    pub gets_prepare : Took g (event.Frame 0 1 prepare_bytes) started_1 promised_1
    pub promise_bytes : Vec ℕ
    pub promise_is : promise_bytes.items ≡ bytes_of promise
    pub gets_promise : Took g (event.Frame 1 0 promise_bytes) ticked_0 leading_0
    pub accept_bytes : Vec ℕ
    pub accept_is : accept_bytes.items ≡ bytes_of accept
    pub gets_accept : Took g (event.Frame 0 1 accept_bytes) promised_1 voted_1
    pub vote_bytes : Vec ℕ
    pub vote_is : vote_bytes.items ≡ bytes_of accepted
    pub gets_vote : Took g (event.Frame 1 0 vote_bytes) leading_0 knowing_0

  module _ (honest : IsTrue g.is_honest) (d : TwoDeal) where
    zero_less : 0 < 3
    zero_less = omega arith

    one_less : 1 < 3
    one_less = omega arith

    at_start_0 : Stands g 0 (created 0) (first 0) (started 0 ∷ []) d.started_0
    at_start_0 = starts g honest 0 zero_less (created 0) (is_new 0) d.opened_0 d.started_0 d.is_opened_0 d.start_0

    at_start_1 : Stands g 1 (created 1) (first 1) (started 1 ∷ []) d.started_1
    at_start_1 = starts g honest 1 one_less (created 1) (is_new 1) d.opened_1 d.started_1 d.is_opened_1 d.start_1

    at_connect : Stands g 0 (created 0) is_connected (connecting_deed ∷ started 0 ∷ []) d.connected_0
    at_connect = (connects g honest 0 zero_less (created 0) (is_new 0) (first 0) connecting_0 (started 0 ∷ []) d.started_0 d.connected_0 at_start_0 d.connect refl connect_taken).0

    at_greet : Stands g 0 (created 0) is_ready (greeting_deed ∷ connecting_deed ∷ started 0 ∷ []) d.greeted_0
    at_greet = (hears g honest 0 zero_less (created 0) (is_new 0) d.line_bytes said_by_bot is_connected greeting (connecting_deed ∷ started 0 ∷ []) d.connected_0 d.greeted_0 at_connect d.gets_line refl d.line_is greet_comes greet_rule).0

    at_tick : Stands g 0 (created 0) prepares (ticking_deed ∷ greeting_deed ∷ connecting_deed ∷ started 0 ∷ []) d.ticked_0 × AreRead ticked.frames
    at_tick = ticks g honest 0 zero_less (created 0) (is_new 0) is_ready ticked (greeting_deed ∷ connecting_deed ∷ started 0 ∷ []) d.greeted_0 d.ticked_0 at_greet d.tick refl tick_taken

    at_promise : Stands g 1 (created 1) has_promised (promising_deed ∷ started 1 ∷ []) d.promised_1 × AreRead promising.frames
    at_promise = gets g honest 1 one_less (created 1) (is_new 1) 0 d.prepare_bytes prepare (first 1) promising (started 1 ∷ []) d.started_1 d.promised_1 at_start_1 d.gets_prepare zero_less refl
        d.prepare_is (at_tick.1 (record { to = 1; message = prepare }) (inl refl)) prepare_taken

    at_lead : Stands g 0 (created 0) leads (leading_deed ∷ ticking_deed ∷ greeting_deed ∷ connecting_deed ∷ started 0 ∷ []) d.leading_0 × AreRead leading.frames
    at_lead = gets g honest 0 zero_less (created 0) (is_new 0) 1 d.promise_bytes promise prepares leading (ticking_deed ∷ greeting_deed ∷ connecting_deed ∷ started 0 ∷ []) d.ticked_0 d.leading_0 at_tick.0 d.gets_promise one_less refl
        d.promise_is (at_promise.1 (record { to = 0; message = promise }) (inl refl)) promise_taken

    at_vote : Stands g 1 (created 1) has_voted (did_by 1) d.voted_1 × AreRead voting.frames
    at_vote = gets g honest 1 one_less (created 1) (is_new 1) 0 d.accept_bytes accept has_promised voting (promising_deed ∷ started 1 ∷ []) d.promised_1 d.voted_1 at_promise.0 d.gets_accept zero_less refl
        d.accept_is (at_lead.1 (record { to = 1; message = accept }) (inl refl)) accept_taken

    pub vote_reads : reading (bytes_of accepted) ≡ Ok accepted
    vote_reads = at_vote.1 (record { to = 0; message = accepted }) (inl refl)

    at_end : Stands g 0 (created 0) knows (did_by 0) d.knowing_0 × AreRead learning.frames
    at_end = gets g honest 0 zero_less (created 0) (is_new 0) 1 d.vote_bytes accepted leads learning (leading_deed ∷ ticking_deed ∷ greeting_deed ∷ connecting_deed ∷ started 0 ∷ []) d.leading_0 d.knowing_0 at_lead.0 d.gets_vote one_less refl
        d.vote_is vote_reads accepted_taken

    -- ---- what they are now

    pub first_stands : Stands g 0 (created 0) knows (did_by 0) d.knowing_0
    first_stands = at_end.0

    pub second_stands : Stands g 1 (created 1) has_voted (did_by 1) d.voted_1
    second_stands = at_vote.0

    pub first_has : Has g d.knowing_0
    first_has = has g honest 0 zero_less (created 0) (is_new 0) knows (did_by 0) d.knowing_0 first_stands

    pub second_has : Has g d.voted_1
    second_has = has g honest 1 one_less (created 1) (is_new 1) has_voted (did_by 1) d.voted_1 second_stands

    abbrev pub stations : List (Option (Look (Node D)))
    stations = Some d.knowing_0 ∷ Some d.voted_1 ∷ None ∷ []

    -- each began over a new store, and node 2 had no process yet
    pub had : HaveIncarnations g plan stations
    had zero less = record {
      at = first_stands.known;
      incarnations = new_store (begun_of g d.knowing_0.node) (subst (λ (file : List ℕ). StandsFor (header 0 3) file empty_store) (sym first_stands.begun) (is_new 0));
    }
    had (suc zero) less = record {
      at = second_stands.known;
      incarnations = new_store (begun_of g d.voted_1.node) (subst (λ (file : List ℕ). StandsFor (header 1 3) file empty_store) (sym second_stands.begun) (is_new 1));
    }
    had (suc (suc zero)) less = record { file = created 2; incarnations = new_store (created 2) (is_new 2) }
    had (suc (suc (suc i))) less = absurd (omega (arith, less))

    -- so their deeds are the whole history of each
    pub are_histories : (histories : ℕ → List Deed) → HaveHistories g plan stations had histories → (i : ℕ) → i < 3 → did_by i ≡ histories i
    unfolding had
    are_histories histories have zero less =
        let own = have 0 less in
        sym (own.newest ∙ (ap (λ (before : List Deed). d.knowing_0.deeds ++ before) own.history ∙ ap (λ (deeds : List Deed). deeds ++ []) first_stands.deeds_are))
    are_histories histories have (suc zero) less =
        let own = have 1 less in
        sym (own.newest ∙ (ap (λ (before : List Deed). d.voted_1.deeds ++ before) own.history ∙ ap (λ (deeds : List Deed). deeds ++ []) second_stands.deeds_are))
    are_histories histories have (suc (suc zero)) less = sym (have 2 less)
    are_histories histories have (suc (suc (suc i))) less = absurd (omega (arith, less))
