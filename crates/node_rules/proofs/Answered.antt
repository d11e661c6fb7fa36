-- The frames of each call.
use Rattle.std.proofs.Common.{◌≡◌, ℕ, zero, suc, ◌<◌, ◌≤◌, ◌+◌, ◌-◌, inl, inr, Bool, true, false, if◌then◌else◌, List, [], ◌∷◌, ◌++◌, Option, Some, None, Result, Ok, Err, refl, sym, ap, subst, ◌∙◌, arith, reverse, append_assoc}
use Rattle.std.specs.Prelude.{nat_lt, min, slice_get}
use Rattle.std.proofs.lemmas.List.{append-nil, length-reverse}
use Rattle.paxos_wire.specs.declared.ballot.Ballot.{Ballot}
use Rattle.paxos_wire.specs.declared.fault.FrameFault.{FrameFault}
use Rattle.paxos_wire.specs.declared.message.Message.{Message as Wire}
use Rattle.paxos_wire.specs.Faults.{reading}
use Rattle.paxos_wire.specs.declared.message.Message.TheVariants as frame
use Rattle.slot_log.specs.Slots.{Log, front, known_at}
use Rattle.slot_log.specs.declared.command.Command.{Command}
use Rattle.slot_log.specs.declared.slot_fault.SlotFault.{SlotFault}
use Rattle.protocol_model.specs.Sets.{In}
use Rattle.protocol_model.specs.Stores.{Store}
use Rattle.protocol_model.specs.Nodes.{Node}
use Rattle.protocol_model.specs.Worlds.{World}
use Rattle.paxos_wire.specs.Order.{is_below}
use Rattle.learner.specs.Learning.{Learned, answer_to_chosen, believing as with_chosen}
use Rattle.learner.specs.CommandRuns.{answer_to_run, hearing_run}
use Rattle.seat_session.specs.Session.{Standing as Talk}
use Rattle.seat_session.specs.declared.said.Said.{Said}
use Rattle.seat_session.specs.declared.said.Said.TheVariants.{Ready, Act}
use Rattle.seat_session.specs.declared.session_fault.SessionFault.{SessionFault}
use Rattle.node_rules.specs.Standings.{Place, Standing, front_of, with_stored, idle}
use Rattle.node_rules.specs.Sending.{Frame, one, to_others}
use Rattle.node_rules.specs.Turns.{Turn, Refusal, Down, Spent, Conflict, still, sending, joined, behind, and_then}
use Rattle.node_rules.specs.Applying.{applying}
use Rattle.node_rules.specs.Learning.{learning, comes_to_window, asking_on, told_of, telling_from, next_window, telling, asking_above}
use Rattle.protocol_model.specs.Votes.{told_by, command_run_at, taking_command_run}
use Rattle.node_rules.specs.Accepting.{refusing, promising, preparing, voting}
use Rattle.node_rules.specs.Proposing.{greatest_seen, is_over, is_spent, beginning, closing}
use Rattle.proposer.specs.Campaigns.{next_ballot}
use Rattle.node_rules.specs.Seats.{session_at, with_session, connecting, dropping, left, forwarding, answering, answering_all, HearsPiece}
use Rattle.node_rules.specs.Calls.{Call, Start, Tick, Away, Line, Connect, Drop, Stop}
use Rattle.node_rules.specs.Calls as call
use Rattle.node_rules.specs.Rules.{seeing, taking, asking, on_read, starting, stopping, IsTurnUp, IsTurnDown, IsTurnBy}
use Rattle.node_rules.specs.Being.{IsSession}
use Rattle.node_rules.specs.Called.{Comes}
use Rattle.node_rules.specs.Given.{Given}
use Rattle.node_rules.specs.Sound.{Stands}
use Rattle.node_rules.specs.LawsAnswers.{IsOfClose, Sends, asks_if, AnswersPrepare, promises, AnswersAccept, accepts, AreChosenFrames, IsAnswered, acts_in, forwards, IsHeard, SendsUp, SendsDown, SendsBy, FramesAnswer, AcceptsAreAnswered}
use Rattle.node_rules.specs.LawsAnswers as answers
use Rattle.protocol_model.proofs.Ballots.{below_if, at_most_if_not}
use Rattle.protocol_model.proofs.Votes.{tells}
use Rattle.node_rules.proofs.Settling.{below_front}
use Rattle.node_rules.proofs.Results.{ok_is, ok_not}
use Rattle.node_rules.proofs.Resting.{Closed, rests, proposes}
use Rattle.node_rules.proofs.Finished.{none_past}
use Rattle.node_rules.proofs.Led.{tick_splits, order_turn, piece_splits, frame_turn}
use Rattle.node_rules.proofs.Noting.{played_for}
use Rattle.node_rules.proofs.Asked.{asked_same}

-- ---- the close

-- the close sends nothing or a proposal, and the front stays
pub close_sends : (place : Place) (s : Standing) (c : Turn) → Closed place s c → IsOfClose place (front_of c.after) c.frames × (front_of c.after ≡ front_of s)
close_sends place s c (rests campaign e) = (inl (ap (λ (t : Turn). t.frames) e), ap (λ (t : Turn). front_of t.after) e)
close_sends place s c (proposes o) =
    let made = o.made in
    let f = o.fresh in
    let same : front_of c.after ≡ front_of s = ap (λ (t : Turn). front_of t.after) o.turn_is ∙ ap front f.over.log in (
      inr (
        made.ballot,
        made.commands,
        o.least,
        o.mine,
        ap (λ (t : Turn). t.frames) o.turn_is
            ∙ ap (λ k. to_others place (frame.Accept made.ballot k made.commands) ++ to_others place (frame.Accepted made.ballot k made.commands)) (o.slot ∙ sym same),
      ),
      same,
    )

-- a rule's turn, the close's, and the question behind it
three : (place : Place) (s : Standing) (turn first c asked : Turn) (answers last : List Frame) → turn ≡ joined (joined first c) asked → asked.after ≡ c.after
    → Closed place first.after c → first.frames ≡ answers → asked.frames ≡ last → Sends place turn answers last
three place s turn first c asked answers last whole same closed ea el =
    record {
      closing = c.frames;
      of_close = subst (λ k. IsOfClose place k c.frames) (sym (ap (λ (t : Turn). front_of t.after) whole ∙ ap front_of same)) (close_sends place first.after c closed).0;
      frames = ap (λ (t : Turn). t.frames) whole
          ∙ (append_assoc first.frames c.frames asked.frames
          ∙ (ap (λ (l : List Frame). l ++ (c.frames ++ asked.frames)) ea ∙ ap (λ (l : List Frame). answers ++ (c.frames ++ l)) el));
    }

-- a rule's turn and the close's
pub two : (place : Place) (turn first c : Turn) (answers : List Frame) → turn ≡ joined first c → Closed place first.after c → first.frames ≡ answers → Sends place turn answers []
two place turn first c answers whole closed ea = record {
  closing = c.frames;
  of_close = subst (λ k. IsOfClose place k c.frames) (sym (ap (λ (t : Turn). front_of t.after) whole)) (close_sends place first.after c closed).0;
  frames = ap (λ (t : Turn). t.frames) whole ∙ (ap (λ (l : List Frame). l ++ c.frames) ea ∙ ap (λ (l : List Frame). answers ++ l) (sym (append-nil c.frames)));
}

-- ---- questions

ask_frames : (b : Bool) (from slot : ℕ) (s : Standing) → (if b then sending (one from (frame.Ask slot)) s else still s).frames ≡ asks_if b from slot
ask_frames true from slot s = refl
ask_frames false from slot s = refl

ask_after : (b : Bool) (from slot : ℕ) (s : Standing) → (if b then sending (one from (frame.Ask slot)) s else still s).after ≡ s
ask_after true from slot s = refl
ask_after false from slot s = refl

above_frames : (turn c : Turn) (from slot : ℕ) → front_of turn.after ≡ front_of c.after
    → (asking_above from slot c.after).frames ≡ asks_if (nat_lt (front_of turn.after) slot) from (front_of turn.after)
above_frames turn c from slot same = ask_frames (nat_lt (front_of c.after) slot) from (front_of c.after) c.after ∙ ap (λ k. asks_if (nat_lt k slot) from k) (sym same)

-- ---- the rules of messages

pub prepare_answer : (place : Place) (from : ℕ) (ballot : Ballot) (slot : ℕ) (s : Standing) (b : Bool) → is_below s.store.promise ballot ≡ b
    → AnswersPrepare s.store from ballot slot (if b then promising from ballot slot s else refusing from ballot slot s).frames
prepare_answer place from ballot slot s true e = promises (told_by s.store slot) (below_if s.store.promise ballot e) (tells s.store slot) refl
prepare_answer place from ballot slot s false e = answers.AnswersPrepare.refuses (at_most_if_not s.store.promise ballot e) refl

-- what is learned sends nothing
pub learned_frames : {A : Type 0} (place : Place) (answer : Result A SlotFault) (learned : Learned) (s : Standing) (first : Turn) → learning place answer learned s ≡ Ok first → first.frames ≡ []
learned_frames place (Ok answer) learned s first e = ap (λ (t : Turn). t.frames) (sym (ok_is (applying place learned s) first e))
learned_frames place (Err fault) learned s first e = absurd (ok_not first (Conflict s.store) (sym e))

vote_frames : {A : Type 0} (place : Place) (answer : Result A SlotFault) (learned : Learned) (s : Standing) (sent : List Frame) (first : Turn)
    → behind (sending sent s) (learning place answer learned s) ≡ Ok first → first.frames ≡ sent
vote_frames place (Ok answer) learned s sent first e = ap (λ (t : Turn). t.frames) (sym (ok_is (joined (sending sent s) (applying place learned s)) first e)) ∙ append-nil sent
vote_frames place (Err fault) learned s sent first e = absurd (ok_not first (Conflict s.store) (sym e))

pub accept_answer : (place : Place) (from : ℕ) (ballot : Ballot) (slot : ℕ) (commands : List Command) (s : Standing) (first : Turn) (b : Bool) → is_below ballot s.store.promise ≡ b
    → (if b then Ok (refusing from ballot slot s) else voting place ballot slot commands (idle s)) ≡ Ok first
    → AnswersAccept place s.store from ballot slot commands first.frames
accept_answer place from ballot slot commands s first true e h =
    answers.AnswersAccept.refuses (below_if ballot s.store.promise e) (ap (λ (t : Turn). t.frames) (sym (ok_is (refusing from ballot slot s) first h)))
accept_answer place from ballot slot commands s first false e h =
    let told : List Command = command_run_at s.store ballot slot commands in
    let kept : Standing = with_stored (idle s) (taking_command_run s.store ballot slot commands) in
    accepts (at_most_if_not ballot s.store.promise e)
    (vote_frames place (answer_to_run kept.learned place.node ballot slot told) (hearing_run kept.learned place.node ballot slot told) kept (to_others place (frame.Accepted ballot slot told)) first h)

pub chosen_frames : {A : Type 0} (place : Place) (answer : Result A SlotFault) (learned : Learned) (s : Standing) (from : ℕ) (first : Turn)
    → and_then (learning place answer learned s) (λ told. Ok (asking_on from (front_of s) told)) ≡ Ok first
    → first.frames ≡ asks_if (comes_to_window (front_of s) (front_of first.after)) from (front_of first.after)
chosen_frames place (Ok answer) learned s from first e =
    let u : Turn = applying place learned s in
    let whole : first ≡ joined u (asking_on from (front_of s) u.after) = sym (ok_is (joined u (asking_on from (front_of s) u.after)) first e) in
    let same : front_of first.after ≡ front_of u.after =
    ap (λ (t : Turn). front_of t.after) whole ∙ ap front_of (ask_after (comes_to_window (front_of s) (front_of u.after)) from (front_of u.after) u.after) in
    ap (λ (t : Turn). t.frames) whole ∙ (ask_frames (comes_to_window (front_of s) (front_of u.after)) from (front_of u.after) u.after
    ∙ ap (λ k. asks_if (comes_to_window (front_of s) k) from k) (sym same))
chosen_frames place (Err fault) learned s from first e = absurd (ok_not first (Conflict s.store) (sym e))

-- ---- what is told of slots below the front

known_below : (log : Log) (slot : ℕ) → slot < front log → (command : Command) × (known_at log slot ≡ Some command)
known_below log slot l = by_found (slice_get (reverse log.below) slot) refl
  where
    by_found : (o : Option Command) → slice_get (reverse log.below) slot ≡ o → (command : Command) × (known_at log slot ≡ Some command)
    by_found (Some command) e = (command, below_front log slot l ∙ e)
    by_found None e = absurd (none_past (reverse log.below) slot (let h = length-reverse log.below in omega (arith, h, l)) e)

tell_frames : (log : Log) (known : List (ℕ × Command)) → ((slot : ℕ) (command : Command) → known_at log slot ≡ Some command → In (slot, command) known)
    → (to slot k : ℕ) → (0 < k → slot + k ≤ front log) → AreChosenFrames known to slot k (telling_from log to slot k)
unfolding telling_from
tell_frames log known knows to slot zero low = refl
tell_frames log known knows to slot (suc k) low =
    let low_now = low (omega arith) in
    let c = known_below log slot (omega arith) in (
      c.0,
      telling_from log to (slot + 1) k,
      knows slot c.0 c.1,
      ap (λ (o : Option Command). told_of to slot o ++ telling_from log to (slot + 1) k) c.1,
      tell_frames log known knows to (slot + 1) k (λ more. (let l = low_now in omega arith)),
    )

min_low : (a b slot : ℕ) → 0 < min a b - slot → slot + (min a b - slot) ≤ a
min_low a b slot h = grind arith

-- ---- each message

answer_by : (place : Place) (s : Standing) (node : Node) (from : ℕ) (message : Wire) (turn first c : Turn) → node.store ≡ s.store
    → ((slot : ℕ) (command : Command) → known_at s.learned.log slot ≡ Some command → In (slot, command) node.known)
    → taking place from message (seeing message s) ≡ Ok first → Closed place first.after c → turn ≡ joined (joined first c) (asking from message c.after)
    → (asking from message c.after).after ≡ c.after → front_of turn.after ≡ front_of c.after → front_of turn.after ≡ front_of first.after
    → IsAnswered place s node from message turn
answer_by place s node from (frame.Prepare ballot slot) turn first c stored knows is closed whole after now same =
    let s0 : Standing = seeing (frame.Prepare ballot slot) s in
    let rule : first ≡ preparing from ballot slot s0 = sym (ok_is (preparing from ballot slot s0) first is) in (
      (preparing from ballot slot s0).frames,
      subst (λ (st : Store). AnswersPrepare st from ballot slot (preparing from ballot slot s0).frames) (sym stored) (prepare_answer place from ballot slot s0 (is_below s0.store.promise ballot) refl),
      three place s turn first c (asking_above from slot c.after) (preparing from ballot slot s0).frames (asks_if (nat_lt (front_of turn.after) slot) from (front_of turn.after)) whole after closed
          (ap (λ (t : Turn). t.frames) rule) (above_frames turn c from slot now),
    )
answer_by place s node from (frame.Promise ballot slot told) turn first c stored knows is closed whole after now same =
    three place s turn first c (still c.after) [] [] whole after closed (ap (λ (t : Turn). t.frames) (sym (ok_is _ first is))) refl
answer_by place s node from (frame.Refuse ballot slot promised) turn first c stored knows is closed whole after now same =
    three place s turn first c (still c.after) [] [] whole after closed (ap (λ (t : Turn). t.frames) (sym (ok_is _ first is))) refl
answer_by place s node from (frame.Accept ballot slot commands) turn first c stored knows is closed whole after now same =
    let s0 : Standing = seeing (frame.Accept ballot slot commands) s in (
      first.frames,
      subst (λ (st : Store). AnswersAccept place st from ballot slot commands first.frames) (sym stored) (accept_answer place from ballot slot commands s0 first (is_below ballot s0.store.promise) refl is),
      three place s turn first c (asking_above from slot c.after) first.frames (asks_if (nat_lt (front_of turn.after) slot) from (front_of turn.after)) whole after closed
          refl (above_frames turn c from slot now),
    )
answer_by place s node from (frame.Accepted ballot slot commands) turn first c stored knows is closed whole after now same =
    let s0 : Standing = seeing (frame.Accepted ballot slot commands) s in
    three place s turn first c (asking_above from slot c.after) [] (asks_if (nat_lt (front_of turn.after) slot) from (front_of turn.after)) whole after closed
    (learned_frames place (answer_to_run s0.learned from ballot slot commands) (hearing_run s0.learned from ballot slot commands) s0 first is) (above_frames turn c from slot now)
answer_by place s node from (frame.Chosen slot command) turn first c stored knows is closed whole after now same =
    let s0 : Standing = seeing (frame.Chosen slot command) s in
    three place s turn first c (still c.after) (asks_if (comes_to_window (front_of s) (front_of turn.after)) from (front_of turn.after)) [] whole after closed
    (chosen_frames place (answer_to_chosen s0.learned.log slot command) (with_chosen s0.learned slot command) s0 from first is
    ∙ ap (λ k. asks_if (comes_to_window (front_of s) k) from k) (sym same)) refl
answer_by place s node from (frame.Ask slot) turn first c stored knows is closed whole after now same =
    let s0 : Standing = seeing (frame.Ask slot) s in (
      (telling from slot s0).frames,
      tell_frames s.learned.log node.known knows from slot (min (front_of s) (next_window slot) - slot) (λ some. min_low (front_of s) (next_window slot) slot some),
      three place s turn first c (still c.after) (telling from slot s0).frames [] whole after closed (ap (λ (t : Turn). t.frames) (sym (ok_is (telling from slot s0) first is))) refl,
    )
answer_by place s node from (frame.Forward command) turn first c stored knows is closed whole after now same =
    three place s turn first c (still c.after) [] [] whole after closed (ap (λ (t : Turn). t.frames) (sym (ok_is _ first is))) refl

-- ---- a piece

-- answers change no store, and send what goes on of their acts
pub answers_frames : (place : Place) (seat : ℕ) (said : List (Result Said SessionFault)) (t : Turn)
    → (answering_all place seat said t).frames ≡ t.frames ++ forwards place t.after.store.promise (acts_in said)
unfolding answering_all
answers_frames place seat [] t = sym (append-nil t.frames)
answers_frames place seat (Ok Ready ∷ more) t =
    answers_frames place seat more (joined t (answering place seat (Ok Ready) t.after))
    ∙ ap (λ (l : List Frame). l ++ forwards place t.after.store.promise (acts_in more)) (append-nil t.frames)
answers_frames place seat (Ok (Act act) ∷ more) t =
    answers_frames place seat more (joined t (answering place seat (Ok (Act act)) t.after))
    ∙ append_assoc t.frames (forwarding place act t.after) (forwards place t.after.store.promise (acts_in more))
answers_frames place seat (Err fault ∷ more) t =
    answers_frames place seat more (joined t (answering place seat (Err fault) t.after))
    ∙ ap (λ (l : List Frame). l ++ forwards place t.after.store.promise (acts_in more)) (append-nil t.frames)

heard_by : (place : Place) (s : Standing) (node : Node) (seat : ℕ) (bytes : List ℕ) (turn heard c : Turn) (session : Option Talk) (before : Option (List ℕ))
    → node.store ≡ s.store → IsSession place.setting.game seat session before → HearsPiece place seat bytes session s heard
    → Closed place heard.after c → turn ≡ joined heard c → IsHeard place s node seat bytes before turn
heard_by place s node seat bytes turn heard c None None stored is hears closed whole = two place turn heard c [] whole closed (ap (λ (t : Turn). t.frames) hears)
heard_by place s node seat bytes turn heard c None (Some before) stored is hears closed whole = absurd is
heard_by place s node seat bytes turn heard c (Some old) None stored is hears closed whole = absurd is
heard_by place s node seat bytes turn heard c (Some old) (Some before) stored is (said, new, drains, same) closed whole = (
  said,
  record { old = old; new = new; stood = is; drains = drains },
  two place turn heard c (forwards place node.store.promise (acts_in said)) whole closed
      (ap (λ (t : Turn). t.frames) same ∙ (answers_frames place seat said (still (with_session s seat (left new))) ∙ ap (λ (st : Store). forwards place st.promise (acts_in said)) (sym stored))),
)

-- ---- a tick

ticked_by : (place : Place) (s : Standing) (turn first c : Turn) (over spent : Bool)
    → (if over then Ok (still s) else if spent then Err Spent else Ok (beginning place (next_ballot place.node (greatest_seen s)) s)) ≡ Ok first
    → Closed place first.after c → turn ≡ joined first c → answers.IsTicked place s turn
ticked_by place s turn first c true spent is closed whole =
    ([], inl refl, two place turn first c [] whole closed (ap (λ (t : Turn). t.frames) (sym (ok_is (still s) first is))))
ticked_by place s turn first c false true is closed whole = absurd (ok_not first Spent (sym is))
ticked_by place s turn first c false false is closed whole =
    let ballot : Ballot = next_ballot place.node (greatest_seen s) in (
      to_others place (frame.Prepare ballot (front_of s)),
      inr (ballot, refl, refl),
      two place turn first c (to_others place (frame.Prepare ballot (front_of s))) whole closed (ap (λ (t : Turn). t.frames) (sym (ok_is (beginning place ballot s) first is))),
    )

-- ---- every call

sends_up : (g : Given) (own : ℕ → Command → Bool) (place : Place) (world : World) (s : Standing) (called : Call) (turn : Turn) (st : Stands own place world s) → s.up ≡ true
    → Comes place world.ever called → IsTurnUp place s called (Ok turn) → SendsUp place s (world.nodes place.node) called turn
sends_up g own place world s (Start found) turn st up comes h = ap (λ (t : Turn). t.frames) (ok_is turn (still s) h)
sends_up g own place world s Tick turn st up comes h = elim (tick_splits g own place world s st up) [
  | inl split ↦ ticked_by place s turn split.first split.closes.turn (is_over place s) (is_spent s) split.is split.closes.closed
      (ok_is turn (joined split.first split.closes.turn) (h ∙ split.whole))
  | inr none ↦ absurd (ok_not turn none.0 (h ∙ none.2))
]
sends_up g own place world s Away turn st up comes h =
    let o = order_turn g own place world s st up turn h in (
      o.act,
      o.next,
      two place turn (played_for place o.act s) o.closes.turn (forwards place (world.nodes place.node).store.promise (o.act ∷ [])) o.whole o.closes.closed
          (sym (append-nil (forwarding place o.act s)) ∙ ap (λ (store : Store). forwards place store.promise (o.act ∷ [])) (sym st.of.store)),
    )
sends_up g own place world s (call.Frame from bytes) turn st up comes h =
    let f = frame_turn g own place world s st up from bytes turn comes h in
    let first : Turn = f.split.first in
    let c : Turn = f.split.closes.turn in
    let after = asked_same from f.message c.after in
    let now : front_of turn.after ≡ front_of c.after = ap (λ (t : Turn). front_of t.after) f.whole ∙ ap front_of after in (
      f.message,
      f.read,
      answer_by place s (world.nodes place.node) from f.message turn first c st.of.store (st.of.runs up).knows.learner.knows f.split.is f.split.closes.closed f.whole after now
          (now ∙ (close_sends place first.after c f.split.closes.closed).1),
    )
sends_up g own place world s (Line seat bytes) turn st up comes (heard, hears, e) =
    let p = piece_splits g own place world s st up seat bytes heard comes hears in
    heard_by place s (world.nodes place.node) seat bytes turn heard p.closes.turn (session_at s.sessions seat) ((world.nodes place.node).heard seat) st.of.store
    ((st.of.runs up).sessions seat) hears p.closes.closed
    (ok_is turn (joined heard p.closes.turn) (e ∙ ap (λ (k : Result Turn Refusal). behind heard k) p.closes.is))
sends_up g own place world s (Connect seat) turn st up comes h = ap (λ (t : Turn). t.frames) (ok_is turn (connecting seat s) h)
sends_up g own place world s (Drop seat) turn st up comes h = ap (λ (t : Turn). t.frames) (ok_is turn (dropping seat s) h)
sends_up g own place world s Stop turn st up comes h = ap (λ (t : Turn). t.frames) (ok_is turn (stopping place s) h)

sends_down : (place : Place) (s : Standing) (called : Call) (turn : Turn) → IsTurnDown place s called (Ok turn) → SendsDown place called turn
sends_down place s (Start found) turn (left, h) = ap (λ (t : Turn). t.frames) (ok_is turn (starting place found) h)
sends_down place s Tick turn h = ok_not turn Down h
sends_down place s Away turn h = ok_not turn Down h
sends_down place s (call.Frame from bytes) turn h = ok_not turn Down h
sends_down place s (Line seat bytes) turn h = ok_not turn Down h
sends_down place s (Connect seat) turn h = ok_not turn Down h
sends_down place s (Drop seat) turn h = ok_not turn Down h
sends_down place s Stop turn h = ap (λ (t : Turn). t.frames) (ok_is turn (still s) h)

sends_by : (g : Given) (own : ℕ → Command → Bool) (place : Place) (world : World) (s : Standing) (called : Call) (turn : Turn) (b : Bool) (st : Stands own place world s) → s.up ≡ b
    → Comes place world.ever called → IsTurnBy b place s called (Ok turn) → SendsBy b place s (world.nodes place.node) called turn
sends_by g own place world s called turn true st up comes h = sends_up g own place world s called turn st up comes h
sends_by g own place world s called turn false st down comes h = sends_down place s called turn h

pub frames_answer : Given → FramesAnswer
frames_answer g own place world s called turn st comes h =
    subst (λ b. SendsBy b place s (world.nodes place.node) called turn) (sym st.of.up) (sends_by g own place world s called turn s.up st refl comes h)

-- ---- an Accept, in any standing

-- what is sent first, and what behind it
behind_frames : (t : Turn) (r : Result Turn Refusal) (c : Turn) → behind t r ≡ Ok c → (later : List Frame) × (c.frames ≡ t.frames ++ later)
behind_frames t (Ok u) c e = (u.frames, ap (λ (y : Turn). y.frames) (sym (ok_is (joined t u) c e)))
behind_frames t (Err refusal) c e = absurd (cc)

and_then_frames : (r : Result Turn Refusal) (next : Standing → Result Turn Refusal) (c : Turn) → and_then r next ≡ Ok c
    → (first : Turn) × (r ≡ Ok first) × (later : List Frame) × (c.frames ≡ first.frames ++ later)
and_then_frames (Ok t) next c e = let b = behind_frames t (next t.after) c e in (t, refl, b.0, b.1)
and_then_frames (Err refusal) next c e = absurd (cc)

pub accepts_are_answered : AcceptsAreAnswered
accepts_are_answered place s from bytes turn ballot slot commands up is read =
    let w : Wire = frame.Accept ballot slot commands in
    let h : Ok turn ≡ on_read place from (reading bytes) s = subst (λ (b : Bool). IsTurnBy b place s (call.Frame from bytes) (Ok turn)) up is in
    let closed = and_then_frames (and_then (taking place from w (seeing w s)) (closing place)) (λ after. Ok (asking from w after)) turn
    (sym (h ∙ ap (λ (x : Result Wire FrameFault). on_read place from x s) read)) in
    let first = and_then_frames (taking place from w (seeing w s)) (closing place) closed.0 closed.1 in (
      first.0.frames,
      first.2 ++ closed.2,
      accept_answer place from ballot slot commands (seeing w s) first.0 (is_below ballot s.store.promise) refl first.1,
      closed.3 ∙ (ap (λ (l : List Frame). l ++ closed.2) first.3 ∙ append_assoc first.0.frames first.2 closed.2),
    )
