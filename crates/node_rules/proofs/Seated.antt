-- What is made of the bytes of each seat.
use Rattle.std.proofs.Common.{◌≡◌, ℕ, ◌<◌, inl, inr, Bool, true, false, true≢false, if◌then◌else◌, List, [], ◌∷◌, ◌++◌, Option, Some, None, Result, Ok, Err, refl, sym, ap, subst, ◌∙◌, arith, set, get_or-set_same, get_or-set_other, append_assoc}
use Rattle.std.proofs.lemmas.List.{append-nil}
use Rattle.game_def.specs.Game.{Game}
use Rattle.paxos_wire.specs.declared.ballot.Ballot.{Ballot}
use Rattle.paxos_wire.specs.declared.message.Message.{Message as Wire}
use Rattle.paxos_wire.specs.declared.message.Message.TheVariants as frame
use Rattle.slot_log.specs.Hand.{Hand}
use Rattle.slot_log.specs.declared.command.Command.{Command}
use Rattle.slot_log.specs.declared.slot_fault.SlotFault.{SlotFault}
use Rattle.protocol_model.specs.Stores.{Store}
use Rattle.protocol_model.specs.Worlds.{World}
use Rattle.paxos_wire.specs.Order.{is_below}
use Rattle.proposer.specs.Campaigns.{next_ballot}
use Rattle.learner.specs.Learning.{Learned, answer_to_chosen, believing as with_chosen}
use Rattle.learner.specs.CommandRuns.{answer_to_run, hearing_run as counts}
use Rattle.seat_session.specs.Session.{Standing as Talk, fresh, with_piece, is_closed, Waits, AnswersOpen, Answers}
use Rattle.seat_session.specs.declared.phase.Phase.{Phase}
use Rattle.seat_session.specs.declared.phase.Phase.TheVariants.{Greeting, Ready as InPlay, Closed as IsOver}
use Rattle.seat_session.specs.Laws.{Event, fed, asked, Happens, AnyPieces}
use Rattle.seat_session.specs.declared.said.Said.{Said as Saying}
use Rattle.seat_session.specs.declared.said.Said.TheVariants.{Ready, Act}
use Rattle.seat_session.specs.declared.session_fault.SessionFault.{SessionFault}
use Rattle.dealer_kind.specs.Kind.{line_of}
use Rattle.node_rules.specs.Standings.{Place, Standing, applied, front_of, hands_at, with_stored, idle}
use Rattle.node_rules.specs.Sending.{Frame, to_others}
use Rattle.node_rules.specs.Showing.{SeatFault, is_connected}
use Rattle.node_rules.specs.Turns.{Turn, Refusal, Spent, Conflict, still, sending, joined, behind, and_then}
use Rattle.node_rules.specs.Applying.{applying}
use Rattle.node_rules.specs.Learning.{learning, asking_on, telling}
use Rattle.protocol_model.specs.Votes.{command_run_at, taking_command_run}
use Rattle.node_rules.specs.Accepting.{preparing, promising, refusing, voting}
use Rattle.node_rules.specs.Proposing.{greatest_seen, is_over, is_spent, beginning}
use Rattle.node_rules.specs.Seats.{session_at, with_session, connecting, dropping, left, answering, answering_all, Drains, HearsPiece}
use Rattle.node_rules.specs.Calls.{Call, Start, Tick, Away, Line, Connect, Drop, Stop}
use Rattle.node_rules.specs.Calls as call
use Rattle.node_rules.specs.Rules.{asking, seeing, taking, stopping, IsTurnUp, IsTurnBy}
use Rattle.node_rules.specs.Being.{IsSession, IsTalk, AreSessions}
use Rattle.node_rules.specs.Called.{Comes}
use Rattle.node_rules.specs.Given.{Given}
use Rattle.node_rules.specs.Sound.{Stands}
use Rattle.node_rules.specs.LawsAnswers.{acts_in, forwards}
use Rattle.node_rules.specs.LawsShown.{ready_lines}
use Rattle.node_rules.specs.LawsPending.{first_of}
use Rattle.node_rules.specs.LawsSeats.{IsLed, IsUnconnected, asked_each, Leaves, goes_on, closes, fault_in, faults_in, TakesAnswers, PassesOver, PiecesAreHeard, OthersArePassedOver, ConnectBeginsAnew, DropEnds, IsAbout, SessionsStay, IsPiece, FaultsAreOfPieces, LivesAreWhole, UnconnectedSeatsShowSo}
use Rattle.node_rules.proofs.Beginning.{commands_known}
use Rattle.node_rules.proofs.Results.{ok_is, ok_not}
use Rattle.node_rules.proofs.Resting.{Closed}
use Rattle.node_rules.proofs.Led.{tick_splits, order_turn, piece_splits, frame_turn}
use Rattle.node_rules.proofs.Noting.{played_for}
use Rattle.node_rules.proofs.Asked.{question, question_on, question_faults, asked_same}
use Rattle.node_rules.proofs.Answered.{two, answers_frames}
use Rattle.node_rules.proofs.Sitting.{drained_asked}
use Rattle.node_rules.proofs.Shown.{closed_faults, closed_pending, closed_sessions, two_shown, answers_shown, answers_pending}

-- ---- answers tell their faults, and change no session

answers_faults : (place : Place) (seat : ℕ) (said : List (Result Saying SessionFault)) (t : Turn) → (answering_all place seat said t).faults ≡ t.faults ++ faults_in seat said
unfolding answering_all
answers_faults place seat [] t = sym (append-nil t.faults)
answers_faults place seat (Ok Ready ∷ more) t =
    answers_faults place seat more (joined t (answering place seat (Ok Ready) t.after)) ∙ ap (λ (l : List SeatFault). l ++ faults_in seat more) (append-nil t.faults)
answers_faults place seat (Ok (Act act) ∷ more) t =
    answers_faults place seat more (joined t (answering place seat (Ok (Act act)) t.after)) ∙ ap (λ (l : List SeatFault). l ++ faults_in seat more) (append-nil t.faults)
answers_faults place seat (Err fault ∷ more) t =
    answers_faults place seat more (joined t (answering place seat (Err fault) t.after)) ∙ append_assoc t.faults (fault_in seat (Err fault)) (faults_in seat more)

answers_sessions : (place : Place) (seat : ℕ) (said : List (Result Saying SessionFault)) (t : Turn) → (answering_all place seat said t).after.sessions ≡ t.after.sessions
unfolding answering_all
answers_sessions place seat [] t = refl
answers_sessions place seat (Ok Ready ∷ more) t = answers_sessions place seat more (joined t (answering place seat (Ok Ready) t.after))
answers_sessions place seat (Ok (Act act) ∷ more) t = answers_sessions place seat more (joined t (answering place seat (Ok (Act act)) t.after))
answers_sessions place seat (Err fault ∷ more) t = answers_sessions place seat more (joined t (answering place seat (Err fault) t.after))

-- ---- an open session

-- a session that stands so
abbrev talk_of : Phase → List ℕ → Talk
talk_of phase waiting = record { phase = phase; waiting = waiting }

open_by : (game : Game) (hands : List Hand) (seat : ℕ) (phase : Phase) (waiting : List ℕ) (answer : Option (Result Saying SessionFault)) (new : Talk) → is_closed phase ≡ false
    → Answers game hands seat (talk_of phase waiting) answer new → AnswersOpen game hands seat (talk_of phase waiting) answer new
open_by game hands seat Greeting waiting answer new e h = h
open_by game hands seat InPlay waiting answer new e h = h
open_by game hands seat (IsOver fault) waiting answer new e h = absurd (true≢false e)

-- one that has nothing to answer stays open
waits_open : (game : Game) (hands : List Hand) (seat : ℕ) (old new : Talk) → is_closed old.phase ≡ false → Answers game hands seat old None new → is_closed new.phase ≡ false
waits_open game hands seat old new e h = let w : Waits old new = open_by game hands seat old.phase old.waiting None new e h in ap is_closed w.same_phase ∙ e

piece_by : (phase : Phase) (waiting bytes : List ℕ) → (with_piece (talk_of phase waiting) bytes).phase ≡ phase
piece_by Greeting waiting bytes = refl
piece_by InPlay waiting bytes = refl
piece_by (IsOver fault) waiting bytes = refl

piece_open : (old : Talk) (bytes : List ℕ) → is_closed old.phase ≡ false → is_closed (with_piece old bytes).phase ≡ false
piece_open old bytes e = ap is_closed (piece_by old.phase old.waiting bytes) ∙ e

-- ---- all answers to what waits

-- up to the first that closes
pub record Closing (game : Game) (hands : List Hand) (seat : ℕ) (cur : Talk) (said : List (Result Saying SessionFault)) (new : Talk) : Type 0 where
  pub before : List (Result Saying SessionFault)
  pub last : Result Saying SessionFault
  pub talk : Talk
  pub whole : said ≡ before ++ last ∷ []
  pub happened : Happens game seat cur (asked_each hands before) talk
  pub goes : is_closed talk.phase ≡ false
  pub answers : Answers game hands seat talk (Some last) new

drained_closing : (game : Game) (hands : List Hand) (seat : ℕ) (said : List (Result Saying SessionFault)) (cur new : Talk) → is_closed cur.phase ≡ false → Drains game hands seat cur said new
    → is_closed new.phase ≡ true → Closing game hands seat cur said new
unfolding Drains
drained_closing game hands seat [] cur new open_now drains over = absurd (true≢false (sym over ∙ waits_open game hands seat cur new open_now drains))
drained_closing game hands seat (first ∷ more) cur new open_now (between, one_answer, inl last) over = record {
  before = [];
  last = first;
  talk = cur;
  whole = ap (λ (l : List (Result Saying SessionFault)). first ∷ l) last.1;
  happened = refl;
  goes = open_now;
  answers = subst (Answers game hands seat cur (Some first)) (sym last.2) one_answer;
}
drained_closing game hands seat (first ∷ more) cur new open_now (between, one_answer, inr later) over =
    let rest = drained_closing game hands seat more between new later.0 later.1 over in
    record {
      before = first ∷ rest.before;
      last = rest.last;
      talk = rest.talk;
      whole = ap (λ (l : List (Result Saying SessionFault)). first ∷ l) rest.whole;
      happened = (between, one_answer, rest.happened);
      goes = rest.goes;
      answers = rest.answers;
    }

-- ---- a piece

-- what a session has of an open talk
talk_open : (game : Game) (seat : ℕ) (session : Option Talk) (heard : Option (List ℕ)) (talk : Talk) → session ≡ Some talk → IsSession game seat session heard → is_closed talk.phase ≡ false
talk_open game seat None heard talk e is = absurd (cc)
talk_open game seat (Some other) None talk e is = absurd is
talk_open game seat (Some other) (Some bytes) talk e is = let same : other ≡ talk = cc in ap (λ (k : Talk). is_closed k.phase) (sym same) ∙ is.goes_on

leaves_by : (g : Given) (place : Place) (s after : Standing) (seat : ℕ) (events : List Event) (bytes : List ℕ) (said : List (Result Saying SessionFault)) (talk new : Talk) (b : Bool)
    → is_closed new.phase ≡ b → is_closed talk.phase ≡ false → Happens place.setting.game seat fresh events talk
    → Drains place.setting.game (hands_at place s) seat (with_piece talk bytes) said new → session_at after.sessions seat ≡ left new
    → Leaves place after seat events (hands_at place s) bytes said
leaves_by g place s after seat events bytes said talk new false e open_now happened drains session =
    goes_on (record {
      talk = new;
      session = session ∙ ap (λ (b : Bool). if b then None else Some new) e;
      happened = (g.runs_on place.setting.game seat fresh events talk (fed bytes ∷ (asked_each (hands_at place s) said ++ asked (hands_at place s) None ∷ [])) new happened
          (drained_asked g place.setting.game (hands_at place s) seat said (with_piece talk bytes) new drains e)).0;
    })
leaves_by g place s after seat events bytes said talk new true e open_now happened drains session =
    let c = drained_closing place.setting.game (hands_at place s) seat said (with_piece talk bytes) new (piece_open talk bytes open_now) drains e in
    closes c.before c.last c.talk new c.whole
    (g.runs_on place.setting.game seat fresh events talk (fed bytes ∷ asked_each (hands_at place s) c.before) c.talk happened c.happened).0
    c.goes c.answers e (session ∙ ap (λ (b : Bool). if b then None else Some new) e)

takes_by : (g : Given) (own : ℕ → Command → Bool) (place : Place) (world : World) (s : Standing) (seat : ℕ) (bytes : List ℕ) (events : List Event) (turn heard c : Turn) (st : Stands own place world s) (up : s.up ≡ true)
    → seat < place.setting.game.players → (session : Option Talk) → session_at s.sessions seat ≡ session → HearsPiece place seat bytes session s heard → (led : IsLed place s seat events)
    → Closed place heard.after c → turn ≡ joined heard c → TakesAnswers own place (world.nodes place.node) s seat bytes events turn
takes_by g own place world s seat bytes events turn heard c st up low None e hears led closed whole = absurd (let clash : ◌≡◌ {A = Option Talk} None (Some led.talk) = sym e ∙ led.session in cc)
takes_by g own place world s seat bytes events turn heard c st up low (Some talk) e (said, new, drains, same) led closed whole = record {
  answers = said;
  leaves = leaves_by g place s turn.after seat events bytes said talk new (is_closed new.phase) refl open_now happened drains session;
  faults = ap (λ (t : Turn). t.faults) whole ∙ (ap (λ (l : List SeatFault). heard.faults ++ l) (closed_faults place heard.after c closed)
      ∙ (append-nil heard.faults ∙ (ap (λ (t : Turn). t.faults) same ∙ answers_faults place seat said (still (with_session s seat (left new))))));
  before = applied s;
  known = commands_known s.learned.log (world.nodes place.node).known (st.of.runs up).knows.learner.knows;
  front = refl;
  shown = two_shown place turn heard c (ready_lines (line_of place.setting (applied s) seat) seat said) whole closed
      (ap (λ (t : Turn). t.shown) same ∙ answers_shown place seat said (still (with_session s seat (left new))) low);
  pending = ap (λ (t : Turn). t.after.pending) whole ∙ (closed_pending place heard.after c closed
      ∙ (ap (λ (t : Turn). t.after.pending) same ∙ by_talk (st.of.runs up).sessions));
  sends = two place turn heard c (forwards place (world.nodes place.node).store.promise (acts_in said)) whole closed
      (ap (λ (t : Turn). t.frames) same ∙ (answers_frames place seat said (still (with_session s seat (left new))) ∙ ap (λ (x : Store). forwards place x.promise (acts_in said)) (sym st.of.store)));
}
  where
    is_talk : talk ≡ led.talk
    is_talk = let both : ◌≡◌ {A = Option Talk} (Some talk) (Some led.talk) = sym e ∙ led.session in cc

    happened : Happens place.setting.game seat fresh events talk
    happened = subst (Happens place.setting.game seat fresh events) (sym is_talk) led.happened

    open_now : is_closed talk.phase ≡ false
    open_now = talk_open place.setting.game seat (session_at s.sessions seat) ((world.nodes place.node).heard seat) talk e ((st.of.runs up).sessions seat)

    session : session_at turn.after.sessions seat ≡ left new
    session = ap (λ (t : Turn). session_at t.after.sessions seat) whole
        ∙ (ap (λ (l : List (Option Talk)). session_at l seat) (closed_sessions place heard.after c closed
        ∙ (ap (λ (t : Turn). t.after.sessions) same ∙ answers_sessions place seat said (still (with_session s seat (left new)))))
        ∙ get_or-set_same s.sessions seat (left new) None (let l = (st.of.runs up).knows.places in omega (arith, l)))

    rest_of : (o : Option Talk) (heard_bytes : Option (List ℕ)) → o ≡ Some talk → IsSession place.setting.game seat o heard_bytes
        → (answering_all place seat said (still (with_session s seat (left new)))).after.pending ≡ first_of s.pending (acts_in said)
    rest_of None heard_bytes eo is = absurd (cc)
    rest_of (Some other) None eo is = absurd is
    rest_of (Some other) (Some before) eo is =
        let is_it : other ≡ talk = cc in
        let at : IsTalk place.setting.game seat talk before = subst (λ (k : Talk). IsTalk place.setting.game seat k before) is_it is in
        answers_pending g place seat said (still (with_session s seat (left new))) (before ++ bytes) (with_piece talk bytes) new (g.whole.fed_more before bytes talk at.rest) drains

    by_talk : AreSessions place.setting.game s.sessions (world.nodes place.node).heard → (answering_all place seat said (still (with_session s seat (left new)))).after.pending ≡ first_of s.pending (acts_in said)
    by_talk are = rest_of (session_at s.sessions seat) ((world.nodes place.node).heard seat) e (are seat)

passes_by : (place : Place) (s : Standing) (seat : ℕ) (bytes : List ℕ) (turn heard c : Turn) (session : Option Talk) → session_at s.sessions seat ≡ session → HearsPiece place seat bytes session s heard
    → IsUnconnected s seat → Closed place heard.after c → turn ≡ joined heard c → PassesOver place s seat turn
passes_by place s seat bytes turn heard c (Some talk) e hears unconnected closed whole = absurd (let clash : ◌≡◌ {A = Option Talk} None (Some talk) = sym unconnected ∙ e in cc)
passes_by place s seat bytes turn heard c None e hears unconnected closed whole = record {
  unconnected = ap (λ (t : Turn). session_at t.after.sessions seat) whole ∙ (ap (λ (l : List (Option Talk)). session_at l seat) (closed_sessions place heard.after c closed ∙ ap (λ (t : Turn). t.after.sessions) hears) ∙ unconnected);
  faults = ap (λ (t : Turn). t.faults) whole ∙ (ap (λ (l : List SeatFault). heard.faults ++ l) (closed_faults place heard.after c closed) ∙ (append-nil heard.faults ∙ ap (λ (t : Turn). t.faults) hears));
  shown = two_shown place turn heard c [] whole closed (ap (λ (t : Turn). t.shown) hears);
  pending = ap (λ (t : Turn). t.after.pending) whole ∙ (closed_pending place heard.after c closed ∙ ap (λ (t : Turn). t.after.pending) hears);
  sends = two place turn heard c [] whole closed (ap (λ (t : Turn). t.frames) hears);
}

pub pieces_are_heard : Given → PiecesAreHeard
pieces_are_heard g own place world s seat bytes events turn (st, comes, up, h) led = by_turn (subst (λ b. IsTurnBy b place s (Line seat bytes) (Ok turn)) up h)
  where
    by_turn : IsTurnUp place s (Line seat bytes) (Ok turn) → TakesAnswers own place (world.nodes place.node) s seat bytes events turn
    by_turn (heard, hears, e) =
        let p = piece_splits g own place world s st up seat bytes heard comes hears in
        takes_by g own place world s seat bytes events turn heard p.closes.turn st up comes (session_at s.sessions seat) refl hears led p.closes.closed
        (ok_is turn (joined heard p.closes.turn) (e ∙ ap (λ (k : Result Turn Refusal). behind heard k) p.closes.is))

pub others_are_passed_over : Given → OthersArePassedOver
others_are_passed_over g own place world s seat bytes turn (st, comes, up, h) unconnected = by_turn (subst (λ b. IsTurnBy b place s (Line seat bytes) (Ok turn)) up h)
  where
    by_turn : IsTurnUp place s (Line seat bytes) (Ok turn) → PassesOver place s seat turn
    by_turn (heard, hears, e) =
        let p = piece_splits g own place world s st up seat bytes heard comes hears in
        passes_by place s seat bytes turn heard p.closes.turn (session_at s.sessions seat) refl hears unconnected p.closes.closed
        (ok_is turn (joined heard p.closes.turn) (e ∙ ap (λ (k : Result Turn Refusal). behind heard k) p.closes.is))

-- ---- connecting and dropping

pub connect_begins_anew : ConnectBeginsAnew
connect_begins_anew own place world s seat turn (st, comes, up, h) =
    let e = ok_is turn (connecting seat s) (subst (λ b. IsTurnBy b place s (Connect seat) (Ok turn)) up h) in
    record {
      talk = fresh;
      session = ap (λ (t : Turn). session_at t.after.sessions seat) e ∙ get_or-set_same s.sessions seat (Some fresh) None (let l = (st.of.runs up).knows.places in omega (arith, l));
      happened = refl;
    }

pub drop_ends : DropEnds
drop_ends own place world s seat turn (st, comes, up, h) =
    let e = ok_is turn (dropping seat s) (subst (λ b. IsTurnBy b place s (Drop seat) (Ok turn)) up h) in
    ap (λ (t : Turn). session_at t.after.sessions seat) e ∙ get_or-set_same s.sessions seat None None (let l = (st.of.runs up).knows.places in omega (arith, l))

-- ---- other calls

put_other : (sessions : List (Option Talk)) (other seat : ℕ) (talk : Option Talk) → (other ≡ seat → ⊥) → session_at (set sessions other talk) seat ≡ session_at sessions seat
put_other sessions other seat talk ne = get_or-set_other sessions other seat talk None (λ e. ne (sym e))

piece_other : (place : Place) (s : Standing) (other seat : ℕ) (bytes : List ℕ) (heard : Turn) (session : Option Talk) → (other ≡ seat → ⊥) → HearsPiece place other bytes session s heard
    → session_at heard.after.sessions seat ≡ session_at s.sessions seat
piece_other place s other seat bytes heard None ne hears = ap (λ (t : Turn). session_at t.after.sessions seat) hears
piece_other place s other seat bytes heard (Some talk) ne (said, new, drains, same) =
    ap (λ (t : Turn). session_at t.after.sessions seat) same
    ∙ (ap (λ (l : List (Option Talk)). session_at l seat) (answers_sessions place other said (still (with_session s other (left new)))) ∙ put_other s.sessions other seat (left new) ne)

stays_up : (g : Given) (own : ℕ → Command → Bool) (place : Place) (world : World) (s : Standing) (called : Call) (seat : ℕ) (turn : Turn) (st : Stands own place world s) → s.up ≡ true
    → Comes place world.ever called → IsTurnUp place s called (Ok turn) → (IsAbout seat called → ⊥) → session_at turn.after.sessions seat ≡ session_at s.sessions seat
stays_up g own place world s (Start found) seat turn st up comes h other = ap (λ (t : Turn). session_at t.after.sessions seat) (ok_is turn (still s) h)
stays_up g own place world s Tick seat turn st up comes h other = elim (tick_splits g own place world s st up) [
  | inl split ↦ ap (λ (t : Turn). session_at t.after.sessions seat) (ok_is turn (joined split.first split.closes.turn) (h ∙ split.whole))
      ∙ ap (λ (l : List (Option Talk)). session_at l seat) (closed_sessions place split.first.after split.closes.turn split.closes.closed ∙ split.path.talks)
  | inr none ↦ absurd (ok_not turn none.0 (h ∙ none.2))
]
stays_up g own place world s Away seat turn st up comes h other =
    let o = order_turn g own place world s st up turn h in
    ap (λ (t : Turn). session_at t.after.sessions seat) o.whole
    ∙ ap (λ (l : List (Option Talk)). session_at l seat) (closed_sessions place (played_for place o.act s).after o.closes.turn o.closes.closed)
stays_up g own place world s (call.Frame from bytes) seat turn st up comes h other =
    let f = frame_turn g own place world s st up from bytes turn comes h in
    let c : Turn = f.split.closes.turn in
    ap (λ (t : Turn). session_at t.after.sessions seat) f.whole
    ∙ ap (λ (l : List (Option Talk)). session_at l seat) (ap (λ (y : Standing). y.sessions) (asked_same from f.message c.after)
    ∙ (closed_sessions place f.split.first.after c f.split.closes.closed ∙ f.split.path.talks))
stays_up g own place world s (Line at bytes) seat turn st up comes (heard, hears, e) other =
    let p = piece_splits g own place world s st up at bytes heard comes hears in
    ap (λ (t : Turn). session_at t.after.sessions seat) (ok_is turn (joined heard p.closes.turn) (e ∙ ap (λ (k : Result Turn Refusal). behind heard k) p.closes.is))
    ∙ (ap (λ (l : List (Option Talk)). session_at l seat) (closed_sessions place heard.after p.closes.turn p.closes.closed)
    ∙ piece_other place s at seat bytes heard (session_at s.sessions at) other hears)
stays_up g own place world s (Connect at) seat turn st up comes h other =
    ap (λ (t : Turn). session_at t.after.sessions seat) (ok_is turn (connecting at s) h) ∙ put_other s.sessions at seat (Some fresh) other
stays_up g own place world s (Drop at) seat turn st up comes h other = ap (λ (t : Turn). session_at t.after.sessions seat) (ok_is turn (dropping at s) h) ∙ put_other s.sessions at seat None other
stays_up g own place world s Stop seat turn st up comes h other = absurd (other tt)

pub sessions_stay : Given → SessionsStay
sessions_stay g own place world s called seat turn (st, comes, up, h) other =
    stays_up g own place world s called seat turn st up comes (subst (λ b. IsTurnBy b place s called (Ok turn)) up h) other

-- ---- faults

learned_faults : {A : Type 0} (place : Place) (answer : Result A SlotFault) (learned : Learned) (s : Standing) (first : Turn) → learning place answer learned s ≡ Ok first → first.faults ≡ []
learned_faults place (Ok answer) learned s first e = ap (λ (t : Turn). t.faults) (sym (ok_is (applying place learned s) first e))
learned_faults place (Err fault) learned s first e = absurd (ok_not first (Conflict s.store) (sym e))

voted_faults : {A : Type 0} (place : Place) (answer : Result A SlotFault) (learned : Learned) (s : Standing) (sent : List Frame) (first : Turn)
    → behind (sending sent s) (learning place answer learned s) ≡ Ok first → first.faults ≡ []
voted_faults place (Ok answer) learned s sent first e = ap (λ (t : Turn). t.faults) (sym (ok_is (joined (sending sent s) (applying place learned s)) first e))
voted_faults place (Err fault) learned s sent first e = absurd (ok_not first (Conflict s.store) (sym e))

chosen_faults : {A : Type 0} (place : Place) (answer : Result A SlotFault) (learned : Learned) (s : Standing) (from : ℕ) (first : Turn)
    → and_then (learning place answer learned s) (λ told. Ok (asking_on from (front_of s) told)) ≡ Ok first → first.faults ≡ []
chosen_faults place (Ok answer) learned s from first e =
    let u : Turn = applying place learned s in
    ap (λ (t : Turn). t.faults) (sym (ok_is (joined u (asking_on from (front_of s) u.after)) first e))
    ∙ question_faults from u.after (asking_on from (front_of s) u.after) (question_on from (front_of s) u.after)
chosen_faults place (Err fault) learned s from first e = absurd (ok_not first (Conflict s.store) (sym e))

prepare_faults : (from : ℕ) (ballot : Ballot) (slot : ℕ) (s : Standing) (b : Bool) → (if b then promising from ballot slot s else refusing from ballot slot s).faults ≡ []
prepare_faults from ballot slot s true = refl
prepare_faults from ballot slot s false = refl

accept_faults : (place : Place) (from : ℕ) (ballot : Ballot) (slot : ℕ) (commands : List Command) (s : Standing) (first : Turn) (b : Bool)
    → (if b then Ok (refusing from ballot slot s) else voting place ballot slot commands (idle s)) ≡ Ok first → first.faults ≡ []
accept_faults place from ballot slot commands s first true h = ap (λ (t : Turn). t.faults) (sym (ok_is (refusing from ballot slot s) first h))
accept_faults place from ballot slot commands s first false h =
    let told : List Command = command_run_at s.store ballot slot commands in
    let kept : Standing = with_stored (idle s) (taking_command_run s.store ballot slot commands) in
    voted_faults place (answer_to_run kept.learned place.node ballot slot told) (counts kept.learned place.node ballot slot told) kept (to_others place (frame.Accepted ballot slot told)) first h

message_faults : (place : Place) (s : Standing) (from : ℕ) (message : Wire) (first : Turn) → taking place from message (seeing message s) ≡ Ok first → first.faults ≡ []
message_faults place s from (frame.Prepare ballot slot) first is =
    let s0 : Standing = seeing (frame.Prepare ballot slot) s in
    ap (λ (t : Turn). t.faults) (sym (ok_is (preparing from ballot slot s0) first is)) ∙ prepare_faults from ballot slot s0 (is_below s0.store.promise ballot)
message_faults place s from (frame.Promise ballot slot told) first is = ap (λ (t : Turn). t.faults) (sym (ok_is _ first is))
message_faults place s from (frame.Refuse ballot slot promised) first is = ap (λ (t : Turn). t.faults) (sym (ok_is _ first is))
message_faults place s from (frame.Accept ballot slot commands) first is =
    let s0 : Standing = seeing (frame.Accept ballot slot commands) s in accept_faults place from ballot slot commands s0 first (is_below ballot s0.store.promise) is
message_faults place s from (frame.Accepted ballot slot commands) first is =
    let s0 : Standing = seeing (frame.Accepted ballot slot commands) s in
    learned_faults place (answer_to_run s0.learned from ballot slot commands) (counts s0.learned from ballot slot commands) s0 first is
message_faults place s from (frame.Chosen slot command) first is =
    let s0 : Standing = seeing (frame.Chosen slot command) s in
    chosen_faults place (answer_to_chosen s0.learned.log slot command) (with_chosen s0.learned slot command) s0 from first is
message_faults place s from (frame.Ask slot) first is = ap (λ (t : Turn). t.faults) (sym (ok_is (telling from slot (seeing (frame.Ask slot) s)) first is))
message_faults place s from (frame.Forward command) first is = ap (λ (t : Turn). t.faults) (sym (ok_is _ first is))

tick_faults : (place : Place) (s : Standing) (first : Turn) (over spent : Bool)
    → (if over then Ok (still s) else if spent then Err Spent else Ok (beginning place (next_ballot place.node (greatest_seen s)) s)) ≡ Ok first → first.faults ≡ []
tick_faults place s first true spent is = ap (λ (t : Turn). t.faults) (sym (ok_is (still s) first is))
tick_faults place s first false true is = absurd (ok_not first Spent (sym is))
tick_faults place s first false false is = ap (λ (t : Turn). t.faults) (sym (ok_is (beginning place (next_ballot place.node (greatest_seen s)) s) first is))

faults_up : (g : Given) (own : ℕ → Command → Bool) (place : Place) (world : World) (s : Standing) (called : Call) (turn : Turn) (st : Stands own place world s) → s.up ≡ true
    → Comes place world.ever called → IsTurnUp place s called (Ok turn) → (IsPiece called → ⊥) → turn.faults ≡ []
faults_up g own place world s (Start found) turn st up comes h other = ap (λ (t : Turn). t.faults) (ok_is turn (still s) h)
faults_up g own place world s Tick turn st up comes h other = elim (tick_splits g own place world s st up) [
  | inl split ↦ ap (λ (t : Turn). t.faults) (ok_is turn (joined split.first split.closes.turn) (h ∙ split.whole))
      ∙ (ap (λ (l : List SeatFault). split.first.faults ++ l) (closed_faults place split.first.after split.closes.turn split.closes.closed)
      ∙ (append-nil split.first.faults ∙ tick_faults place s split.first (is_over place s) (is_spent s) split.is))
  | inr none ↦ absurd (ok_not turn none.0 (h ∙ none.2))
]
faults_up g own place world s Away turn st up comes h other =
    let o = order_turn g own place world s st up turn h in
    ap (λ (t : Turn). t.faults) o.whole ∙ closed_faults place (played_for place o.act s).after o.closes.turn o.closes.closed
faults_up g own place world s (call.Frame from bytes) turn st up comes h other =
    let f = frame_turn g own place world s st up from bytes turn comes h in
    let c : Turn = f.split.closes.turn in
    let first : Turn = f.split.first in
    ap (λ (t : Turn). t.faults) f.whole
    ∙ (ap (λ (l : List SeatFault). (first.faults ++ c.faults) ++ l) (question_faults from c.after (asking from f.message c.after) (question from f.message c.after))
    ∙ (append-nil (first.faults ++ c.faults)
    ∙ (ap (λ (l : List SeatFault). first.faults ++ l) (closed_faults place first.after c f.split.closes.closed)
    ∙ (append-nil first.faults ∙ message_faults place s from f.message first f.split.is))))
faults_up g own place world s (Line seat bytes) turn st up comes h other = absurd (other tt)
faults_up g own place world s (Connect seat) turn st up comes h other = ap (λ (t : Turn). t.faults) (ok_is turn (connecting seat s) h)
faults_up g own place world s (Drop seat) turn st up comes h other = ap (λ (t : Turn). t.faults) (ok_is turn (dropping seat s) h)
faults_up g own place world s Stop turn st up comes h other = ap (λ (t : Turn). t.faults) (ok_is turn (stopping place s) h)

pub faults_are_of_pieces : Given → FaultsAreOfPieces
faults_are_of_pieces g own place world s called turn (st, comes, up, h) other =
    faults_up g own place world s called turn st up comes (subst (λ b. IsTurnBy b place s called (Ok turn)) up h) other

-- ---- lives

pub lives_are_whole : AnyPieces → LivesAreWhole
lives_are_whole any place s seat events led =
    let all = any place.setting.game seat fresh events led.talk led.happened in
    (all.0, all.1, all.2, ap is_connected led.session)

pub unconnected_seats_show_so : UnconnectedSeatsShowSo
unconnected_seats_show_so s seat unconnected = ap is_connected unconnected
