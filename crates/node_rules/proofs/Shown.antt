-- What each call shows, and which act waits after it.
use Rattle.std.proofs.Common.{◌≡◌, ℕ, ◌<◌, ◌⊎◌, inl, inr, Bool, true, false, true≢false, if◌then◌else◌, ◌&&◌, List, [], ◌∷◌, ◌++◌, Option, Some, None, Result, Ok, Err, refl, sym, ap, subst, ◌∙◌, arith, length, reverse, append_assoc}
use Rattle.std.specs.Prelude.{is_none}
use Rattle.std.proofs.lemmas.List.{append-nil}
use Rattle.std.proofs.lemmas.Option.{same_Some}
use Rattle.paxos_wire.specs.declared.message.Message.{Message as Wire}
use Rattle.paxos_wire.specs.declared.message.Message.TheVariants as frame
use Rattle.slot_log.specs.Dealer.{hands_of}
use Rattle.slot_log.specs.Hand.{Hand}
use Rattle.slot_log.specs.Slots.{Log}
use Rattle.slot_log.specs.declared.command.Command.{Command}
use Rattle.protocol_model.specs.Sets.{In}
use Rattle.protocol_model.specs.Dealers.{Dealer, Log as ToLog}
use Rattle.protocol_model.specs.Nodes.{Node, Knows as KnowsCommands}
use Rattle.protocol_model.specs.Stores.{Store}
use Rattle.protocol_model.specs.Worlds.{World}
use Rattle.proposer.specs.Campaigns.{next_ballot}
use Rattle.seat_session.specs.Session.{Standing as Talk, with_piece, Answers}
use Rattle.seat_session.specs.Laws.{IsRestOf}
use Rattle.seat_session.specs.declared.said.Said.{Said as Saying}
use Rattle.seat_session.specs.declared.said.Said.TheVariants.{Ready, Act}
use Rattle.seat_session.specs.declared.session_fault.SessionFault.{SessionFault}
use Rattle.dealer_kind.specs.Kind.{fits, line_of, dealer_of}
use Rattle.node_rules.specs.Standings.{Place, Standing, applied, front_of, hands_at, started, stopped}
use Rattle.node_rules.specs.Sending.{one}
use Rattle.node_rules.specs.Showing.{Piece, is_connected, seat_line}
use Rattle.node_rules.specs.Turns.{Turn, Refusal, Down, Spent, BadFrame, Conflict, NothingToAct, still, joined, behind}
use Rattle.node_rules.specs.Applying.{taking_all, scene_of}
use Rattle.node_rules.specs.Proposing.{greatest_seen, is_over, is_spent, beginning}
use Rattle.node_rules.specs.Seats.{session_at, with_session, connecting, dropping, left, pending_act, answering, answering_all, Drains, HearsPiece}
use Rattle.node_rules.specs.Calls.{Call, Start, Tick, Away, Line, Connect, Drop, Stop}
use Rattle.node_rules.specs.Calls as call
use Rattle.node_rules.specs.Rules.{asking, seeing, taking, starting, stopping, IsTurnUp, IsTurnDown, IsTurnBy, standing_after}
use Rattle.node_rules.specs.Being.{IsPending, IsSession}
use Rattle.node_rules.specs.Called.{Comes, took, refused, failed}
use Rattle.node_rules.specs.Called as ways
use Rattle.node_rules.specs.Given.{Given}
use Rattle.node_rules.specs.Sound.{Stands}
use Rattle.node_rules.specs.LawsAnswers.{act_in, acts_in}
use Rattle.node_rules.specs.LawsShown.{AreShownOf, Passes, ready_lines, ShowsHeard, ShowsUp, ShowsDown, ShowsBy, CallsShow, ShowsNothing, DownShowsNothing}
use Rattle.node_rules.specs.LawsPending.{first_of, kept_over, handed_on, WaitsHeard, WaitsUp, ActsWait, WaitingFits}
use Rattle.node_rules.proofs.Beginning.{commands_known}
use Rattle.node_rules.proofs.Answering.{answer_fits, fits_if}
use Rattle.node_rules.proofs.Starting.{none_seated}
use Rattle.node_rules.proofs.Sitting.{same_hands}
use Rattle.node_rules.proofs.Results.{ok_is, ok_not}
use Rattle.node_rules.proofs.Resting.{Closed, rests, proposes}
use Rattle.node_rules.proofs.Led.{scope, tick_splits, OrderTurn, order_turn, piece_splits, frame_turn}
use Rattle.node_rules.proofs.Noting.{ordered_fits, played_for, order_meant}
use Rattle.node_rules.proofs.Asked.{asked_same, asked_shown}
use Rattle.node_rules.proofs.Applied.{seat_line_is, takes_all, keeps_all, scene_over, waits_then, Applies, message_applies, passed_now}

-- ---- the close shows nothing, and leaves all but what it proposes

pub closed_shown : (place : Place) (s : Standing) (c : Turn) → Closed place s c → c.shown ≡ []
closed_shown place s c (rests campaign e) = ap (λ (t : Turn). t.shown) e
closed_shown place s c (proposes o) = ap (λ (t : Turn). t.shown) o.turn_is

pub closed_faults : (place : Place) (s : Standing) (c : Turn) → Closed place s c → c.faults ≡ []
closed_faults place s c (rests campaign e) = ap (λ (t : Turn). t.faults) e
closed_faults place s c (proposes o) = ap (λ (t : Turn). t.faults) o.turn_is

closed_applied : (place : Place) (s : Standing) (c : Turn) → Closed place s c → applied c.after ≡ applied s
closed_applied place s c (rests campaign e) = ap (λ (t : Turn). applied t.after) e
closed_applied place s c (proposes o) = ap (λ (t : Turn). applied t.after) o.turn_is ∙ (let f = o.fresh in ap (λ (l : Log). l.below) f.over.log)

pub closed_pending : (place : Place) (s : Standing) (c : Turn) → Closed place s c → c.after.pending ≡ s.pending
closed_pending place s c (rests campaign e) = ap (λ (t : Turn). t.after.pending) e
closed_pending place s c (proposes o) = ap (λ (t : Turn). t.after.pending) o.turn_is

pub closed_sessions : (place : Place) (s : Standing) (c : Turn) → Closed place s c → c.after.sessions ≡ s.sessions
closed_sessions place s c (rests campaign e) = ap (λ (t : Turn). t.after.sessions) e
closed_sessions place s c (proposes o) = ap (λ (t : Turn). t.after.sessions) o.turn_is

closed_up : (place : Place) (s : Standing) (c : Turn) → Closed place s c → c.after.up ≡ s.up
closed_up place s c (rests campaign e) = ap (λ (t : Turn). t.after.up) e
closed_up place s c (proposes o) = ap (λ (t : Turn). t.after.up) o.turn_is

pub two_shown : (place : Place) (turn first c : Turn) (pieces : List Piece) → turn ≡ joined first c → Closed place first.after c → first.shown ≡ pieces → turn.shown ≡ pieces
two_shown place turn first c pieces whole closed e =
    ap (λ (t : Turn). t.shown) whole ∙ (ap (λ (l : List Piece). first.shown ++ l) (closed_shown place first.after c closed) ∙ (append-nil first.shown ∙ e))

-- ---- a piece

pub answers_shown : (place : Place) (seat : ℕ) (said : List (Result Saying SessionFault)) (t : Turn) → seat < place.setting.game.players
    → (answering_all place seat said t).shown ≡ t.shown ++ ready_lines (line_of place.setting (applied t.after) seat) seat said
unfolding answering_all
answers_shown place seat [] t low = sym (append-nil t.shown)
answers_shown place seat (Ok Ready ∷ more) t low =
    answers_shown place seat more (joined t (answering place seat (Ok Ready) t.after)) low
    ∙ (append_assoc t.shown (seat_line place.setting (hands_at place t.after) seat) (ready_lines (line_of place.setting (applied t.after) seat) seat more)
    ∙ ap (λ (l : List Piece). t.shown ++ (l ++ ready_lines (line_of place.setting (applied t.after) seat) seat more)) (seat_line_is place.setting (applied t.after) seat low))
answers_shown place seat (Ok (Act act) ∷ more) t low =
    answers_shown place seat more (joined t (answering place seat (Ok (Act act)) t.after)) low
    ∙ ap (λ (l : List Piece). l ++ ready_lines (line_of place.setting (applied t.after) seat) seat more) (append-nil t.shown)
answers_shown place seat (Err fault ∷ more) t low =
    answers_shown place seat more (joined t (answering place seat (Err fault) t.after)) low
    ∙ ap (λ (l : List Piece). l ++ ready_lines (line_of place.setting (applied t.after) seat) seat more) (append-nil t.shown)

heard_shown : (own : ℕ → Command → Bool) (place : Place) (s : Standing) (node : Node) (seat : ℕ) (bytes : List ℕ) (turn heard c : Turn) (session : Option Talk) (before : Option (List ℕ))
    → seat < place.setting.game.players → KnowsCommands node.known (applied s) → IsSession place.setting.game seat session before → HearsPiece place seat bytes session s heard
    → Closed place heard.after c → turn ≡ joined heard c → ShowsHeard own place s node seat bytes before turn
heard_shown own place s node seat bytes turn heard c None None low knows is hears closed whole = two_shown place turn heard c [] whole closed (ap (λ (t : Turn). t.shown) hears)
heard_shown own place s node seat bytes turn heard c None (Some before) low knows is hears closed whole = absurd is
heard_shown own place s node seat bytes turn heard c (Some old) None low knows is hears closed whole = absurd is
heard_shown own place s node seat bytes turn heard c (Some old) (Some before) low knows is (said, new, drains, same) closed whole = (
  said,
  applied s,
  record { old = old; new = new; stood = is; drains = drains },
  knows,
  refl,
  two_shown place turn heard c (ready_lines (line_of place.setting (applied s) seat) seat said) whole closed
      (ap (λ (t : Turn). t.shown) same ∙ answers_shown place seat said (still (with_session s seat (left new))) low),
)

-- ---- a tick

tick_shown : (place : Place) (s : Standing) (first : Turn) (over spent : Bool)
    → (if over then Ok (still s) else if spent then Err Spent else Ok (beginning place (next_ballot place.node (greatest_seen s)) s)) ≡ Ok first
    → (first.shown ≡ []) × (first.after.pending ≡ s.pending)
tick_shown place s first true spent is = let e = sym (ok_is (still s) first is) in (ap (λ (t : Turn). t.shown) e, ap (λ (t : Turn). t.after.pending) e)
tick_shown place s first false true is = absurd (ok_not first Spent (sym is))
tick_shown place s first false false is =
    let e = sym (ok_is (beginning place (next_ballot place.node (greatest_seen s)) s) first is) in (ap (λ (t : Turn). t.shown) e, ap (λ (t : Turn). t.after.pending) e)

-- ---- a frame

-- what the front passed
passes_of : (own : ℕ → Command → Bool) (place : Place) (world : World) (s : Standing) (turn : Turn) (later : List Command) (st : Stands own place world s) (up : s.up ≡ true)
    → turn.after.up ≡ true → applied turn.after ≡ reverse later ++ applied s → Passes own place (world.nodes place.node) s turn (applied s) later
passes_of own place world s turn later st up after same = record {
  known = commands_known s.learned.log (world.nodes place.node).known (st.of.runs up).knows.learner.knows;
  front = refl;
  known_after = λ last of. subst (KnowsCommands last.known) same (commands_known turn.after.learned.log last.known (of.runs after).knows.learner.knows);
  front_after = ap length same;
}

-- ---- every call

shows_up : (g : Given) (own : ℕ → Command → Bool) (place : Place) (world : World) (s : Standing) (called : Call) (turn : Turn) (st : Stands own place world s) → s.up ≡ true
    → Comes place world.ever called → IsTurnUp place s called (Ok turn) → ShowsUp own place s (world.nodes place.node) called turn
shows_up g own place world s (Start found) turn st up comes h = ap (λ (t : Turn). t.shown) (ok_is turn (still s) h)
shows_up g own place world s Tick turn st up comes h = elim (tick_splits g own place world s st up) [
  | inl split ↦ two_shown place turn split.first split.closes.turn [] (ok_is turn (joined split.first split.closes.turn) (h ∙ split.whole)) split.closes.closed
      (tick_shown place s split.first (is_over place s) (is_spent s) split.is).0
  | inr none ↦ absurd (ok_not turn none.0 (h ∙ none.2))
]
shows_up g own place world s Away turn st up comes h =
    let o = order_turn g own place world s st up turn h in two_shown place turn (played_for place o.act s) o.closes.turn [] o.whole o.closes.closed refl
shows_up g own place world s (call.Frame from bytes) turn st up comes h =
    let f = frame_turn g own place world s st up from bytes turn comes h in
    let first : Turn = f.split.first in
    let c : Turn = f.split.closes.turn in
    let a = message_applies g place s from f.message first f.split.is in
    let p = passed_now place s f.message first a in
    let after = asked_same from f.message c.after in
    let same : applied turn.after ≡ reverse (reverse a.later) ++ applied s =
    ap (λ (t : Turn). applied t.after) f.whole ∙ (ap applied after ∙ (closed_applied place first.after c f.split.closes.closed ∙ p.1)) in
    let runs : turn.after.up ≡ true =
    ap (λ (t : Turn). t.after.up) f.whole ∙ (ap (λ (y : Standing). y.up) after ∙ (closed_up place first.after c f.split.closes.closed ∙ f.split.path.runs)) in
    let shows = takes_all g place.setting own s.sessions (reverse a.later) (scene_of s) (st.of.runs up).knows.places in
    let all : turn.shown ≡ shows.pieces =
    ap (λ (t : Turn). t.shown) f.whole
    ∙ (ap (λ (l : List Piece). (first.shown ++ l) ++ (asking from f.message c.after).shown) (closed_shown place first.after c f.split.closes.closed)
    ∙ (ap (λ (l : List Piece). (first.shown ++ []) ++ l) (asked_shown from f.message c.after)
    ∙ (append-nil (first.shown ++ []) ∙ (append-nil first.shown ∙ (a.shown
    ∙ (ap (λ (cs : List Command). (taking_all place.setting s.sessions cs (scene_of s)).shown) p.0 ∙ shows.all)))))) in (
      applied s,
      reverse a.later,
      passes_of own place world s turn (reverse a.later) st up runs same,
      subst (AreShownOf (dealer_of place.setting own) (λ seat. is_connected (session_at s.sessions seat)) place.setting.game.players (applied s) (reverse a.later)) (sym all) shows.are,
    )
shows_up g own place world s (Line seat bytes) turn st up comes (heard, hears, e) =
    let p = piece_splits g own place world s st up seat bytes heard comes hears in
    heard_shown own place s (world.nodes place.node) seat bytes turn heard p.closes.turn (session_at s.sessions seat) ((world.nodes place.node).heard seat) comes
    (commands_known s.learned.log (world.nodes place.node).known (st.of.runs up).knows.learner.knows)
    ((st.of.runs up).sessions seat) hears p.closes.closed
    (ok_is turn (joined heard p.closes.turn) (e ∙ ap (λ (k : Result Turn Refusal). behind heard k) p.closes.is))
shows_up g own place world s (Connect seat) turn st up comes h = ap (λ (t : Turn). t.shown) (ok_is turn (connecting seat s) h)
shows_up g own place world s (Drop seat) turn st up comes h = ap (λ (t : Turn). t.shown) (ok_is turn (dropping seat s) h)
shows_up g own place world s Stop turn st up comes h = ap (λ (t : Turn). t.shown) (ok_is turn (stopping place s) h)

shows_down : (g : Given) (own : ℕ → Command → Bool) (place : Place) (world : World) (s : Standing) (called : Call) (turn : Turn) → Stands own place world s
    → IsTurnDown place s called (Ok turn) → ShowsDown own place called turn
shows_down g own place world s (Start found) turn st (from, h) =
    ap (λ (t : Turn). t.shown) (ok_is turn (starting place found) h)
    ∙ ap (λ (l : List ℕ). let pieces : List Piece = (record { reader = ToLog; text = l }) ∷ [] in pieces) (sym (g.header place.setting.game place.setting.title place.setting.names st.is_place.match.least))
shows_down g own place world s Tick turn st h = ok_not turn Down h
shows_down g own place world s Away turn st h = ok_not turn Down h
shows_down g own place world s (call.Frame from bytes) turn st h = ok_not turn Down h
shows_down g own place world s (Line seat bytes) turn st h = ok_not turn Down h
shows_down g own place world s (Connect seat) turn st h = ok_not turn Down h
shows_down g own place world s (Drop seat) turn st h = ok_not turn Down h
shows_down g own place world s Stop turn st h = ap (λ (t : Turn). t.shown) (ok_is turn (still s) h)

shows_by : (g : Given) (own : ℕ → Command → Bool) (place : Place) (world : World) (s : Standing) (called : Call) (turn : Turn) (b : Bool) (st : Stands own place world s) → s.up ≡ b
    → Comes place world.ever called → IsTurnBy b place s called (Ok turn) → ShowsBy b own place s (world.nodes place.node) called turn
shows_by g own place world s called turn true st up comes h = shows_up g own place world s called turn st up comes h
shows_by g own place world s called turn false st down comes h = shows_down g own place world s called turn st h

pub calls_show : Given → CallsShow
calls_show g own place world s called turn st comes h =
    subst (λ b. ShowsBy b own place s (world.nodes place.node) called turn) (sym st.of.up) (shows_by g own place world s called turn s.up st refl comes h)

-- ---- a node that is down

stopped_shows : (place : Place) (store begun : Store) → ShowsNothing place (stopped place store begun)
unfolding hands_of
stopped_shows place store begun = record {
  hands = refl;
  front = refl;
  pending = refl;
  seats = λ seat. ap is_connected (none_seated place.setting.game.players seat);
}

started_shows : (place : Place) (found : Store) → ShowsNothing place (started place found)
unfolding hands_of
started_shows place found = record {
  hands = refl;
  front = refl;
  pending = refl;
  seats = λ seat. ap is_connected (none_seated place.setting.game.players seat);
}

-- a node that runs goes on running, or was stopped
up_after : (g : Given) (own : ℕ → Command → Bool) (place : Place) (world : World) (s : Standing) (called : Call) (turn : Turn) (st : Stands own place world s) → s.up ≡ true
    → Comes place world.ever called → IsTurnUp place s called (Ok turn) → (turn.after.up ≡ true) ⊎ (turn ≡ stopping place s)
up_after g own place world s (Start found) turn st up comes h = inl (ap (λ (t : Turn). t.after.up) (ok_is turn (still s) h) ∙ up)
up_after g own place world s Tick turn st up comes h = elim (tick_splits g own place world s st up) [
  | inl split ↦ inl (ap (λ (t : Turn). t.after.up) (ok_is turn (joined split.first split.closes.turn) (h ∙ split.whole))
      ∙ (closed_up place split.first.after split.closes.turn split.closes.closed ∙ split.path.runs))
  | inr none ↦ absurd (ok_not turn none.0 (h ∙ none.2))
]
up_after g own place world s Away turn st up comes h =
    let o = order_turn g own place world s st up turn h in
    inl (ap (λ (t : Turn). t.after.up) o.whole ∙ (closed_up place (played_for place o.act s).after o.closes.turn o.closes.closed ∙ o.sits.path.runs))
up_after g own place world s (call.Frame from bytes) turn st up comes h =
    let f = frame_turn g own place world s st up from bytes turn comes h in
    let c : Turn = f.split.closes.turn in
    inl (ap (λ (t : Turn). t.after.up) f.whole ∙ (ap (λ (y : Standing). y.up) (asked_same from f.message c.after) ∙ (closed_up place f.split.first.after c f.split.closes.closed ∙ f.split.path.runs)))
up_after g own place world s (Line seat bytes) turn st up comes (heard, hears, e) =
    let p = piece_splits g own place world s st up seat bytes heard comes hears in
    inl (ap (λ (t : Turn). t.after.up) (ok_is turn (joined heard p.closes.turn) (e ∙ ap (λ (k : Result Turn Refusal). behind heard k) p.closes.is))
    ∙ (closed_up place heard.after p.closes.turn p.closes.closed ∙ p.path.runs))
up_after g own place world s (Connect seat) turn st up comes h = inl (ap (λ (t : Turn). t.after.up) (ok_is turn (connecting seat s) h) ∙ up)
up_after g own place world s (Drop seat) turn st up comes h = inl (ap (λ (t : Turn). t.after.up) (ok_is turn (dropping seat s) h) ∙ up)
up_after g own place world s Stop turn st up comes h = inr (ok_is turn (stopping place s) h)

down_after : (place : Place) (s : Standing) (called : Call) (turn : Turn) → IsTurnDown place s called (Ok turn) → ShowsNothing place s → ShowsNothing place turn.after
down_after place s (Start found) turn (from, h) was = subst (λ (t : Turn). ShowsNothing place t.after) (sym (ok_is turn (starting place found) h)) (started_shows place found)
down_after place s Tick turn h was = absurd (ok_not turn Down h)
down_after place s Away turn h was = absurd (ok_not turn Down h)
down_after place s (call.Frame from bytes) turn h was = absurd (ok_not turn Down h)
down_after place s (Line seat bytes) turn h was = absurd (ok_not turn Down h)
down_after place s (Connect seat) turn h was = absurd (ok_not turn Down h)
down_after place s (Drop seat) turn h was = absurd (ok_not turn Down h)
down_after place s Stop turn h was = subst (λ (t : Turn). ShowsNothing place t.after) (sym (ok_is turn (still s) h)) was

took_shows : (g : Given) (own : ℕ → Command → Bool) (place : Place) (world : World) (s : Standing) (called : Call) (turn : Turn) (b : Bool) (st : Stands own place world s) → s.up ≡ b
    → Comes place world.ever called → IsTurnBy b place s called (Ok turn) → (s.up ≡ false → ShowsNothing place s) → (turn.after.up ≡ false) ⊎ (s.up ≡ false) → ShowsNothing place turn.after
took_shows g own place world s called turn false st down comes h was why = down_after place s called turn h (was down)
took_shows g own place world s called turn true st up comes h was why = elim (up_after g own place world s called turn st up comes h) [
  | inl runs ↦ absurd (elim why [ inl d ↦ true≢false (sym runs ∙ d) | inr d ↦ true≢false (sym up ∙ d) ])
  | inr stops ↦ subst (λ (t : Turn). ShowsNothing place t.after) (sym stops) (stopped_shows place s.store s.store)
]

refusal_shows : (place : Place) (s : Standing) (refusal : Refusal) → (s.up ≡ false → ShowsNothing place s) → ((standing_after place s (Err refusal)).up ≡ false) ⊎ (s.up ≡ false)
    → ShowsNothing place (standing_after place s (Err refusal))
refusal_shows place s Down was why = was (elim why [ inl d ↦ d | inr d ↦ d ])
refusal_shows place s Spent was why = was (elim why [ inl d ↦ d | inr d ↦ d ])
refusal_shows place s (BadFrame fault) was why = was (elim why [ inl d ↦ d | inr d ↦ d ])
refusal_shows place s (Conflict store) was why = stopped_shows place s.store store
refusal_shows place s NothingToAct was why = was (elim why [ inl d ↦ d | inr d ↦ d ])

pub down_shows_nothing : Given → DownShowsNothing
down_shows_nothing g own place world s called after frames shown st comes (took turn rule e f p) was why =
    subst (ShowsNothing place) (sym e) (took_shows g own place world s called turn s.up st refl comes rule was (subst (λ (y : Standing). (y.up ≡ false) ⊎ (s.up ≡ false)) e why))
down_shows_nothing g own place world s called after frames shown st comes (refused refusal rule e f p) was why =
    subst (ShowsNothing place) (sym e) (refusal_shows place s refusal was (subst (λ (y : Standing). (y.up ≡ false) ⊎ (s.up ≡ false)) e why))
down_shows_nothing g own place world s called after frames shown st comes (failed outcome begun up rule from e f p) was why =
    subst (ShowsNothing place) (sym e) (stopped_shows place s.store begun)
down_shows_nothing g own place world s called after frames shown st comes (ways.unchanged e f p) was why =
    subst (ShowsNothing place) (sym e) (was (elim (subst (λ (y : Standing). (y.up ≡ false) ⊎ (s.up ≡ false)) e why) [ inl d ↦ d | inr d ↦ d ]))

-- ---- the act that waits

first_none : (p : Option Command) → first_of p [] ≡ p
first_none None = refl
first_none (Some act) = refl

first_both : (p : Option Command) (xs ys : List Command) → first_of p (xs ++ ys) ≡ first_of (first_of p xs) ys
first_both None [] ys = refl
first_both None (x ∷ xs) ys = refl
first_both (Some act) xs ys = refl

kept_none : (dealer : Dealer) (before : List Command) (p : Option Command) → kept_over dealer before [] p ≡ p
kept_none dealer before None = refl
kept_none dealer before (Some act) = refl

waiting_by : (p : Option Command) (act : Command) (b : Bool) → (if is_none p && b then Some act else p) ≡ first_of p (if b then act ∷ [] else [])
waiting_by None act true = refl
waiting_by None act false = refl
waiting_by (Some other) act true = refl
waiting_by (Some other) act false = refl

-- an act that a session gives fits, so that it waits where none does
step_pending : (g : Given) (place : Place) (seat : ℕ) (said : Result Saying SessionFault) (s : Standing) (bytes : List ℕ) (cur new : Talk) → IsRestOf bytes cur
    → Answers place.setting.game (hands_at place s) seat cur (Some said) new → (answering place seat said s).after.pending ≡ first_of s.pending (act_in said)
step_pending g place seat (Ok Ready) s bytes cur new rest answers = sym (first_none s.pending)
step_pending g place seat (Err fault) s bytes cur new rest answers = sym (first_none s.pending)
step_pending g place seat (Ok (Act act)) s bytes cur new rest answers =
    let fit : fits place.setting (applied s) act ≡ true = fits_if g place.setting (applied s) act (answer_fits g place.setting (applied s) seat bytes cur new act rest answers) in
    waiting_by s.pending act (fits place.setting (applied s) act) ∙ ap (λ b. first_of s.pending (if b then act ∷ [] else [])) fit

pub answers_pending : (g : Given) (place : Place) (seat : ℕ) (said : List (Result Saying SessionFault)) (t : Turn) (bytes : List ℕ) (cur new : Talk) → IsRestOf bytes cur
    → Drains place.setting.game (hands_at place t.after) seat cur said new → (answering_all place seat said t).after.pending ≡ first_of t.after.pending (acts_in said)
unfolding Drains answering_all
answers_pending g place seat [] t bytes cur new rest drains = sym (first_none t.after.pending)
answers_pending g place seat (one_said ∷ more) t bytes cur new rest (between, one_answer, inl last) =
    subst (λ (l : List (Result Saying SessionFault)). (answering_all place seat l (joined t (answering place seat one_said t.after))).after.pending ≡ first_of t.after.pending (act_in one_said ++ acts_in l)) (sym last.1)
    (step_pending g place seat one_said t.after bytes cur between rest one_answer ∙ ap (first_of t.after.pending) (sym (append-nil (act_in one_said))))
answers_pending g place seat (one_said ∷ more) t bytes cur new rest (between, one_answer, inr later) =
    answers_pending g place seat more (joined t (answering place seat one_said t.after)) bytes between new
    (g.whole.answered place.setting.game (hands_at place t.after) seat bytes cur (Some one_said) between rest one_answer)
    (subst (λ (h : List Hand). Drains place.setting.game h seat between more new) (sym (same_hands place seat one_said t.after)) later.1)
    ∙ (ap (λ (p : Option Command). first_of p (acts_in more)) (step_pending g place seat one_said t.after bytes cur between rest one_answer)
    ∙ sym (first_both t.after.pending (act_in one_said) (acts_in more)))

heard_pending : (g : Given) (place : Place) (s : Standing) (seat : ℕ) (bytes : List ℕ) (turn heard : Turn) (session : Option Talk) (before : Option (List ℕ))
    → IsSession place.setting.game seat session before → HearsPiece place seat bytes session s heard → turn.after.pending ≡ heard.after.pending → WaitsHeard place s seat bytes before turn
heard_pending g place s seat bytes turn heard None None is hears same = same ∙ ap (λ (t : Turn). t.after.pending) hears
heard_pending g place s seat bytes turn heard None (Some before) is hears same = absurd is
heard_pending g place s seat bytes turn heard (Some old) None is hears same = absurd is
heard_pending g place s seat bytes turn heard (Some old) (Some before) is (said, new, drains, turned) same = (
  said,
  record { old = old; new = new; stood = is; drains = drains },
  same ∙ (ap (λ (t : Turn). t.after.pending) turned
      ∙ answers_pending g place seat said (still (with_session s seat (left new))) (before ++ bytes) (with_piece old bytes) new (g.whole.fed_more before bytes old is.rest) drains),
)

-- what a message leaves waiting, where nothing was handed on
kept_then : (own : ℕ → Command → Bool) (place : Place) (s : Standing) (message : Wire) (first : Turn) (a : Applies place s message first)
    → waits_then place s a.learned message ≡ (scene_over place s a.learned).pending → handed_on (dealer_of place.setting own) (applied s) message ≡ []
    → first.after.pending ≡ kept_over (dealer_of place.setting own) (applied s) (reverse a.later) (first_of s.pending (handed_on (dealer_of place.setting own) (applied s) message))
kept_then own place s message first a other none =
    a.pending ∙ (other
    ∙ (ap (λ (cs : List Command). (taking_all place.setting s.sessions cs (scene_of s)).pending) (passed_now place s message first a).0
    ∙ (keeps_all place.setting own s.sessions (reverse a.later) (scene_of s)
    ∙ ap (kept_over (dealer_of place.setting own) (applied s) (reverse a.later)) (sym (ap (first_of s.pending) none ∙ first_none s.pending)))))

-- the commands that a message's rule applied, oldest first, and what it leaves waiting
pub record Waits (own : ℕ → Command → Bool) (place : Place) (s : Standing) (message : Wire) (first : Turn) : Type 0 where
  pub later : List Command
  pub same : applied first.after ≡ reverse later ++ applied s
  pub pending : first.after.pending ≡ kept_over (dealer_of place.setting own) (applied s) later (first_of s.pending (handed_on (dealer_of place.setting own) (applied s) message))

waits_by : (own : ℕ → Command → Bool) (place : Place) (s : Standing) (message : Wire) (first : Turn) (a : Applies place s message first)
    → waits_then place s a.learned message ≡ (scene_over place s a.learned).pending → handed_on (dealer_of place.setting own) (applied s) message ≡ [] → Waits own place s message first
waits_by own place s message first a other none = record { later = reverse a.later; same = (passed_now place s message first a).1; pending = kept_then own place s message first a other none }

message_waits : (g : Given) (own : ℕ → Command → Bool) (place : Place) (s : Standing) (from : ℕ) (message : Wire) (first : Turn) → taking place from message (seeing message s) ≡ Ok first
    → Waits own place s message first
message_waits g own place s from (frame.Prepare ballot slot) first is = waits_by own place s (frame.Prepare ballot slot) first (message_applies g place s from (frame.Prepare ballot slot) first is) refl refl
message_waits g own place s from (frame.Promise ballot slot told) first is = waits_by own place s (frame.Promise ballot slot told) first (message_applies g place s from (frame.Promise ballot slot told) first is) refl refl
message_waits g own place s from (frame.Refuse ballot slot promised) first is = waits_by own place s (frame.Refuse ballot slot promised) first (message_applies g place s from (frame.Refuse ballot slot promised) first is) refl refl
message_waits g own place s from (frame.Accept ballot slot commands) first is = waits_by own place s (frame.Accept ballot slot commands) first (message_applies g place s from (frame.Accept ballot slot commands) first is) refl refl
message_waits g own place s from (frame.Accepted ballot slot commands) first is = waits_by own place s (frame.Accepted ballot slot commands) first (message_applies g place s from (frame.Accepted ballot slot commands) first is) refl refl
message_waits g own place s from (frame.Chosen slot command) first is = waits_by own place s (frame.Chosen slot command) first (message_applies g place s from (frame.Chosen slot command) first is) refl refl
message_waits g own place s from (frame.Ask slot) first is = waits_by own place s (frame.Ask slot) first (message_applies g place s from (frame.Ask slot) first is) refl refl
message_waits g own place s from (frame.Forward act) first is =
    let e : first ≡ still (pending_act place act (seeing (frame.Forward act) s)) = sym (ok_is (still (pending_act place act (seeing (frame.Forward act) s))) first is) in
    record {
      later = [];
      same = ap (λ (t : Turn). applied t.after) e;
      pending = ap (λ (t : Turn). t.after.pending) e
          ∙ (waiting_by s.pending act (fits place.setting (applied s) act) ∙ sym (kept_none (dealer_of place.setting own) (applied s) (first_of s.pending (if fits place.setting (applied s) act then act ∷ [] else []))));
    }

-- what an order means fits, so that it waits where none does
pub order_waits : (g : Given) (own : ℕ → Command → Bool) (place : Place) (world : World) (s : Standing) (turn : Turn) (st : Stands own place world s)
    → (o : OrderTurn (scope g own place world s st Away) s turn) → turn.after.pending ≡ first_of s.pending (o.act ∷ [])
order_waits g own place world s turn st o =
    let fit : fits place.setting (applied s) o.act ≡ true = ordered_fits place.setting (applied s) o.act (order_meant (scope g own place world s st Away) s o.act o.next) in
    ap (λ (t : Turn). t.after.pending) o.whole
    ∙ (closed_pending place (played_for place o.act s).after o.closes.turn o.closes.closed
    ∙ (waiting_by s.pending o.act (fits place.setting (applied s) o.act) ∙ ap (λ b. first_of s.pending (if b then o.act ∷ [] else [])) fit))

waits_up : (g : Given) (own : ℕ → Command → Bool) (place : Place) (world : World) (s : Standing) (called : Call) (turn : Turn) (st : Stands own place world s) → s.up ≡ true
    → Comes place world.ever called → IsTurnUp place s called (Ok turn) → WaitsUp own place s (world.nodes place.node) called turn
waits_up g own place world s (Start found) turn st up comes h = ap (λ (t : Turn). t.after.pending) (ok_is turn (still s) h)
waits_up g own place world s Tick turn st up comes h = elim (tick_splits g own place world s st up) [
  | inl split ↦ ap (λ (t : Turn). t.after.pending) (ok_is turn (joined split.first split.closes.turn) (h ∙ split.whole))
      ∙ (closed_pending place split.first.after split.closes.turn split.closes.closed ∙ (tick_shown place s split.first (is_over place s) (is_spent s) split.is).1)
  | inr none ↦ absurd (ok_not turn none.0 (h ∙ none.2))
]
waits_up g own place world s Away turn st up comes h =
    let o = order_turn g own place world s st up turn h in (o.act, o.next, order_waits g own place world s turn st o)
waits_up g own place world s (call.Frame from bytes) turn st up comes h =
    let f = frame_turn g own place world s st up from bytes turn comes h in
    let first : Turn = f.split.first in
    let c : Turn = f.split.closes.turn in
    let w = message_waits g own place s from f.message first f.split.is in
    let after : turn.after ≡ c.after = ap (λ (t : Turn). t.after) f.whole ∙ asked_same from f.message c.after in (
      f.message,
      applied s,
      w.later,
      f.read,
      passes_of own place world s turn w.later st up (ap (λ (y : Standing). y.up) after ∙ (closed_up place first.after c f.split.closes.closed ∙ f.split.path.runs))
          (ap applied after ∙ (closed_applied place first.after c f.split.closes.closed ∙ w.same)),
      ap (λ (y : Standing). y.pending) after ∙ (closed_pending place first.after c f.split.closes.closed ∙ w.pending),
    )
waits_up g own place world s (Line seat bytes) turn st up comes (heard, hears, e) =
    let p = piece_splits g own place world s st up seat bytes heard comes hears in
    heard_pending g place s seat bytes turn heard (session_at s.sessions seat) ((world.nodes place.node).heard seat) ((st.of.runs up).sessions seat) hears
    (ap (λ (t : Turn). t.after.pending) (ok_is turn (joined heard p.closes.turn) (e ∙ ap (λ (k : Result Turn Refusal). behind heard k) p.closes.is))
    ∙ closed_pending place heard.after p.closes.turn p.closes.closed)
waits_up g own place world s (Connect seat) turn st up comes h = ap (λ (t : Turn). t.after.pending) (ok_is turn (connecting seat s) h)
waits_up g own place world s (Drop seat) turn st up comes h = ap (λ (t : Turn). t.after.pending) (ok_is turn (dropping seat s) h)
waits_up g own place world s Stop turn st up comes h = ap (λ (t : Turn). t.after.pending) (ok_is turn (stopping place s) h)

pub acts_wait : Given → ActsWait
acts_wait g own place world s called turn st comes up h = waits_up g own place world s called turn st up comes (subst (λ b. IsTurnBy b place s called (Ok turn)) up h)

-- ---- what waits fits

-- two rows of commands that are known, as long as one another, are one
one_row : (known : List (ℕ × Command)) → ((slot : ℕ) (c d : Command) → In (slot, c) known → In (slot, d) known → c ≡ d) → (a b : List Command)
    → KnowsCommands known a → KnowsCommands known b → length a ≡ length b → a ≡ b
one_row known one [] [] ka kb e = refl
one_row known one [] (d ∷ b) ka kb e = absurd (omega (arith, e))
one_row known one (c ∷ a) [] ka kb e = absurd (omega (arith, e))
one_row known one (c ∷ a) (d ∷ b) ka kb e =
    let size : length a ≡ length b = omega (arith, e) in
    let rest : a ≡ b = one_row known one a b ka.1 kb.1 size in
    let same : c ≡ d = one (length a) c d ka.0 (subst (λ k. In (k, d) known) (sym size) kb.0) in
    λ i. same i ∷ rest i

-- the commands that are known below the front are those applied
pub applied_is : (own : ℕ → Command → Bool) (place : Place) (world : World) (s : Standing) (before : List Command) → Stands own place world s → s.up ≡ true
    → KnowsCommands (world.nodes place.node).known before → front_of s ≡ length before → applied s ≡ before
applied_is own place world s before st up knows front =
    let k = (st.of.runs up).knows in
    let one : (slot : ℕ) (c d : Command) → In (slot, c) (world.nodes place.node).known → In (slot, d) (world.nodes place.node).known → c ≡ d =
    λ slot c d hc hd. same_Some c d (sym (k.learner.only slot c hc) ∙ k.learner.only slot d hd) in
    one_row (world.nodes place.node).known one (applied s) before (commands_known s.learned.log (world.nodes place.node).known k.learner.knows) knows front

pub waiting_fits : WaitingFits
waiting_fits own place world s before act st up knows front waits =
    subst (λ (l : List Command). fits place.setting l act ≡ true) (applied_is own place world s before st up knows front)
    ((subst (IsPending (dealer_of place.setting own) place.node (world.nodes place.node) (applied s)) waits (st.of.runs up).knows.pending).1)
