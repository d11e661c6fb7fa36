-- What the rules show to a log is what the dealer's log has further.
use Rattle.std.proofs.Common.{◌≡◌, ℕ, ◌+◌, Bool, true, false, not, if◌then◌else◌, List, [], ◌∷◌, ◌++◌, Option, Some, None, Result, Ok, Err, refl, sym, ap, subst, ◌∙◌, append_assoc}
use Rattle.std.specs.Prelude.{is_none}
use Rattle.std.specs.Option.{option_map, option_to_list}
use Rattle.std.proofs.lemmas.List.{append-nil}
use Rattle.paxos_wire.specs.declared.ballot.Ballot.{Ballot}
use Rattle.paxos_wire.specs.declared.fault.FrameFault.{FrameFault}
use Rattle.paxos_wire.specs.declared.message.Message.{Message as Wire}
use Rattle.paxos_wire.specs.declared.message.Message.TheVariants as frame
use Rattle.paxos_wire.specs.declared.limits.TheConstants.{SLOTS}
use Rattle.paxos_wire.specs.Order.{is_below}
use Rattle.paxos_wire.specs.Faults.{reading}
use Rattle.std.specs.Prelude.{nat_lt, nat_le, ◌&&◌}
use Rattle.slot_log.specs.Dealer.{is_running, finished_count, hands_of}
use Rattle.slot_log.specs.Hand.{Hand}
use Rattle.slot_log.specs.Slots.{Log, known_at, with_command}
use Rattle.slot_log.specs.SlotLaws.{FrontsGoOn}
use Rattle.slot_log.specs.declared.command.Command.{Command}
use Rattle.slot_log.specs.declared.slot_fault.SlotFault.{SlotFault}
use Rattle.matchstate.specs.View.{View, seat_view}
use Rattle.match_log.specs.Further.{further_lines, last_line, score_of}
use Rattle.match_log.specs.Laws.{CommandsAddToTheLog}
use Rattle.protocol_model.specs.Dealers.{Log as ToLog}
use Rattle.dealer_world.specs.Calls.{added_by}
use Rattle.protocol_model.specs.Votes.{command_run_at, taking_command_run}
use Rattle.proposer.specs.declared.accept_run.AcceptRun.{AcceptRun}
use Rattle.proposer.specs.declared.fault.ProposeFault.{ProposeFault}
use Rattle.proposer.specs.Campaigns.{next_ballot, leads}
use Rattle.proposer.specs.CommandRuns.{marked_run_from}
use Rattle.learner.specs.Learning.{Learned, is_open, is_other, completes, hearing, counting, knowing, answer_to_chosen, believing as with_chosen}
use Rattle.learner.specs.CommandRuns.{hearing_each, is_refused, hearing_run, answer_to_run}
use Rattle.seat_session.specs.Session.{Standing as Talk}
use Rattle.seat_session.specs.declared.said.Said.{Said}
use Rattle.seat_session.specs.declared.said.Said.TheVariants.{Ready, Act}
use Rattle.seat_session.specs.declared.session_fault.SessionFault.{SessionFault}
use Rattle.dealer_kind.specs.Kind.{Setting, hands_after, fits, log_of}
use Rattle.node_rules.specs.Standings.{Place, Standing, applied, front_of, hands_at, with_stored, idle}
use Rattle.node_rules.specs.Sending.{to_others, one}
use Rattle.node_rules.specs.Showing.{Piece, is_connected, line_piece, seat_line, seat_lines, log_piece, news}
use Rattle.node_rules.specs.Turns.{Turn, Refusal, still, sending, joined, behind, and_then}
use Rattle.node_rules.specs.Applying.{Scene, shown_of, taking as applies, taking_all, passed, scene_of, applying}
use Rattle.node_rules.specs.Learning.{learning, counting_votes, believing, asking_on, comes_to_window, asking_above}
use Rattle.node_rules.specs.Accepting.{promising, refusing, voting}
use Rattle.node_rules.specs.Proposing.{is_over, is_spent, beginning, ticking, greatest_seen, proposing, closing_by, closing, proposal_at}
use Rattle.node_rules.specs.Seats.{session_at, with_session, ordering_by, ordering, away_at, answering, answering_all, left, HearsPiece}
use Rattle.node_rules.specs.Calls.{Call, Start, Tick, Away, Line, Connect, Drop, Stop}
use Rattle.node_rules.specs.Calls as call
use Rattle.node_rules.specs.Rules.{seeing, taking, asking, on_read, IsTurnUp}
use Rattle.node_rules.proofs.Passing.{all_applied, passed_all}

-- ---- what pieces add to the log

abbrev pub logged : List Piece → List ℕ
logged [] = []
logged (piece ∷ more) = added_by piece.reader piece.text ++ logged more

logged_both : (xs ys : List Piece) → logged (xs ++ ys) ≡ logged xs ++ logged ys
logged_both [] ys = refl
logged_both (x ∷ xs) ys = ap (λ (l : List ℕ). added_by x.reader x.text ++ l) (logged_both xs ys) ∙ sym (append_assoc (added_by x.reader x.text) (logged xs) (logged ys))

no_line_by : (seat : ℕ) (view : Option View) → logged (option_to_list (option_map (line_piece seat) view)) ≡ []
no_line_by seat None = refl
no_line_by seat (Some view) = refl

no_line : (setting : Setting) (hands : List Hand) (seat : ℕ) → logged (seat_line setting hands seat) ≡ []
no_line setting hands seat = no_line_by seat (seat_view setting.game hands seat)

no_line_if : (setting : Setting) (hands : List Hand) (seat : ℕ) (b : Bool) → logged (if b then seat_line setting hands seat else []) ≡ []
no_line_if setting hands seat true = no_line setting hands seat
no_line_if setting hands seat false = refl

no_lines : (setting : Setting) (hands : List Hand) (seat : ℕ) (talks : List (Option Talk)) → logged (seat_lines setting hands seat talks) ≡ []
no_lines setting hands seat [] = refl
no_lines setting hands seat (talk ∷ talks) =
    logged_both (if is_connected talk then seat_line setting hands seat else []) (seat_lines setting hands (seat + 1) talks)
    ∙ (ap (λ (l : List ℕ). l ++ logged (seat_lines setting hands (seat + 1) talks)) (no_line_if setting hands seat (is_connected talk)) ∙ no_lines setting hands (seat + 1) talks)

running_adds : (setting : Setting) (hands : List Hand) → is_running setting.game hands ≡ true → further_lines setting.game setting.title.hands setting.names hands ≡ []
running_adds setting hands e = ap (λ (y : Bool). if y then [] else last_line setting.game setting.names hands (finished_count setting.game hands) ++ score_of setting.game setting.title.hands setting.names hands) e

piece_by : (setting : Setting) (hands : List Hand) (b : Bool) → is_running setting.game hands ≡ b
    → logged (if b then [] else (record { reader = ToLog; text = further_lines setting.game setting.title.hands setting.names hands }) ∷ []) ≡ further_lines setting.game setting.title.hands setting.names hands
piece_by setting hands true e = sym (running_adds setting hands e)
piece_by setting hands false e = append-nil (further_lines setting.game setting.title.hands setting.names hands)

news_add : (setting : Setting) (talks : List (Option Talk)) (hands : List Hand) → logged (news setting talks hands) ≡ further_lines setting.game setting.title.hands setting.names hands
news_add setting talks hands =
    logged_both (seat_lines setting hands 0 talks) (log_piece setting hands)
    ∙ (ap (λ (l : List ℕ). l ++ logged (log_piece setting hands)) (no_lines setting hands 0 talks) ∙ piece_by setting hands (is_running setting.game hands) refl)

-- what the layers below promise
pub record Given : Type 0 where
  pub goes_on : FrontsGoOn
  pub adds : CommandsAddToTheLog

module _ (g : Given) where
  adds_if : (setting : Setting) (before : List Command) (command : Command) (b : Bool) → fits setting before command ≡ b
      → log_of setting (command ∷ before)
      ≡ log_of setting before ++ (if b then further_lines setting.game setting.title.hands setting.names (hands_after setting (command ∷ before)) else [])
  adds_if setting before command true e =
      g.adds setting.game setting.title setting.names before command
      ∙ ap (λ (b : Bool). log_of setting before ++ (if b then further_lines setting.game setting.title.hands setting.names (hands_of setting.game setting.title.hands (command ∷ before)) else [])) e
  adds_if setting before command false e =
      g.adds setting.game setting.title setting.names before command
      ∙ ap (λ (b : Bool). log_of setting before ++ (if b then further_lines setting.game setting.title.hands setting.names (hands_of setting.game setting.title.hands (command ∷ before)) else [])) e

  shown_by : (setting : Setting) (talks : List (Option Talk)) (before : List Command) (command : Command) (b : Bool) → fits setting before command ≡ b
      → log_of setting before ++ logged (if b then news setting talks (hands_after setting (command ∷ before)) else []) ≡ log_of setting (command ∷ before)
  shown_by setting talks before command true e =
      ap (λ (l : List ℕ). log_of setting before ++ l) (news_add setting talks (hands_after setting (command ∷ before))) ∙ sym (adds_if setting before command true e)
  shown_by setting talks before command false e = sym (adds_if setting before command false e)

  -- a command that is applied shows to the log what the dealer's log has further
  all_shown : (setting : Setting) (talks : List (Option Talk)) (later : List Command) (base : List ℕ) (scene : Scene) → base ++ logged scene.shown ≡ log_of setting scene.applied
      → base ++ logged (taking_all setting talks later scene).shown ≡ log_of setting (taking_all setting talks later scene).applied
  unfolding taking_all
  all_shown setting talks [] base scene is = is
  all_shown setting talks (command ∷ later) base scene is =
      all_shown setting talks later base (applies setting talks command scene)
      (ap (λ (l : List ℕ). base ++ l) (logged_both scene.shown (shown_of setting talks scene.applied command))
      ∙ (sym (append_assoc base (logged scene.shown) (logged (shown_of setting talks scene.applied command)))
      ∙ (ap (λ (l : List ℕ). l ++ logged (shown_of setting talks scene.applied command)) is ∙ shown_by setting talks scene.applied command (fits setting scene.applied command) refl)))

  -- ---- turns

  -- the log goes on with what a turn shows to it, from what the dealer's log is after these commands to what it is after those that are applied then
  abbrev pub LogsOn : Setting → List Command → Turn → Type 0
  LogsOn setting before turn = log_of setting before ++ logged turn.shown ≡ log_of setting (applied turn.after)

  abbrev pub LogsBy : Setting → List Command → Result Turn Refusal → Type 0
  LogsBy setting before (Ok turn) = LogsOn setting before turn
  LogsBy setting before (Err refusal) = Unit {0}

  quiet : (setting : Setting) (s : Standing) → LogsOn setting (applied s) (still s)
  quiet setting s = append-nil (log_of setting (applied s))

  joins : (setting : Setting) (before : List Command) (first next : Turn) → LogsOn setting before first → LogsOn setting (applied first.after) next → LogsOn setting before (joined first next)
  joins setting before first next a b =
      ap (λ (l : List ℕ). log_of setting before ++ l) (logged_both first.shown next.shown)
      ∙ (sym (append_assoc (log_of setting before) (logged first.shown) (logged next.shown)) ∙ (ap (λ (l : List ℕ). l ++ logged next.shown) a ∙ b))

  then_by : (setting : Setting) (before : List Command) (first : Turn) (outcome : Result Turn Refusal) → LogsOn setting before first → LogsBy setting (applied first.after) outcome → LogsBy setting before (behind first outcome)
  then_by setting before first (Ok next) a b = joins setting before first next a b
  then_by setting before first (Err refusal) a b = tt

  then_logs : (setting : Setting) (before : List Command) (outcome : Result Turn Refusal) (next : Standing → Result Turn Refusal) → LogsBy setting before outcome
      → ((s : Standing) → LogsBy setting (applied s) (next s)) → LogsBy setting before (and_then outcome next)
  then_logs setting before (Ok first) next a b = then_by setting before first (next first.after) a (b first.after)
  then_logs setting before (Err refusal) next a b = tt

  if_logs : (setting : Setting) (before : List Command) (b : Bool) (x y : Result Turn Refusal) → LogsBy setting before x → LogsBy setting before y → LogsBy setting before (if b then x else y)
  if_logs setting before true x y p q = p
  if_logs setting before false x y p q = q

  if_turn : (setting : Setting) (before : List Command) (b : Bool) (x y : Turn) → LogsOn setting before x → LogsOn setting before y → LogsOn setting before (if b then x else y)
  if_turn setting before true x y p q = p
  if_turn setting before false x y p q = q

  -- ---- what becomes known

  abbrev GoesOn : Log → Log → Type 0
  GoesOn old new = (later : List Command) × (new.below ≡ later ++ old.below)

  with_known_by : (log : Log) (slot : ℕ) (command : Command) (b : Bool) → GoesOn log (if b then with_command log slot command else log)
  with_known_by log slot command true = g.goes_on log slot command
  with_known_by log slot command false = ([], refl)

  heard_by : (l : Learned) (from : ℕ) (ballot : Ballot) (slot : ℕ) (command : Command) (ahead done other : Bool)
      → (later : List Command) × ((if not ahead then l else if not done then counting l from ballot slot command else if other then l
      else knowing (counting l from ballot slot command) slot command).log.below ≡ later ++ l.log.below)
  heard_by l from ballot slot command false done other = ([], refl)
  heard_by l from ballot slot command true false other = ([], refl)
  heard_by l from ballot slot command true true true = ([], refl)
  heard_by l from ballot slot command true true false = with_known_by l.log slot command (is_none (known_at l.log slot))

  heard_on : (l : Learned) (from : ℕ) (ballot : Ballot) (slot : ℕ) (command : Command) → GoesOn l.log (hearing l from ballot slot command).log
  heard_on l from ballot slot command = heard_by l from ballot slot command (is_open l.log slot) (completes l from ballot slot command) (is_other (known_at l.log slot) command)

  heard_each_on : (l : Learned) (from : ℕ) (ballot : Ballot) (slot : ℕ) (commands : List Command) → GoesOn l.log (hearing_each l from ballot slot commands).log
  unfolding hearing_each
  heard_each_on l from ballot slot [] = ([], refl)
  heard_each_on l from ballot slot (command ∷ more) =
      let first = heard_on l from ballot slot command in
      let rest = heard_each_on (hearing l from ballot slot command) from ballot (slot + 1) more in (
        rest.0 ++ first.0,
        rest.1 ∙ (ap (λ (b : List Command). rest.0 ++ b) first.1 ∙ sym (append_assoc rest.0 first.0 l.log.below)),
      )

  heard_run_by : (l : Learned) (from : ℕ) (ballot : Ballot) (slot : ℕ) (commands : List Command) (b : Bool)
      → (later : List Command) × ((if b then l else hearing_each l from ballot slot commands).log.below ≡ later ++ l.log.below)
  heard_run_by l from ballot slot commands true = ([], refl)
  heard_run_by l from ballot slot commands false = heard_each_on l from ballot slot commands

  told_by : (l : Learned) (slot : ℕ) (command : Command) (ahead other : Bool)
      → (later : List Command) × ((if not ahead then l else if other then l else knowing l slot command).log.below ≡ later ++ l.log.below)
  told_by l slot command false other = ([], refl)
  told_by l slot command true true = ([], refl)
  told_by l slot command true false = with_known_by l.log slot command (is_none (known_at l.log slot))

  -- ---- rules

  applies_on : (place : Place) (learned : Learned) (s : Standing) → GoesOn s.learned.log learned.log → LogsOn place.setting (applied s) (applying place learned s)
  applies_on place learned s later =
      all_shown place.setting s.sessions (passed s.learned.log learned.log) (log_of place.setting (applied s)) (scene_of s) (append-nil (log_of place.setting (applied s)))
      ∙ ap (log_of place.setting) (all_applied place.setting s.sessions (passed s.learned.log learned.log) (scene_of s) ∙ passed_all s.learned.log learned.log later.0 later.1)

  learns : {A : Type 0} (place : Place) (answer : Result A SlotFault) (learned : Learned) (s : Standing) → GoesOn s.learned.log learned.log → LogsBy place.setting (applied s) (learning place answer learned s)
  learns place (Ok answer) learned s later = applies_on place learned s later
  learns place (Err fault) learned s later = tt

  counts : (place : Place) (from : ℕ) (ballot : Ballot) (slot : ℕ) (commands : List Command) (s : Standing) → LogsBy place.setting (applied s) (counting_votes place from ballot slot commands s)
  counts place from ballot slot commands s =
      learns place (answer_to_run s.learned from ballot slot commands) (hearing_run s.learned from ballot slot commands) s
      (heard_run_by s.learned from ballot slot commands (is_refused s.learned from ballot slot commands))

  asks_on : (setting : Setting) (from old : ℕ) (s : Standing) → LogsOn setting (applied s) (asking_on from old s)
  asks_on setting from old s = if_turn setting (applied s) (comes_to_window old (front_of s)) (sending (one from (frame.Ask (front_of s))) s) (still s) (quiet setting s) (quiet setting s)

  asks_above : (setting : Setting) (from slot : ℕ) (s : Standing) → LogsOn setting (applied s) (asking_above from slot s)
  asks_above setting from slot s = if_turn setting (applied s) (nat_lt (front_of s) slot) (sending (one from (frame.Ask (front_of s))) s) (still s) (quiet setting s) (quiet setting s)

  believes : (place : Place) (from slot : ℕ) (command : Command) (s : Standing) → LogsBy place.setting (applied s) (believing place from slot command s)
  believes place from slot command s =
      then_logs place.setting (applied s) (learning place (answer_to_chosen s.learned.log slot command) (with_chosen s.learned slot command) s) (λ told. Ok (asking_on from (front_of s) told))
      (learns place (answer_to_chosen s.learned.log slot command) (with_chosen s.learned slot command) s (told_by s.learned slot command (is_open s.learned.log slot) (is_other (known_at s.learned.log slot) command)))
      (λ told. asks_on place.setting from (front_of s) told)

  votes : (place : Place) (ballot : Ballot) (slot : ℕ) (commands : List Command) (s : Standing) → LogsBy place.setting (applied s) (voting place ballot slot commands s)
  votes place ballot slot commands s =
      then_logs place.setting (applied s)
      (Ok (sending (to_others place (frame.Accepted ballot slot (command_run_at s.store ballot slot commands))) (with_stored s (taking_command_run s.store ballot slot commands))))
      (counting_votes place place.node ballot slot (command_run_at s.store ballot slot commands))
      (append-nil (log_of place.setting (applied s)))
      (λ t. counts place place.node ballot slot (command_run_at s.store ballot slot commands) t)

  proposes : (place : Place) (made : AcceptRun) (s : Standing) → LogsBy place.setting (applied s) (proposing place made s)
  proposes place made s =
      then_logs place.setting (applied s) (Ok (sending (to_others place (frame.Accept made.ballot made.slot made.commands)) s)) (voting place made.ballot made.slot made.commands)
      (append-nil (log_of place.setting (applied s))) (λ t. votes place made.ballot made.slot made.commands t)

  closes_by : (place : Place) (outcome : Result (Option AcceptRun) ProposeFault) (s : Standing) → LogsBy place.setting (applied s) (closing_by place outcome s)
  closes_by place (Ok (Some made)) s = proposes place made s
  closes_by place (Ok None) s = quiet place.setting s
  closes_by place (Err fault) s = append-nil (log_of place.setting (applied s))

  closes : (place : Place) (s : Standing) → LogsBy place.setting (applied s) (closing place s)
  closes place s =
      if_logs place.setting (applied s) (leads place.nodes s.campaign && nat_le SLOTS (front_of s)) (Ok (still (idle s)))
      (closing_by place (proposal_at place s) (record s { campaign = marked_run_from s.campaign (proposal_at place s) }))
      (append-nil (log_of place.setting (applied s))) (closes_by place (proposal_at place s) (record s { campaign = marked_run_from s.campaign (proposal_at place s) }))

  takes : (place : Place) (from : ℕ) (message : Wire) (s : Standing) → LogsBy place.setting (applied s) (taking place from message s)
  takes place from (frame.Prepare ballot slot) s =
      if_turn place.setting (applied s) (is_below s.store.promise ballot) (promising from ballot slot s) (refusing from ballot slot s) (append-nil (log_of place.setting (applied s)))
      (append-nil (log_of place.setting (applied s)))
  takes place from (frame.Promise ballot slot entries) s = append-nil (log_of place.setting (applied s))
  takes place from (frame.Refuse ballot slot promised) s = append-nil (log_of place.setting (applied s))
  takes place from (frame.Accept ballot slot commands) s =
      if_logs place.setting (applied s) (is_below ballot s.store.promise) (Ok (refusing from ballot slot s)) (voting place ballot slot commands (idle s)) (append-nil (log_of place.setting (applied s)))
      (votes place ballot slot commands (idle s))
  takes place from (frame.Accepted ballot slot commands) s = counts place from ballot slot commands s
  takes place from (frame.Chosen slot command) s = believes place from slot command s
  takes place from (frame.Ask slot) s = append-nil (log_of place.setting (applied s))
  takes place from (frame.Forward command) s = append-nil (log_of place.setting (applied s))

  asks : (setting : Setting) (from : ℕ) (message : Wire) (s : Standing) → LogsOn setting (applied s) (asking from message s)
  asks setting from (frame.Prepare ballot slot) s = asks_above setting from slot s
  asks setting from (frame.Promise ballot slot entries) s = quiet setting s
  asks setting from (frame.Refuse ballot slot promised) s = quiet setting s
  asks setting from (frame.Accept ballot slot commands) s = asks_above setting from slot s
  asks setting from (frame.Accepted ballot slot commands) s = asks_above setting from slot s
  asks setting from (frame.Chosen slot command) s = quiet setting s
  asks setting from (frame.Ask slot) s = quiet setting s
  asks setting from (frame.Forward command) s = quiet setting s

  on_read_logs : (place : Place) (from : ℕ) (read : Result Wire FrameFault) (s : Standing) → LogsBy place.setting (applied s) (on_read place from read s)
  on_read_logs place from (Ok message) s =
      then_logs place.setting (applied s) (and_then (taking place from message (seeing message s)) (closing place)) (λ closed. Ok (asking from message closed))
      (then_logs place.setting (applied s) (taking place from message (seeing message s)) (closing place) (takes place from message (seeing message s)) (λ t. closes place t))
      (λ t. asks place.setting from message t)
  on_read_logs place from (Err fault) s = tt

  ticks : (place : Place) (s : Standing) → LogsBy place.setting (applied s) (ticking place s)
  ticks place s =
      if_logs place.setting (applied s) (is_over place s) _ _ (quiet place.setting s)
      (if_logs place.setting (applied s) (is_spent s) _ (Ok (beginning place (next_ballot place.node (greatest_seen s)) s)) tt (append-nil (log_of place.setting (applied s))))

  orders : (place : Place) (act : Option Command) (s : Standing) → LogsBy place.setting (applied s) (ordering_by place act s)
  orders place None s = tt
  orders place (Some act) s = append-nil (log_of place.setting (applied s))

  answers : (place : Place) (seat : ℕ) (said : Result Said SessionFault) (s : Standing) → LogsOn place.setting (applied s) (answering place seat said s)
  answers place seat (Ok Ready) s =
      ap (λ (l : List ℕ). log_of place.setting (applied s) ++ l) (no_line place.setting (hands_at place s) seat) ∙ append-nil (log_of place.setting (applied s))
  answers place seat (Ok (Act act)) s = append-nil (log_of place.setting (applied s))
  answers place seat (Err fault) s = append-nil (log_of place.setting (applied s))

  answers_all : (place : Place) (seat : ℕ) (said : List (Result Said SessionFault)) (before : List Command) (turn : Turn) → LogsOn place.setting before turn
      → LogsOn place.setting before (answering_all place seat said turn)
  unfolding answering_all
  answers_all place seat [] before turn is = is
  answers_all place seat (said ∷ more) before turn is =
      answers_all place seat more before (joined turn (answering place seat said turn.after)) (joins place.setting before turn (answering place seat said turn.after) is (answers place seat said turn.after))

  hears : (place : Place) (seat : ℕ) (bytes : List ℕ) (session : Option Talk) (s : Standing) (turn : Turn) → HearsPiece place seat bytes session s turn → LogsOn place.setting (applied s) turn
  hears place seat bytes None s turn is = subst (λ (t : Turn). LogsOn place.setting (applied s) t) (sym is) (quiet place.setting s)
  hears place seat bytes (Some old) s turn (said, talk, drains, is) =
      subst (λ (t : Turn). LogsOn place.setting (applied s) t) (sym is)
      (answers_all place seat said (applied s) (still (with_session s seat (left talk))) (append-nil (log_of place.setting (applied s))))

  -- ---- calls

  abbrev pub IsNoStop : Call → Type 0
  IsNoStop Stop = ⊥
  IsNoStop (Start found) = Unit {0}
  IsNoStop Tick = Unit {0}
  IsNoStop Away = Unit {0}
  IsNoStop (call.Frame from bytes) = Unit {0}
  IsNoStop (Line seat bytes) = Unit {0}
  IsNoStop (Connect seat) = Unit {0}
  IsNoStop (Drop seat) = Unit {0}

  -- each turn of a node that runs, unless it stops
  pub turns_log : (place : Place) (s : Standing) (called : Call) (outcome : Result Turn Refusal) → IsNoStop called → IsTurnUp place s called outcome → LogsBy place.setting (applied s) outcome
  turns_log place s (Start found) outcome goes is = subst (LogsBy place.setting (applied s)) (sym is) (quiet place.setting s)
  turns_log place s Tick outcome goes is =
      subst (LogsBy place.setting (applied s)) (sym is) (then_logs place.setting (applied s) (ticking place s) (closing place) (ticks place s) (λ t. closes place t))
  turns_log place s Away outcome goes is =
      subst (LogsBy place.setting (applied s)) (sym is) (then_logs place.setting (applied s) (ordering place s) (closing place) (orders place (away_at place s) s) (λ t. closes place t))
  turns_log place s (call.Frame from bytes) outcome goes is = subst (LogsBy place.setting (applied s)) (sym is) (on_read_logs place from (reading bytes) s)
  turns_log place s (Line seat bytes) outcome goes (heard, hears_it, is) =
      subst (LogsBy place.setting (applied s)) (sym is)
      (then_logs place.setting (applied s) (Ok heard) (closing place) (hears place seat bytes (session_at s.sessions seat) s heard hears_it) (λ t. closes place t))
  turns_log place s (Connect seat) outcome goes is = subst (LogsBy place.setting (applied s)) (sym is) (append-nil (log_of place.setting (applied s)))
  turns_log place s (Drop seat) outcome goes is = subst (LogsBy place.setting (applied s)) (sym is) (append-nil (log_of place.setting (applied s)))
  turns_log place s Stop outcome goes is = absurd goes
