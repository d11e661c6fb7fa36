-- What becomes applied in a call, what that shows, and what it leaves waiting.
use Rattle.std.proofs.Common.{◌≡◌, ℕ, suc, ◌<◌, ◌+◌, inl, inr, Bool, true, false, not, if◌then◌else◌, List, [], ◌∷◌, ◌++◌, Option, Some, None, Result, Ok, Err, refl, sym, ap, subst, ◌∙◌, arith, length, drop, reverse, append_assoc}
use Rattle.std.specs.Prelude.{is_none}
use Rattle.std.specs.Option.{option_map, option_to_list}
use Rattle.std.proofs.lemmas.List.{append-nil, reverse-append, reverse-reverse, length-reverse, drop_at}
use Rattle.paxos_wire.specs.declared.ballot.Ballot.{Ballot}
use Rattle.paxos_wire.specs.declared.message.Message.{Message as Wire}
use Rattle.paxos_wire.specs.declared.message.Message.TheVariants as frame
use Rattle.slot_log.specs.Dealer.{is_running}
use Rattle.slot_log.specs.Hand.{Hand}
use Rattle.slot_log.specs.Slots.{Log, front, known_at, with_command}
use Rattle.slot_log.specs.declared.command.Command.{Command}
use Rattle.slot_log.specs.declared.slot_fault.SlotFault.{SlotFault}
use Rattle.matchstate.specs.View.{View, seat_view}
use Rattle.matchstate.specs.Line.{line_text}
use Rattle.match_log.specs.Further.{further_lines}
use Rattle.protocol_model.specs.Dealers.{Dealer, Log as ToLog}
use Rattle.paxos_wire.specs.Order.{is_below}
use Rattle.learner.specs.Learning.{Learned, is_open, is_other, completes, hearing, counting, knowing, answer_to_chosen, believing as with_chosen}
use Rattle.learner.specs.CommandRuns.{hearing_each, is_refused, hearing_run, answer_to_run}
use Rattle.seat_session.specs.Session.{Standing as Talk}
use Rattle.dealer_kind.specs.Kind.{Setting, hands_after, fits, line_of, log_of, dealer_of}
use Rattle.node_rules.specs.Standings.{Place, Standing, applied, front_of, with_stored, idle}
use Rattle.node_rules.specs.Sending.{Frame, to_others}
use Rattle.node_rules.specs.Showing.{Piece, is_connected, line_piece, seat_line, seat_lines, log_piece, news}
use Rattle.node_rules.specs.Turns.{Turn, Conflict, still, sending, joined, behind, and_then}
use Rattle.node_rules.specs.Applying.{Scene, kept, shown_of, taking as applies, taking_all, passed, scene_of, applying}
use Rattle.node_rules.specs.Learning.{learning, asking_on, telling, comes_to_window}
use Rattle.protocol_model.specs.Votes.{command_run_at, taking_command_run}
use Rattle.node_rules.specs.Accepting.{preparing, promising, refusing, voting}
use Rattle.node_rules.specs.Seats.{session_at, waiting}
use Rattle.node_rules.specs.Rules.{seeing, taking}
use Rattle.node_rules.specs.Given.{Given}
use Rattle.node_rules.specs.LawsShown.{line_to, lines_from, IsAdded, IsShownOf, AreShownOf}
use Rattle.node_rules.specs.LawsPending.{kept_over}
use Rattle.node_rules.proofs.Finished.{adds_some}
use Rattle.node_rules.proofs.Showing.{line_is, running_adds, adds_if}
use Rattle.node_rules.proofs.Results.{ok_is, ok_not}
use Rattle.node_rules.proofs.Settled.{applying_same}

-- ---- what a command shows

line_same : (seat : ℕ) (view : Option View) → option_to_list (option_map (line_piece seat) view) ≡ line_to seat (option_map line_text view)
line_same seat None = refl
line_same seat (Some view) = refl

-- a seat of the table gets the dealer's line
pub seat_line_is : (setting : Setting) (commands : List Command) (seat : ℕ) → seat < setting.game.players
    → seat_line setting (hands_after setting commands) seat ≡ line_to seat (line_of setting commands seat)
seat_line_is setting commands seat low =
    line_same seat (seat_view setting.game (hands_after setting commands) seat) ∙ ap (line_to seat) (sym (line_is setting commands seat low))

lines_are : (setting : Setting) (own : ℕ → Command → Bool) (commands : List Command) (connected : ℕ → Bool) (seat : ℕ) (talks : List (Option Talk))
    → seat + length talks ≡ setting.game.players → ((k : ℕ) → connected (seat + k) ≡ is_connected (session_at talks k))
    → seat_lines setting (hands_after setting commands) seat talks ≡ lines_from (dealer_of setting own) connected commands seat (length talks)
lines_are setting own commands connected seat [] size same = refl
lines_are setting own commands connected seat (talk ∷ talks) size same =
    let here : is_connected talk ≡ connected seat = sym (same 0) ∙ ap connected (let e : seat + 0 ≡ seat = omega arith in e) in
    ap (λ b. (if b then seat_line setting (hands_after setting commands) seat else []) ++ seat_lines setting (hands_after setting commands) (seat + 1) talks) here
    ∙ (ap (λ (l : List Piece). (if connected seat then l else []) ++ seat_lines setting (hands_after setting commands) (seat + 1) talks) (seat_line_is setting commands seat (omega (arith, size)))
    ∙ ap (λ (l : List Piece). (if connected seat then line_to seat (line_of setting commands seat) else []) ++ l)
    (lines_are setting own commands connected (seat + 1) talks (omega (arith, size)) (λ k. ap connected (let e : seat + 1 + k ≡ seat + suc k = omega arith in e) ∙ same (suc k))))

added_by : (g : Given) (setting : Setting) (own : ℕ → Command → Bool) (before : List Command) (command : Command) (b : Bool) → is_running setting.game (hands_after setting (command ∷ before)) ≡ b
    → fits setting before command ≡ true
    → IsAdded (dealer_of setting own) before command
    (if b then [] else (record { reader = ToLog; text = further_lines setting.game setting.title.hands setting.names (hands_after setting (command ∷ before)) }) ∷ [])
added_by g setting own before command true e fit =
    inl (
      refl,
      adds_if g setting before command true fit ∙ (ap (λ (l : List ℕ). log_of setting before ++ l) (running_adds setting (hands_after setting (command ∷ before)) true e refl)
          ∙ append-nil (log_of setting before)),
    )
added_by g setting own before command false e fit =
    inr (further_lines setting.game setting.title.hands setting.names (hands_after setting (command ∷ before)), (λ h. adds_some setting before command fit e h), refl, adds_if g setting before command true fit)

-- what the rule shows of a command
shown_by : (g : Given) (setting : Setting) (own : ℕ → Command → Bool) (sessions : List (Option Talk)) (before : List Command) (command : Command) (b : Bool) → length sessions ≡ setting.game.players
    → fits setting before command ≡ b
    → IsShownOf (dealer_of setting own) (λ seat. is_connected (session_at sessions seat)) setting.game.players before command
    (if b then news setting sessions (hands_after setting (command ∷ before)) else [])
shown_by g setting own sessions before command false size e = inl (e, refl)
shown_by g setting own sessions before command true size e =
    let hands : List Hand = hands_after setting (command ∷ before) in
    inr (
      log_piece setting hands,
      e,
      added_by g setting own before command (is_running setting.game hands) refl e,
      ap (λ (l : List Piece). l ++ log_piece setting hands)
          (lines_are setting own (command ∷ before) (λ seat. is_connected (session_at sessions seat)) 0 sessions (let l = size in omega (arith, l)) (λ k. ap (λ j. is_connected (session_at sessions j)) (let z : 0 + k ≡ k = omega arith in z))
          ∙ ap (λ k. lines_from (dealer_of setting own) (λ seat. is_connected (session_at sessions seat)) (command ∷ before) 0 k) size),
    )

-- ---- commands one after another

pub record Takes (dealer : Dealer) (connected : ℕ → Bool) (players : ℕ) (before later : List Command) (shown : List Piece) (whole : List Piece) : Type 0 where
  pub pieces : List Piece
  pub all : whole ≡ shown ++ pieces
  pub are : AreShownOf dealer connected players before later pieces

pub takes_all : (g : Given) (setting : Setting) (own : ℕ → Command → Bool) (sessions : List (Option Talk)) (later : List Command) (scene : Scene) → length sessions ≡ setting.game.players
    → Takes (dealer_of setting own) (λ seat. is_connected (session_at sessions seat)) setting.game.players scene.applied later scene.shown (taking_all setting sessions later scene).shown
unfolding taking_all
takes_all g setting own sessions [] scene size = record { pieces = []; all = sym (append-nil scene.shown); are = refl }
takes_all g setting own sessions (command ∷ later) scene size =
    let rest = takes_all g setting own sessions later (applies setting sessions command scene) size in
    let first : List Piece = shown_of setting sessions scene.applied command in
    record {
      pieces = first ++ rest.pieces;
      all = rest.all ∙ append_assoc scene.shown first rest.pieces;
      are = (first, rest.pieces, shown_by g setting own sessions scene.applied command (fits setting scene.applied command) size refl, refl, rest.are);
    }

kept_is : (setting : Setting) (own : ℕ → Command → Bool) (before later : List Command) (command : Command) (pending : Option Command)
    → kept_over (dealer_of setting own) (command ∷ before) later (kept setting (command ∷ before) pending) ≡ kept_over (dealer_of setting own) before (command ∷ later) pending
kept_is setting own before [] command None = refl
kept_is setting own before (c ∷ later) command None = refl
kept_is setting own before later command (Some act) = refl

pub keeps_all : (setting : Setting) (own : ℕ → Command → Bool) (sessions : List (Option Talk)) (later : List Command) (scene : Scene)
    → (taking_all setting sessions later scene).pending ≡ kept_over (dealer_of setting own) scene.applied later scene.pending
unfolding taking_all
keeps_all setting own sessions [] scene = nothing scene.pending
  where
    nothing : (p : Option Command) → p ≡ kept_over (dealer_of setting own) scene.applied [] p
    nothing None = refl
    nothing (Some act) = refl
keeps_all setting own sessions (command ∷ later) scene =
    keeps_all setting own sessions later (applies setting sessions command scene) ∙ kept_is setting own scene.applied later command scene.pending

-- ---- what the front passes

-- commands that are known below the front stay so, and these follow
passed_is : (old new : Log) (later : List Command) → new.below ≡ later ++ old.below → passed old new ≡ reverse later
passed_is old new later e =
    ap (drop (front old)) (ap reverse e ∙ reverse-append later old.below) ∙ drop_at (reverse old.below) (reverse later) (front old) (length-reverse old.below)

with_known_by : (g : Given) (log : Log) (slot : ℕ) (command : Command) (b : Bool) → (later : List Command) × ((if b then with_command log slot command else log).below ≡ later ++ log.below)
with_known_by g log slot command true = g.goes_on log slot command
with_known_by g log slot command false = ([], refl)

heard_by : (g : Given) (l : Learned) (from : ℕ) (ballot : Ballot) (slot : ℕ) (command : Command) (ahead done other : Bool)
    → (later : List Command) × ((if not ahead then l else if not done then counting l from ballot slot command else if other then l
    else knowing (counting l from ballot slot command) slot command).log.below ≡ later ++ l.log.below)
heard_by g l from ballot slot command false done other = ([], refl)
heard_by g l from ballot slot command true false other = ([], refl)
heard_by g l from ballot slot command true true true = ([], refl)
heard_by g l from ballot slot command true true false = with_known_by g l.log slot command (is_none (known_at l.log slot))

heard_on : (g : Given) (l : Learned) (from : ℕ) (ballot : Ballot) (slot : ℕ) (command : Command) → (later : List Command) × ((hearing l from ballot slot command).log.below ≡ later ++ l.log.below)
heard_on g l from ballot slot command = heard_by g l from ballot slot command (is_open l.log slot) (completes l from ballot slot command) (is_other (known_at l.log slot) command)

heard_each_on : (g : Given) (l : Learned) (from : ℕ) (ballot : Ballot) (slot : ℕ) (commands : List Command)
    → (later : List Command) × ((hearing_each l from ballot slot commands).log.below ≡ later ++ l.log.below)
unfolding hearing_each
heard_each_on g l from ballot slot [] = ([], refl)
heard_each_on g l from ballot slot (command ∷ more) =
    let first = heard_on g l from ballot slot command in
    let rest = heard_each_on g (hearing l from ballot slot command) from ballot (slot + 1) more in (
      rest.0 ++ first.0,
      rest.1 ∙ (ap (λ (b : List Command). rest.0 ++ b) first.1 ∙ sym (append_assoc rest.0 first.0 l.log.below)),
    )

-- commands for slots that follow one another
heard_run_on : (g : Given) (l : Learned) (from : ℕ) (ballot : Ballot) (slot : ℕ) (commands : List Command)
    → (later : List Command) × ((hearing_run l from ballot slot commands).log.below ≡ later ++ l.log.below)
heard_run_on g l from ballot slot commands = by_refusal (is_refused l from ballot slot commands)
  where
    by_refusal : (b : Bool) → (later : List Command) × ((if b then l else hearing_each l from ballot slot commands).log.below ≡ later ++ l.log.below)
    by_refusal true = ([], refl)
    by_refusal false = heard_each_on g l from ballot slot commands

told_by : (g : Given) (l : Learned) (slot : ℕ) (command : Command) (ahead other : Bool)
    → (later : List Command) × ((if not ahead then l else if other then l else knowing l slot command).log.below ≡ later ++ l.log.below)
told_by g l slot command false other = ([], refl)
told_by g l slot command true true = ([], refl)
told_by g l slot command true false = with_known_by g l.log slot command (is_none (known_at l.log slot))

told_on : (g : Given) (l : Learned) (slot : ℕ) (command : Command) → (later : List Command) × ((with_chosen l slot command).log.below ≡ later ++ l.log.below)
told_on g l slot command = told_by g l slot command (is_open l.log slot) (is_other (known_at l.log slot) command)

-- ---- the rule of a message

-- the scene of what the front has passed, once this is known
abbrev pub scene_over : Place → Standing → Learned → Scene
scene_over place s learned = taking_all place.setting s.sessions (passed s.learned.log learned.log) (scene_of s)

-- the act that waits then; an act that is handed on is all that comes with it
abbrev pub waits_then : Place → Standing → Learned → Wire → Option Command
waits_then place s learned (frame.Prepare ballot slot) = (scene_over place s learned).pending
waits_then place s learned (frame.Promise ballot slot told) = (scene_over place s learned).pending
waits_then place s learned (frame.Refuse ballot slot promised) = (scene_over place s learned).pending
waits_then place s learned (frame.Accept ballot slot commands) = (scene_over place s learned).pending
waits_then place s learned (frame.Accepted ballot slot commands) = (scene_over place s learned).pending
waits_then place s learned (frame.Chosen slot command) = (scene_over place s learned).pending
waits_then place s learned (frame.Ask slot) = (scene_over place s learned).pending
waits_then place s learned (frame.Forward act) = waiting place act s

-- what it applies
pub record Applies (place : Place) (s : Standing) (message : Wire) (first : Turn) : Type 0 where
  pub learned : Learned
  pub later : List Command
  pub goes_on : learned.log.below ≡ later ++ applied s
  pub same : first.after.learned ≡ learned
  pub shown : first.shown ≡ (scene_over place s learned).shown
  pub pending : first.after.pending ≡ waits_then place s learned message

-- where nothing is learned nothing is applied
still_over : (place : Place) (s : Standing) → (scene_over place s s.learned).shown ≡ []
still_over place s = ap (λ (t : Turn). t.shown) (applying_same place s.learned s refl)

still_waits : (place : Place) (s : Standing) → (scene_over place s s.learned).pending ≡ s.pending
still_waits place s = ap (λ (t : Turn). t.after.pending) (applying_same place s.learned s refl)

-- a turn that learns nothing
unchanged : (place : Place) (s : Standing) (message : Wire) (first : Turn) → waits_then place s s.learned message ≡ (scene_over place s s.learned).pending
    → first.after.learned ≡ s.learned → first.shown ≡ [] → first.after.pending ≡ s.pending → Applies place s message first
unchanged place s message first other learned shown pending = record {
  learned = s.learned;
  later = [];
  goes_on = refl;
  same = learned;
  shown = shown ∙ sym (still_over place s);
  pending = pending ∙ (sym (still_waits place s) ∙ sym other);
}

-- a turn that learns: what is shown, known and left waiting
pub record Learns (place : Place) (s : Standing) (learned : Learned) (first : Turn) : Type 0 where
  pub same : first.after.learned ≡ learned
  pub shown : first.shown ≡ (scene_over place s learned).shown
  pub pending : first.after.pending ≡ (scene_over place s learned).pending

learns : {A : Type 0} (place : Place) (answer : Result A SlotFault) (learned : Learned) (s : Standing) (first : Turn) → learning place answer learned s ≡ Ok first → Learns place s learned first
learns place (Ok answer) learned s first e = subst (Learns place s learned) (ok_is (applying place learned s) first e) (record { same = refl; shown = refl; pending = refl })
learns place (Err fault) learned s first e = absurd (ok_not first (Conflict s.store) (sym e))

learns_behind : {A : Type 0} (place : Place) (answer : Result A SlotFault) (learned : Learned) (s : Standing) (sent : List Frame) (first : Turn)
    → behind (sending sent s) (learning place answer learned s) ≡ Ok first → Learns place s learned first
learns_behind place (Ok answer) learned s sent first e =
    subst (Learns place s learned) (ok_is (joined (sending sent s) (applying place learned s)) first e) (record { same = refl; shown = refl; pending = refl })
learns_behind place (Err fault) learned s sent first e = absurd (ok_not first (Conflict s.store) (sym e))

asks_after : (place : Place) (s : Standing) (learned : Learned) (from slot : ℕ) (u : Turn) (b : Bool) → Learns place s learned u
    → Learns place s learned (joined u (if b then sending ((record { to = from; message = frame.Ask slot }) ∷ []) u.after else still u.after))
asks_after place s learned from slot u true l = record { same = l.same; shown = append-nil u.shown ∙ l.shown; pending = l.pending }
asks_after place s learned from slot u false l = record { same = l.same; shown = append-nil u.shown ∙ l.shown; pending = l.pending }

learns_asking : {A : Type 0} (place : Place) (answer : Result A SlotFault) (learned : Learned) (s : Standing) (from : ℕ) (first : Turn)
    → and_then (learning place answer learned s) (λ told. Ok (asking_on from (front_of s) told)) ≡ Ok first → Learns place s learned first
learns_asking place (Ok answer) learned s from first e =
    let u : Turn = applying place learned s in
    subst (Learns place s learned) (ok_is (joined u (asking_on from (front_of s) u.after)) first e)
    (asks_after place s learned from (front_of u.after) u (comes_to_window (front_of s) (front_of u.after)) (record { same = refl; shown = refl; pending = refl }))
learns_asking place (Err fault) learned s from first e = absurd (ok_not first (Conflict s.store) (sym e))

prepare_by : (place : Place) (from : ℕ) (ballot : Ballot) (slot : ℕ) (s : Standing) (b : Bool)
    → ((if b then promising from ballot slot s else refusing from ballot slot s).after.learned ≡ s.learned)
    × ((if b then promising from ballot slot s else refusing from ballot slot s).shown ≡ [])
    × ((if b then promising from ballot slot s else refusing from ballot slot s).after.pending ≡ s.pending)
prepare_by place from ballot slot s true = (refl, refl, refl)
prepare_by place from ballot slot s false = (refl, refl, refl)

accept_by : (g : Given) (place : Place) (from : ℕ) (ballot : Ballot) (slot : ℕ) (commands : List Command) (s : Standing) (first : Turn) (b : Bool)
    → (if b then Ok (refusing from ballot slot s) else voting place ballot slot commands (idle s)) ≡ Ok first → Applies place s (frame.Accept ballot slot commands) first
accept_by g place from ballot slot commands s first true h =
    let e : first ≡ refusing from ballot slot s = sym (ok_is (refusing from ballot slot s) first h) in
    unchanged place s (frame.Accept ballot slot commands) first refl (ap (λ (t : Turn). t.after.learned) e) (ap (λ (t : Turn). t.shown) e) (ap (λ (t : Turn). t.after.pending) e)
accept_by g place from ballot slot commands s first false h =
    let told : List Command = command_run_at s.store ballot slot commands in
    let kept : Standing = with_stored (idle s) (taking_command_run s.store ballot slot commands) in
    let l : Learns place kept (hearing_run s.learned place.node ballot slot told) first =
    learns_behind place (answer_to_run s.learned place.node ballot slot told) (hearing_run s.learned place.node ballot slot told) kept (to_others place (frame.Accepted ballot slot told)) first h in
    let on = heard_run_on g s.learned place.node ballot slot told in
    record { learned = hearing_run s.learned place.node ballot slot told; later = on.0; goes_on = on.1; same = l.same; shown = l.shown; pending = l.pending }

pub message_applies : (g : Given) (place : Place) (s : Standing) (from : ℕ) (message : Wire) (first : Turn) → taking place from message (seeing message s) ≡ Ok first → Applies place s message first
message_applies g place s from (frame.Prepare ballot slot) first is =
    let s0 : Standing = seeing (frame.Prepare ballot slot) s in
    let e : first ≡ preparing from ballot slot s0 = sym (ok_is (preparing from ballot slot s0) first is) in
    let p = prepare_by place from ballot slot s0 (is_below s0.store.promise ballot) in
    unchanged place s (frame.Prepare ballot slot) first refl (ap (λ (t : Turn). t.after.learned) e ∙ p.0) (ap (λ (t : Turn). t.shown) e ∙ p.1) (ap (λ (t : Turn). t.after.pending) e ∙ p.2)
message_applies g place s from (frame.Promise ballot slot told) first is =
    let e = sym (ok_is _ first is) in
    unchanged place s (frame.Promise ballot slot told) first refl (ap (λ (t : Turn). t.after.learned) e) (ap (λ (t : Turn). t.shown) e) (ap (λ (t : Turn). t.after.pending) e)
message_applies g place s from (frame.Refuse ballot slot promised) first is =
    let e = sym (ok_is _ first is) in
    unchanged place s (frame.Refuse ballot slot promised) first refl (ap (λ (t : Turn). t.after.learned) e) (ap (λ (t : Turn). t.shown) e) (ap (λ (t : Turn). t.after.pending) e)
message_applies g place s from (frame.Accept ballot slot commands) first is =
    let s0 : Standing = seeing (frame.Accept ballot slot commands) s in
    let a = accept_by g place from ballot slot commands s0 first (is_below ballot s0.store.promise) is in
    record { learned = a.learned; later = a.later; goes_on = a.goes_on; same = a.same; shown = a.shown; pending = a.pending }
message_applies g place s from (frame.Accepted ballot slot commands) first is =
    let s0 : Standing = seeing (frame.Accepted ballot slot commands) s in
    let l = learns place (answer_to_run s.learned from ballot slot commands) (hearing_run s.learned from ballot slot commands) s0 first is in
    let on = heard_run_on g s.learned from ballot slot commands in
    record { learned = hearing_run s.learned from ballot slot commands; later = on.0; goes_on = on.1; same = l.same; shown = l.shown; pending = l.pending }
message_applies g place s from (frame.Chosen slot command) first is =
    let s0 : Standing = seeing (frame.Chosen slot command) s in
    let l = learns_asking place (answer_to_chosen s.learned.log slot command) (with_chosen s.learned slot command) s0 from first is in
    let on = told_on g s.learned slot command in
    record { learned = with_chosen s.learned slot command; later = on.0; goes_on = on.1; same = l.same; shown = l.shown; pending = l.pending }
message_applies g place s from (frame.Ask slot) first is =
    let e = sym (ok_is (telling from slot (seeing (frame.Ask slot) s)) first is) in
    unchanged place s (frame.Ask slot) first refl (ap (λ (t : Turn). t.after.learned) e) (ap (λ (t : Turn). t.shown) e) (ap (λ (t : Turn). t.after.pending) e)
message_applies g place s from (frame.Forward act) first is =
    let e = sym (ok_is _ first is) in
    record {
      learned = s.learned;
      later = [];
      goes_on = refl;
      same = ap (λ (t : Turn). t.after.learned) e;
      shown = ap (λ (t : Turn). t.shown) e ∙ sym (still_over place s);
      pending = ap (λ (t : Turn). t.after.pending) e;
    }

-- what the front passed, oldest first, and that all below it stand behind one another
pub passed_now : (place : Place) (s : Standing) (message : Wire) (first : Turn) (a : Applies place s message first)
    → (passed s.learned.log a.learned.log ≡ reverse a.later) × (applied first.after ≡ reverse (reverse a.later) ++ applied s)
passed_now place s message first a = (
  passed_is s.learned.log a.learned.log a.later a.goes_on,
  ap (λ (l : Learned). l.log.below) a.same ∙ (a.goes_on ∙ ap (λ (l : List Command). l ++ applied s) (sym (reverse-reverse a.later))),
)
