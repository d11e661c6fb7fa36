-- A session that is asked again and again comes to an end.
use Rattle.std.proofs.Common.{◌≡◌, ℕ, ◌+◌, ◌<◌, ◌≤◌, inl, inr, Bool, true, false, cond, List, [], ◌∷◌, ◌++◌, Option, Some, None, Result, Ok, Err, refl, ap, sym, ◌∙◌, subst, arith}
use Rattle.std.specs.Prelude.{◌==◌}
use Rattle.std.specs.List.{count_by}
use Rattle.std.proofs.lemmas.List.Sums.{sum_by-append, sum_by-cons}
use Rattle.game_def.specs.Game.{Game}
use Rattle.slot_log.specs.Hand.{Hand}
use Rattle.seat_session.specs.Feeds.{line_feeds}
use Rattle.seat_session.specs.Lines.{BeginsWith}
use Rattle.seat_session.specs.Skipped.{on_stream, Skips}
use Rattle.seat_session.specs.Session.{Standing, with_piece, after_line, is_ready, is_closed, AnswersOpen, Answers}
use Rattle.seat_session.specs.Laws.{Event, fed, asked, Given, given, Happens}
use Rattle.seat_session.specs.Progress.{AnswersTakeLines, PiecesAddLines, ReadyComesFirst, says_ready, ReadyComesOnce}
use Rattle.seat_session.specs.declared.phase.Phase.{Phase}
use Rattle.seat_session.specs.declared.phase.Phase.TheVariants.{Greeting, Ready, Closed}
use Rattle.seat_session.specs.declared.said.Said.{Said}
use Rattle.seat_session.specs.declared.said.Said.TheVariants.{Ready as Readied, Act}
use Rattle.seat_session.specs.declared.session_fault.SessionFault.{SessionFault}
use Rattle.seat_session.specs.declared.session_fault.SessionFault.TheVariants.{BadVersion, LineTooLong, Malformed, NotCurrent, NotYourTurn, Illegal}
use Rattle.seat_session.proofs.Heard.{standing}

-- ---- line feeds

line_feeds-append : (xs ys : List ℕ) → line_feeds (xs ++ ys) ≡ line_feeds xs + line_feeds ys
line_feeds-append xs ys = sum_by-append (λ byte. cond (byte == 10) 1 0) xs ys

line_feeds-cons : (x : ℕ) (xs : List ℕ) → line_feeds (x ∷ xs) ≡ cond (x == 10) 1 0 + line_feeds xs
line_feeds-cons x xs = sum_by-cons (λ byte. cond (byte == 10) 1 0) x xs

behind_skipped : (stream rest : List ℕ) → Skips stream rest → line_feeds rest ≤ line_feeds stream
behind_skipped stream rest skips = omega (arith, ap line_feeds skips.joined, line_feeds-append (on_stream skips.lines) rest)

behind_line : (stream line behind : List ℕ) → BeginsWith stream line behind → line_feeds behind < line_feeds stream
behind_line stream line behind begins = omega (arith, ap line_feeds begins.breaks.joined, line_feeds-append line (10 ∷ behind), line_feeds-cons 10 behind)

-- ---- answers

clash : {A : Type 0} → ◌≡◌ {A = Bool} true false → A
clash e = absurd cc

-- an answer to a line that leaves the session open leaves it ready for what stands behind the line
goes_on : (said : Result Said SessionFault) (behind : List ℕ) → is_closed (after_line said behind).phase ≡ false → after_line said behind ≡ standing Ready behind
goes_on (Ok said) behind unclosed = refl
goes_on (Err BadVersion) behind unclosed = clash unclosed
goes_on (Err LineTooLong) behind unclosed = clash unclosed
goes_on (Err (Malformed fault)) behind unclosed = refl
goes_on (Err NotCurrent) behind unclosed = refl
goes_on (Err NotYourTurn) behind unclosed = refl
goes_on (Err (Illegal fault)) behind unclosed = refl

-- an answer that leaves the session open was to a line
record Goes (old new : Standing) : Type 0 where
  feeds : line_feeds new.waiting < line_feeds old.waiting
  ready : is_ready new.phase ≡ true

goes_open : (game : Game) (hands : List Hand) (seat : ℕ) (old : Standing) (said : Result Said SessionFault) (new : Standing) → AnswersOpen game hands seat old (Some said) new → is_closed new.phase ≡ false → Goes old new
goes_open game hands seat old said new (inl over) unclosed = clash (ap (λ (s : Standing). is_closed s.phase) (sym over.closed) ∙ unclosed)
goes_open game hands seat old said new (inr hears) unclosed =
    let behind = hears.line.behind in
    let is = hears.after ∙ goes_on said behind (ap (λ (s : Standing). is_closed s.phase) (sym hears.after) ∙ unclosed) in
    record {
      feeds = omega (arith, ap (λ (s : Standing). line_feeds s.waiting) is, behind_line hears.rest hears.line.line behind hears.line.begins, behind_skipped old.waiting hears.rest hears.skips);
      ready = ap (λ (s : Standing). is_ready s.phase) is;
    }

goes_in : (game : Game) (hands : List Hand) (seat : ℕ) (phase : Phase) (waiting : List ℕ) (said : Result Said SessionFault) (new : Standing)
    → Answers game hands seat (standing phase waiting) (Some said) new → is_closed new.phase ≡ false → Goes (standing phase waiting) new
goes_in game hands seat Greeting waiting said new answers unclosed = goes_open game hands seat (standing Greeting waiting) said new answers unclosed
goes_in game hands seat Ready waiting said new answers unclosed = goes_open game hands seat (standing Ready waiting) said new answers unclosed
goes_in game hands seat (Closed fault) waiting said new answers unclosed = clash (ap (λ (s : Standing). is_closed s.phase) (sym answers.1) ∙ unclosed)

goes : (game : Game) (hands : List Hand) (seat : ℕ) (old : Standing) (said : Result Said SessionFault) (new : Standing) → Answers game hands seat old (Some said) new → is_closed new.phase ≡ false → Goes old new
goes game hands seat old said new answers unclosed = goes_in game hands seat old.phase old.waiting said new answers unclosed

waited_in : (game : Game) (hands : List Hand) (seat : ℕ) (phase : Phase) (waiting : List ℕ) (new : Standing) → Answers game hands seat (standing phase waiting) None new → line_feeds new.waiting ≤ line_feeds waiting
waited_in game hands seat Greeting waiting new waits = behind_skipped waiting new.waiting waits.skips
waited_in game hands seat Ready waiting new waits = behind_skipped waiting new.waiting waits.skips
waited_in game hands seat (Closed fault) waiting new answers = absurd (let e : ◌≡◌ {A = Option (Result Said SessionFault)} None (Some (Err fault)) = answers.0 in cc)

pub answers_take_lines : AnswersTakeLines
answers_take_lines = record {
  answered = λ game hands seat old said new answers unclosed. (goes game hands seat old said new answers unclosed).feeds;
  waited = λ game hands seat old new answers. waited_in game hands seat old.phase old.waiting new answers;
}

-- ---- pieces

fed_in : (phase : Phase) (waiting piece : List ℕ) → is_closed phase ≡ false → line_feeds (with_piece (standing phase waiting) piece).waiting ≡ line_feeds waiting + line_feeds piece
fed_in Greeting waiting piece unclosed = line_feeds-append waiting piece
fed_in Ready waiting piece unclosed = line_feeds-append waiting piece
fed_in (Closed fault) waiting piece unclosed = clash unclosed

same_phase_in : (phase : Phase) (waiting piece : List ℕ) → (with_piece (standing phase waiting) piece).phase ≡ phase
same_phase_in Greeting waiting piece = refl
same_phase_in Ready waiting piece = refl
same_phase_in (Closed fault) waiting piece = refl

pub pieces_add_lines : PiecesAddLines
pieces_add_lines = record {
  feeds = λ old piece unclosed. fed_in old.phase old.waiting piece unclosed;
  same_phase = λ old piece. same_phase_in old.phase old.waiting piece;
}

-- ---- Ready

-- a session in play says nothing of the version
not_in_play : (game : Game) (hands : List Hand) (seat : ℕ) (waiting : List ℕ) (said : Result Said SessionFault) (new : Standing) → AnswersOpen game hands seat (standing Ready waiting) (Some said) new → says_ready said ≡ false
not_in_play game hands seat waiting (Err fault) new answers = refl
not_in_play game hands seat waiting (Ok (Act command)) new answers = refl
not_in_play game hands seat waiting (Ok Readied) new (inl over) = absurd (let e : ◌≡◌ {A = Result Said SessionFault} (Ok Readied) (Err LineTooLong) = over.too_long.fault in cc)
not_in_play game hands seat waiting (Ok Readied) new (inr hears) = absurd hears.line.says

ready_in : (game : Game) (hands : List Hand) (seat : ℕ) (phase : Phase) (waiting : List ℕ) (new : Standing) → Answers game hands seat (standing phase waiting) (Some (Ok Readied)) new → is_ready phase ≡ false
ready_in game hands seat Greeting waiting new answers = refl
ready_in game hands seat Ready waiting new answers = clash (not_in_play game hands seat waiting (Ok Readied) new answers)
ready_in game hands seat (Closed fault) waiting new answers = refl

pub ready_comes_first : ReadyComesFirst
ready_comes_first = record {
  said = λ game hands seat old new answers. ready_in game hands seat old.phase old.waiting new answers;
  ready = λ game hands seat old said new answers unclosed. (goes game hands seat old said new answers unclosed).ready;
}

abbrev one_if : Bool → ℕ
one_if b = cond b 1 0

abbrev readies : List Given → ℕ
readies answers = count_by (λ (answer : Given). says_ready answer.said) answers

readies-cons : (hands : List Hand) (said : Result Said SessionFault) (events : List Event)
    → readies (given (asked hands (Some said) ∷ events)) ≡ one_if (says_ready said) + readies (given events)
readies-cons hands said events = sum_by-cons (λ (answer : Given). cond (says_ready answer.said) 1 0) (record { hands = hands; said = said }) (given events)

abbrev IsGreeted : Phase → Type 0
IsGreeted Greeting = ⊥
IsGreeted Ready = Unit {0}
IsGreeted (Closed fault) = Unit {0}

greeted_after : (said : Result Said SessionFault) (behind : List ℕ) → IsGreeted (after_line said behind).phase
greeted_after (Ok said) behind = tt
greeted_after (Err BadVersion) behind = tt
greeted_after (Err LineTooLong) behind = tt
greeted_after (Err (Malformed fault)) behind = tt
greeted_after (Err NotCurrent) behind = tt
greeted_after (Err NotYourTurn) behind = tt
greeted_after (Err (Illegal fault)) behind = tt

greeted_open : (game : Game) (hands : List Hand) (seat : ℕ) (old : Standing) (said : Result Said SessionFault) (new : Standing) → AnswersOpen game hands seat old (Some said) new → IsGreeted new.phase
greeted_open game hands seat old said new (inl over) = subst (λ (s : Standing). IsGreeted s.phase) (sym over.closed) tt
greeted_open game hands seat old said new (inr hears) = subst (λ (s : Standing). IsGreeted s.phase) (sym hears.after) (greeted_after said hears.line.behind)

-- what says that it is ready, once the first line had its answer
never : (game : Game) (seat : ℕ) (phase : Phase) (waiting : List ℕ) (events : List Event) (new : Standing) → IsGreeted phase → Happens game seat (standing phase waiting) events new → readies (given events) ≡ 0
never game seat phase waiting [] new greeted happens = refl
never game seat Greeting waiting (event ∷ events) new greeted happens = absurd greeted
never game seat Ready waiting (fed piece ∷ events) new greeted happens = never game seat Ready (waiting ++ piece) events new tt happens
never game seat (Closed fault) waiting (fed piece ∷ events) new greeted happens = never game seat (Closed fault) waiting events new tt happens
never game seat Ready waiting (asked hands None ∷ events) new greeted happens =
    never game seat happens.0.phase happens.0.waiting events new (subst IsGreeted (sym happens.1.same_phase) tt) happens.2
never game seat (Closed fault) waiting (asked hands None ∷ events) new greeted happens = absurd (let e : ◌≡◌ {A = Option (Result Said SessionFault)} None (Some (Err fault)) = happens.1.0 in cc)
never game seat Ready waiting (asked hands (Some said) ∷ events) new greeted happens =
    let first : one_if (says_ready said) ≡ 0 = ap one_if (not_in_play game hands seat waiting said happens.0 happens.1) in
    let later = never game seat happens.0.phase happens.0.waiting events new (greeted_open game hands seat (standing Ready waiting) said happens.0 happens.1) happens.2 in
    omega (arith, readies-cons hands said events, first, later)
never game seat (Closed fault) waiting (asked hands (Some said) ∷ events) new greeted happens =
    let is : said ≡ Err fault = (let e : ◌≡◌ {A = Option (Result Said SessionFault)} (Some said) (Some (Err fault)) = happens.1.0 in cc) in
    let first : one_if (says_ready said) ≡ 0 = ap (λ (r : Result Said SessionFault). one_if (says_ready r)) is in
    let later = never game seat (Closed fault) waiting events new tt (subst (λ (s : Standing). Happens game seat s events new) happens.1.1 happens.2) in
    omega (arith, readies-cons hands said events, first, later)

at_most_one : (b : Bool) → one_if b ≤ 1
at_most_one true = omega arith
at_most_one false = omega arith

once : (game : Game) (seat : ℕ) (waiting : List ℕ) (events : List Event) (new : Standing) → Happens game seat (standing Greeting waiting) events new → readies (given events) ≤ 1
once game seat waiting [] new happens = omega arith
once game seat waiting (fed piece ∷ events) new happens = once game seat (waiting ++ piece) events new happens
once game seat waiting (asked hands None ∷ events) new happens =
    once game seat happens.0.waiting events new (subst (λ (p : Phase). Happens game seat (standing p happens.0.waiting) events new) happens.1.same_phase happens.2)
once game seat waiting (asked hands (Some said) ∷ events) new happens =
    let later = never game seat happens.0.phase happens.0.waiting events new (greeted_open game hands seat (standing Greeting waiting) said happens.0 happens.1) happens.2 in
    omega (arith, readies-cons hands said events, at_most_one (says_ready said), later)

pub ready_comes_once : ReadyComesOnce
ready_comes_once game seat events new happens = once game seat [] events new happens
