-- Each line has its answer.
use Rattle.std.proofs.Common.{◌≡◌, ℕ, suc, ◌+◌, Bool, true, false, not, cond, List, [], ◌∷◌, ◌++◌, length, inl, inr, Option, Some, None, Result, Ok, Err, refl, sym, ◌∙◌, ap, subst, arith, append_assoc}
use Rattle.std.specs.List.{AllByRecursion, count_by}
use Rattle.std.proofs.lemmas.List.{append-nil}
use Rattle.std.proofs.lemmas.List.Sums.{sum_by-append}
use Rattle.game_def.specs.Game.{Game}
use Rattle.slot_log.specs.Hand.{Hand}
use Rattle.seat_session.specs.Lines.{HasNoFeed, BeginsWith, text_of}
use Rattle.seat_session.specs.Skipped.{is_skipped, IsSkippedLine, on_stream, Skips}
use Rattle.seat_session.specs.Session.{Standing, is_closed, after_line, FrontSays, Hears, AnswersOpen, Answers}
use Rattle.seat_session.specs.Laws.{Event, fed, asked, joined, given, Happens}
use Rattle.seat_session.specs.declared.phase.Phase.{Phase}
use Rattle.seat_session.specs.declared.phase.Phase.TheVariants.{Greeting, Ready, Closed}
use Rattle.seat_session.specs.declared.said.Said.{Said}
use Rattle.seat_session.specs.declared.session_fault.SessionFault.{SessionFault}
use Rattle.seat_session.specs.declared.session_fault.SessionFault.TheVariants.{BadVersion, LineTooLong, Malformed, NotCurrent, NotYourTurn, Illegal}
use Rattle.seat_session.proofs.Heard.{standing}
use Rattle.seat_session.proofs.Skipping.{on_stream-append}
use Rattle.seat_session.specs.EachLine.{HasLines, EachLineAnswered, NextLineAnswered}

-- how many of the lines aren't skipped
abbrev counted : List (List ℕ) → ℕ
counted lines = count_by (λ line. not (is_skipped (text_of line))) lines

takes_none : (stream rest : List ℕ) → stream ≡ rest → HasLines stream rest 0
takes_none stream rest same = record { lines = []; each = tt; whole = same; counts = refl }

takes_skipped : (stream rest : List ℕ) → Skips stream rest → HasLines stream rest 0
takes_skipped stream rest skips = record { lines = skips.lines; each = clear skips.lines skips.each; whole = skips.joined; counts = none skips.lines skips.each }
  where
    clear : (lines : List (List ℕ)) → AllByRecursion IsSkippedLine lines → AllByRecursion HasNoFeed lines
    clear [] each = tt
    clear (line ∷ lines) each = (each.0.one_line, clear lines each.1)

    none : (lines : List (List ℕ)) → AllByRecursion IsSkippedLine lines → 0 ≡ counted lines
    none [] each = refl
    none (line ∷ lines) each = let others = none lines each.1 in rw each.0.skipped others

takes_line : (stream line rest : List ℕ) → BeginsWith stream line rest → is_skipped (text_of line) ≡ false → HasLines stream rest 1
takes_line stream line rest begins plain = record {
  lines = line ∷ [];
  each = (begins.breaks.one_line, tt);
  whole = begins.breaks.joined ∙ sym (append_assoc line (10 ∷ []) rest) ∙ ap (λ (l : List ℕ). l ++ rest) (sym (append-nil (line ++ 10 ∷ [])));
  counts = rw plain refl;
}

joined_lines : (xs ys : List (List ℕ)) → AllByRecursion HasNoFeed xs → AllByRecursion HasNoFeed ys → AllByRecursion HasNoFeed (xs ++ ys)
joined_lines [] ys each others = others
joined_lines (x ∷ xs) ys each others = (each.0, joined_lines xs ys each.1 others)

joined_count : (xs ys : List (List ℕ)) → counted (xs ++ ys) ≡ counted xs + counted ys
joined_count xs ys = sum_by-append (λ line. cond (not (is_skipped (text_of line))) 1 0) xs ys

takes_on : (first second third : List ℕ) (count more sum : ℕ) → sum ≡ count + more → HasLines first second count → HasLines second third more → HasLines first third sum
takes_on first second third count more sum adds one two = record {
  lines = one.lines ++ two.lines;
  each = joined_lines one.lines two.lines one.each two.each;
  whole = one.whole ∙ ap (λ (l : List ℕ). on_stream one.lines ++ l) two.whole ∙ sym (append_assoc (on_stream one.lines) (on_stream two.lines) third)
      ∙ ap (λ (l : List ℕ). l ++ third) (sym (on_stream-append one.lines two.lines));
  counts = omega (arith, adds, one.counts, two.counts, joined_count one.lines two.lines);
}

-- what comes later is no matter
takes_before : (stream rest more : List ℕ) (count : ℕ) → HasLines stream rest count → HasLines (stream ++ more) (rest ++ more) count
takes_before stream rest more count takes = record {
  lines = takes.lines;
  each = takes.each;
  whole = ap (λ (l : List ℕ). l ++ more) takes.whole ∙ append_assoc (on_stream takes.lines) rest more;
  counts = takes.counts;
}

-- ---- a session that isn't closed wasn't closed before

closed_stays : (game : Game) (seat : ℕ) (fault : SessionFault) (waiting : List ℕ) (events : List Event) (new : Standing) → Happens game seat (standing (Closed fault) waiting) events new → is_closed new.phase ≡ true
closed_stays game seat fault waiting [] new happens = ap (λ (s : Standing). is_closed s.phase) happens
closed_stays game seat fault waiting (fed piece ∷ events) new happens = closed_stays game seat fault waiting events new happens
closed_stays game seat fault waiting (asked hands answer ∷ events) new happens =
    closed_stays game seat fault waiting events new (subst (λ (s : Standing). Happens game seat s events new) happens.1.1 happens.2)

open_at_end : {A : Type 0} (game : Game) (seat : ℕ) (fault : SessionFault) (waiting : List ℕ) (events : List Event) (new : Standing)
    → Happens game seat (standing (Closed fault) waiting) events new → is_closed new.phase ≡ false → A
open_at_end game seat fault waiting events new happens unclosed =
    let closed = closed_stays game seat fault waiting events new happens in
    absurd (let clash : ◌≡◌ {A = Bool} true false = sym closed ∙ unclosed in cc)

-- ---- the lines that the answers took

-- what waited and what came is what was taken, a line for each answer, and what waits
abbrev TakesAll : List ℕ → List Event → Standing → Type 0
TakesAll waiting events new = HasLines (waiting ++ joined events) new.waiting (length (given events))

behind_line : (game : Game) (seat : ℕ) (said : Result Said SessionFault) (behind : List ℕ) (events : List Event) (new : Standing)
    → Happens game seat (after_line said behind) events new → is_closed new.phase ≡ false → after_line said behind ≡ standing Ready behind
behind_line game seat (Ok said) behind events new happens unclosed = refl
behind_line game seat (Err BadVersion) behind events new happens unclosed = open_at_end game seat BadVersion [] events new happens unclosed
behind_line game seat (Err LineTooLong) behind events new happens unclosed = open_at_end game seat LineTooLong [] events new happens unclosed
behind_line game seat (Err (Malformed fault)) behind events new happens unclosed = refl
behind_line game seat (Err NotCurrent) behind events new happens unclosed = refl
behind_line game seat (Err NotYourTurn) behind events new happens unclosed = refl
behind_line game seat (Err (Illegal fault)) behind events new happens unclosed = refl

skipped_first : (waiting : List ℕ) (between : Standing) (events : List Event) (new : Standing) → Skips waiting between.waiting → TakesAll between.waiting events new → TakesAll waiting events new
skipped_first waiting between events new skips takes =
    takes_on (waiting ++ joined events) (between.waiting ++ joined events) new.waiting 0 (length (given events)) (length (given events)) (omega arith)
    (takes_before waiting between.waiting (joined events) 0 (takes_skipped waiting between.waiting skips)) takes

line_first : (game : Game) (hands : List Hand) (seat : ℕ) (old : Standing) (said : Result Said SessionFault) (between : Standing) (events : List Event) (new : Standing)
    → (hears : Hears game hands seat old said between) → TakesAll hears.line.behind events new → HasLines (old.waiting ++ joined events) new.waiting (suc (length (given events)))
line_first game hands seat old said between events new hears takes =
    let skipped = takes_skipped old.waiting hears.rest hears.skips in
    let line = takes_line hears.rest hears.line.line hears.line.behind hears.line.begins hears.counts in
    let taken = takes_before old.waiting hears.line.behind (joined events) 1 (takes_on old.waiting hears.rest hears.line.behind 0 1 1 (omega arith) skipped line) in
    takes_on (old.waiting ++ joined events) (hears.line.behind ++ joined events) new.waiting 1 (length (given events)) (suc (length (given events))) (omega arith) taken takes

front_first : (game : Game) (hands : List Hand) (seat : ℕ) (phase : Phase) (waiting : List ℕ) (said : Result Said SessionFault) (between : Standing) (events : List Event) (new : Standing)
    → ((behind : List ℕ) → Happens game seat (standing Ready behind) events new → TakesAll behind events new)
    → AnswersOpen game hands seat (standing phase waiting) (Some said) between → Happens game seat between events new → is_closed new.phase ≡ false
    → HasLines (waiting ++ joined events) new.waiting (suc (length (given events)))
front_first game hands seat phase waiting said between events new later (inl over) happens unclosed =
    open_at_end game seat LineTooLong [] events new (subst (λ (s : Standing). Happens game seat s events new) over.closed happens) unclosed
front_first game hands seat phase waiting said between events new later (inr hears) happens unclosed =
    let behind = hears.line.behind in
    let after : Happens game seat (after_line said behind) events new = subst (λ (s : Standing). Happens game seat s events new) hears.after happens in
    let goes_on = subst (λ (s : Standing). Happens game seat s events new) (behind_line game seat said behind events new after unclosed) after in
    line_first game hands seat (standing phase waiting) said between events new hears (later behind goes_on)

all_taken : (game : Game) (seat : ℕ) (phase : Phase) (waiting : List ℕ) (events : List Event) (new : Standing)
    → Happens game seat (standing phase waiting) events new → is_closed new.phase ≡ false → TakesAll waiting events new
all_taken game seat phase waiting [] new happens unclosed =
    takes_none (waiting ++ []) new.waiting (append-nil waiting ∙ ap (λ (s : Standing). s.waiting) (sym happens))
all_taken game seat Greeting waiting (fed piece ∷ events) new happens unclosed =
    subst (λ (l : List ℕ). HasLines l new.waiting (length (given events))) (append_assoc waiting piece (joined events)) (all_taken game seat Greeting (waiting ++ piece) events new happens unclosed)
all_taken game seat Ready waiting (fed piece ∷ events) new happens unclosed =
    subst (λ (l : List ℕ). HasLines l new.waiting (length (given events))) (append_assoc waiting piece (joined events)) (all_taken game seat Ready (waiting ++ piece) events new happens unclosed)
all_taken game seat (Closed fault) waiting (fed piece ∷ events) new happens unclosed = open_at_end game seat fault waiting (fed piece ∷ events) new happens unclosed
all_taken game seat (Closed fault) waiting (asked hands answer ∷ events) new happens unclosed = open_at_end game seat fault waiting (asked hands answer ∷ events) new happens unclosed
all_taken game seat Greeting waiting (asked hands None ∷ events) new happens unclosed =
    skipped_first waiting happens.0 events new happens.1.skips (all_taken game seat happens.0.phase happens.0.waiting events new happens.2 unclosed)
all_taken game seat Ready waiting (asked hands None ∷ events) new happens unclosed =
    skipped_first waiting happens.0 events new happens.1.skips (all_taken game seat happens.0.phase happens.0.waiting events new happens.2 unclosed)
all_taken game seat Greeting waiting (asked hands (Some said) ∷ events) new happens unclosed =
    front_first game hands seat Greeting waiting said happens.0 events new (λ behind later. all_taken game seat Ready behind events new later unclosed) happens.1 happens.2 unclosed
all_taken game seat Ready waiting (asked hands (Some said) ∷ events) new happens unclosed =
    front_first game hands seat Ready waiting said happens.0 events new (λ behind later. all_taken game seat Ready behind events new later unclosed) happens.1 happens.2 unclosed

-- a session that answers that there is none yet isn't closed
asked_in_vain : (game : Game) (hands : List Hand) (seat : ℕ) (phase : Phase) (waiting : List ℕ) (new : Standing) → Answers game hands seat (standing phase waiting) None new → (is_closed phase ≡ false) × Skips waiting new.waiting
asked_in_vain game hands seat Greeting waiting new waits = (refl, waits.skips)
asked_in_vain game hands seat Ready waiting new waits = (refl, waits.skips)
asked_in_vain game hands seat (Closed fault) waiting new waits = absurd (let clash : ◌≡◌ {A = Option (Result Said SessionFault)} None (Some (Err fault)) = waits.0 in cc)

pub each_line_answered : EachLineAnswered
each_line_answered game seat events hands between new happens answers =
    let vain = asked_in_vain game hands seat between.phase between.waiting new answers in
    let taken = all_taken game seat Greeting [] events between happens vain.0 in
    takes_on (joined events) between.waiting new.waiting (length (given events)) 0 (length (given events)) (omega arith) taken (takes_skipped between.waiting new.waiting vain.1)

-- ---- the line that is answered next

abbrev Next : Game → List Hand → ℕ → Phase → List ℕ → ℕ → Result Said SessionFault → Type 0
Next game hands seat phase bytes count said = (rest : List ℕ) × HasLines bytes rest count × FrontSays game hands seat phase rest said

next_open : (game : Game) (hands : List Hand) (seat : ℕ) (bytes : List ℕ) (count : ℕ) (phase : Phase) (waiting : List ℕ) (said : Result Said SessionFault) (new : Standing)
    → HasLines bytes waiting count → AnswersOpen game hands seat (standing phase waiting) (Some said) new → Next game hands seat phase bytes count said
next_open game hands seat bytes count phase waiting said new taken (inl over) =
    (over.rest, takes_on bytes waiting over.rest count 0 count (omega arith) taken (takes_skipped waiting over.rest over.skips), inl over.too_long)
next_open game hands seat bytes count phase waiting said new taken (inr hears) =
    (hears.rest, takes_on bytes waiting hears.rest count 0 count (omega arith) taken (takes_skipped waiting hears.rest hears.skips), inr hears.line)

next_in : (game : Game) (hands : List Hand) (seat : ℕ) (bytes : List ℕ) (count : ℕ) (phase : Phase) (waiting : List ℕ) (said : Result Said SessionFault) (new : Standing)
    → is_closed phase ≡ false → HasLines bytes waiting count → Answers game hands seat (standing phase waiting) (Some said) new → Next game hands seat phase bytes count said
next_in game hands seat bytes count Greeting waiting said new unclosed taken answers = next_open game hands seat bytes count Greeting waiting said new taken answers
next_in game hands seat bytes count Ready waiting said new unclosed taken answers = next_open game hands seat bytes count Ready waiting said new taken answers
next_in game hands seat bytes count (Closed fault) waiting said new unclosed taken answers = absurd (let clash : ◌≡◌ {A = Bool} true false = unclosed in cc)

pub next_line_answered : NextLineAnswered
next_line_answered game seat events hands between said new happens unclosed answers =
    next_in game hands seat (joined events) (length (given events)) between.phase between.waiting said new unclosed (all_taken game seat Greeting [] events between happens unclosed) answers
