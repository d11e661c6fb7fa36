-- A stream and the hands of a table have one answer.
use Rattle.std.proofs.Common.{◌≡◌, ◌≢◌, ℕ, Bool, true, false, List, [], ◌∷◌, ◌++◌, length, ◌⊎◌, inl, inr, Option, Some, None, Result, Ok, Err, refl, sym, ◌∙◌, ap, subst, arith, append_assoc}
use Rattle.std.specs.List.{AllByRecursion}
use Rattle.std.proofs.lemmas.List.{length-append}
use Rattle.game_def.specs.Game.{Game, IsGame}
use Rattle.betting.specs.declared.action.Action.{Action}
use Rattle.betting.specs.declared.fault.ActFault.{ActFault}
use Rattle.betting.specs.Rounds.{turns}
use Rattle.betting.specs.Legal.{CanAct, fault_of}
use Rattle.betting.specs.Laws.{AllowedWithoutFault}
use Rattle.slot_log.specs.Hand.{Hand}
use Rattle.slot_log.specs.declared.command.Command.TheVariants.{Deal, Act as Acts, Away}
use Rattle.matchstate.specs.Answer.{AnswerReadsAs}
use Rattle.matchstate.specs.View.{View, seat_view}
use Rattle.matchstate.specs.declared.line_fault.LineFault.{LineFault}
use Rattle.matchstate.specs.OneReading.{AnswersReadOneWay}
use Rattle.seat_session.specs.Lines.{BeginsWith, IsPartial, text_of}
use Rattle.seat_session.specs.Skipped.{is_skipped, IsSkippedLine, on_stream, Skips}
use Rattle.seat_session.specs.Saying.{Greets, Echoes, IsTurn, SaysAct, Plays, Says}
use Rattle.seat_session.specs.Session.{Standing, after_line, IsTooLong, Waits, Overflows, Hears, AnswersOpen, Answers}
use Rattle.seat_session.specs.Laws.{OneAnswer}
use Rattle.seat_session.specs.declared.phase.Phase.{Phase}
use Rattle.seat_session.specs.declared.phase.Phase.TheVariants.{Greeting, Ready as InPlay, Closed}
use Rattle.seat_session.specs.declared.said.Said.{Said}
use Rattle.seat_session.specs.declared.said.Said.TheVariants.{Ready, Act}
use Rattle.seat_session.specs.declared.session_fault.SessionFault.{SessionFault}
use Rattle.seat_session.specs.declared.session_fault.SessionFault.TheVariants.{BadVersion, LineTooLong, Malformed, NotCurrent, NotYourTurn, Illegal}
use Rattle.seat_session.proofs.LineLemmas.{one_break, not_clear, not_whole_and_overlong}
use Rattle.seat_session.proofs.Heard.{standing}

-- ---- what a line of the game says

-- the meanings of a line that reads as an answer
data Meaning : Type 0 where
  garbled : (fault : LineFault) → Meaning
  stale : Meaning
  early : Meaning
  wrong : (fault : ActFault) → Meaning
  right : (hand index : ℕ) (action : Action) → Meaning

abbrev said_of : Meaning → Result Said SessionFault
said_of (garbled fault) = Err (Malformed fault)
said_of stale = Err NotCurrent
said_of early = Err NotYourTurn
said_of (wrong fault) = Err (Illegal fault)
said_of (right hand index action) = Ok (Act (Acts hand index action))

abbrev Means : Game → List Hand → ℕ → List ℕ → Meaning → Type 0
Means game hands seat text meaning = Plays game hands seat text (said_of meaning)

meaning_of : (game : Game) (hands : List Hand) (seat : ℕ) (text : List ℕ) (said : Result Said SessionFault) → Plays game hands seat text said
    → (meaning : Meaning) × Means game hands seat text meaning × (said ≡ said_of meaning)
meaning_of game hands seat text (Ok Ready) plays = absurd plays
meaning_of game hands seat text (Ok (Act (Deal hand deal))) plays = absurd plays
meaning_of game hands seat text (Ok (Act (Away hand index))) plays = absurd plays
meaning_of game hands seat text (Ok (Act (Acts hand index action))) plays = (right hand index action, plays, refl)
meaning_of game hands seat text (Err BadVersion) plays = absurd plays
meaning_of game hands seat text (Err LineTooLong) plays = absurd plays
meaning_of game hands seat text (Err (Malformed fault)) plays = (garbled fault, plays, refl)
meaning_of game hands seat text (Err NotCurrent) plays = (stale, plays, refl)
meaning_of game hands seat text (Err NotYourTurn) plays = (early, plays, refl)
meaning_of game hands seat text (Err (Illegal fault)) plays = (wrong fault, plays, refl)

-- two views of now are one
one_view : (game : Game) (hands : List Hand) (seat : ℕ) (view other : View) → seat_view game hands seat ≡ Some view → seat_view game hands seat ≡ Some other → view ≡ other
one_view game hands seat view other current now = let same : Some view ≡ Some other = sym current ∙ now in cc

record Same (view other : View) (action step : Action) : Type 0 where
  views : view ≡ other
  actions : action ≡ step

same_answer : AnswersReadOneWay → (game : Game) (text : List ℕ) (view other : View) (action step : Action) → IsGame game
    → AnswerReadsAs game text (Ok (view, action)) → AnswerReadsAs game text (Ok (other, step)) → Same view other action step
same_answer law game text view other action step is reads tells =
    let pairs : (let r : Result (View × Action) LineFault = Ok (view, action) in r) ≡ Ok (other, step) = law game text (Ok (view, action)) (Ok (other, step)) is reads tells in
    let one : (let p : View × Action = (view, action) in p) ≡ (other, step) = cc in
    record { views = ap (λ (p : View × Action). p.0) one; actions = ap (λ (p : View × Action). p.1) one }

garbled_clash : AnswersReadOneWay → (game : Game) (text : List ℕ) (fault : LineFault) (view : View) (action : Action) → IsGame game
    → AnswerReadsAs game text (Err fault) → AnswerReadsAs game text (Ok (view, action)) → ⊥
garbled_clash law game text fault view action is reads tells =
    let clash : (let r : Result (View × Action) LineFault = Err fault in r) ≡ Ok (view, action) = law game text (Err fault) (Ok (view, action)) is reads tells in
    cc

stale_clash : AnswersReadOneWay → (game : Game) (hands : List Hand) (seat : ℕ) (text : List ℕ) (view other : View) (action step : Action) → IsGame game
    → AnswerReadsAs game text (Ok (view, action)) → (seat_view game hands seat ≢ Some view) → Echoes game hands seat text other step → ⊥
stale_clash law game hands seat text view other action step is reads none echoes =
    let same = same_answer law game text view other action step is reads echoes.reads in
    none (echoes.current ∙ ap (λ (v : View). Some v) (sym same.views))

early_clash : (game : Game) (hands : List Hand) (seat : ℕ) (text : List ℕ) (view other : View) (action step : Action)
    → Echoes game hands seat text view action → ¬ (IsTurn game view) → Echoes game hands seat text other step → IsTurn game other → ⊥
early_clash game hands seat text view other action step echoes none again turn =
    none (subst (λ (v : View). IsTurn game v) (one_view game hands seat other view again.current echoes.current) turn)

wrong_clash : AnswersReadOneWay → AllowedWithoutFault → (game : Game) (text : List ℕ) (view other : View) (action step : Action) (fault : ActFault) → IsGame game
    → AnswerReadsAs game text (Ok (view, action)) → fault_of game (turns game view.past) action ≡ Some fault
    → AnswerReadsAs game text (Ok (other, step)) → CanAct game (turns game other.past) step → ⊥
wrong_clash law allowed game text view other action step fault is reads found tells can =
    let same = same_answer law game text view other action step is reads tells in
    let free : fault_of game (turns game other.past) step ≡ None = (allowed game (turns game other.past) step).0 can in
    let faulty : fault_of game (turns game other.past) step ≡ Some fault =
    sym (ap (λ (v : View). fault_of game (turns game v.past) action) same.views ∙ ap (fault_of game (turns game other.past)) same.actions) ∙ found in
    let clash : ◌≡◌ {A = Option ActFault} None (Some fault) = sym free ∙ faulty in
    cc

one_wrong : AnswersReadOneWay → (game : Game) (text : List ℕ) (view other : View) (action step : Action) (fault again : ActFault) → IsGame game
    → AnswerReadsAs game text (Ok (view, action)) → fault_of game (turns game view.past) action ≡ Some fault
    → AnswerReadsAs game text (Ok (other, step)) → fault_of game (turns game other.past) step ≡ Some again → fault ≡ again
one_wrong law game text view other action step fault again is reads found tells told =
    let same = same_answer law game text view other action step is reads tells in
    let both : Some fault ≡ Some again =
    sym found ∙ ap (λ (v : View). fault_of game (turns game v.past) action) same.views ∙ ap (fault_of game (turns game other.past)) same.actions ∙ told in
    cc

one_right : AnswersReadOneWay → (game : Game) (hands : List Hand) (seat : ℕ) (text : List ℕ) (hand index number place : ℕ) (action step : Action) → IsGame game
    → SaysAct game hands seat text hand index action → SaysAct game hands seat text number place step → right hand index action ≡ right number place step
one_right law game hands seat text hand index number place action step is says tells =
    let same = same_answer law game text says.view tells.view action step is says.echoes.reads tells.echoes.reads in
    let hand_is : hand ≡ number = says.same_hand ∙ ap (λ (v : View). v.hand) same.views ∙ sym tells.same_hand in
    let index_is : index ≡ place = says.next_index ∙ ap (λ (v : View). length v.past) same.views ∙ sym tells.next_index in
    let action_is : action ≡ step = same.actions in
    cc

one_meaning : AnswersReadOneWay → AllowedWithoutFault → (game : Game) (hands : List Hand) (seat : ℕ) (text : List ℕ) (first second : Meaning) → IsGame game
    → Means game hands seat text first → Means game hands seat text second → first ≡ second
one_meaning law allowed game hands seat text (garbled fault) (garbled other) is a b =
    let both : (let r : Result (View × Action) LineFault = Err fault in r) ≡ Err other = law game text (Err fault) (Err other) is a b in
    let one : fault ≡ other = cc in
    ap garbled one
one_meaning law allowed game hands seat text (garbled fault) stale is a b = absurd (garbled_clash law game text fault b.0 b.1 is a b.2)
one_meaning law allowed game hands seat text (garbled fault) early is a b = absurd (garbled_clash law game text fault b.0 b.1 is a b.2.reads)
one_meaning law allowed game hands seat text (garbled fault) (wrong other) is a b = absurd (garbled_clash law game text fault b.0 b.1 is a b.2.reads)
one_meaning law allowed game hands seat text (garbled fault) (right hand index action) is a b = absurd (garbled_clash law game text fault b.view action is a b.echoes.reads)
one_meaning law allowed game hands seat text stale (garbled fault) is a b = absurd (garbled_clash law game text fault a.0 a.1 is b a.2)
one_meaning law allowed game hands seat text stale stale is a b = refl
one_meaning law allowed game hands seat text stale early is a b = absurd (stale_clash law game hands seat text a.0 b.0 a.1 b.1 is a.2 a.3 b.2)
one_meaning law allowed game hands seat text stale (wrong other) is a b = absurd (stale_clash law game hands seat text a.0 b.0 a.1 b.1 is a.2 a.3 b.2)
one_meaning law allowed game hands seat text stale (right hand index action) is a b = absurd (stale_clash law game hands seat text a.0 b.view a.1 action is a.2 a.3 b.echoes)
one_meaning law allowed game hands seat text early (garbled fault) is a b = absurd (garbled_clash law game text fault a.0 a.1 is b a.2.reads)
one_meaning law allowed game hands seat text early stale is a b = absurd (stale_clash law game hands seat text b.0 a.0 b.1 a.1 is b.2 b.3 a.2)
one_meaning law allowed game hands seat text early early is a b = refl
one_meaning law allowed game hands seat text early (wrong other) is a b = absurd (early_clash game hands seat text a.0 b.0 a.1 b.1 a.2 a.3 b.2 b.3)
one_meaning law allowed game hands seat text early (right hand index action) is a b = absurd (early_clash game hands seat text a.0 b.view a.1 action a.2 a.3 b.echoes b.turn)
one_meaning law allowed game hands seat text (wrong fault) (garbled other) is a b = absurd (garbled_clash law game text other a.0 a.1 is b a.2.reads)
one_meaning law allowed game hands seat text (wrong fault) stale is a b = absurd (stale_clash law game hands seat text b.0 a.0 b.1 a.1 is b.2 b.3 a.2)
one_meaning law allowed game hands seat text (wrong fault) early is a b = absurd (early_clash game hands seat text b.0 a.0 b.1 a.1 b.2 b.3 a.2 a.3)
one_meaning law allowed game hands seat text (wrong fault) (wrong other) is a b = ap wrong (one_wrong law game text a.0 b.0 a.1 b.1 fault other is a.2.reads a.4 b.2.reads b.4)
one_meaning law allowed game hands seat text (wrong fault) (right hand index action) is a b = absurd (wrong_clash law allowed game text a.0 b.view a.1 action fault is a.2.reads a.4 b.echoes.reads b.allowed)
one_meaning law allowed game hands seat text (right hand index action) (garbled fault) is a b = absurd (garbled_clash law game text fault a.view action is b a.echoes.reads)
one_meaning law allowed game hands seat text (right hand index action) stale is a b = absurd (stale_clash law game hands seat text b.0 a.view b.1 action is b.2 b.3 a.echoes)
one_meaning law allowed game hands seat text (right hand index action) early is a b = absurd (early_clash game hands seat text b.0 a.view b.1 action b.2 b.3 a.echoes a.turn)
one_meaning law allowed game hands seat text (right hand index action) (wrong other) is a b = absurd (wrong_clash law allowed game text b.0 a.view b.1 action other is b.2.reads b.4 a.echoes.reads a.allowed)
one_meaning law allowed game hands seat text (right hand index action) (right number place step) is a b = one_right law game hands seat text hand index number place action step is a b

one_play : AnswersReadOneWay → AllowedWithoutFault → (game : Game) (hands : List Hand) (seat : ℕ) (text : List ℕ) (said other : Result Said SessionFault) → IsGame game
    → Plays game hands seat text said → Plays game hands seat text other → said ≡ other
one_play law allowed game hands seat text said other is plays tells =
    let first = meaning_of game hands seat text said plays in
    let second = meaning_of game hands seat text other tells in
    first.2 ∙ ap (λ (m : Meaning). said_of m) (one_meaning law allowed game hands seat text first.0 second.0 is first.1 second.1) ∙ sym second.2

-- ---- the first line

greeting_is : (text : List ℕ) (said : Result Said SessionFault) → Greets text said → (Greets text (Ok Ready) × (said ≡ Ok Ready)) ⊎ (Greets text (Err BadVersion) × (said ≡ Err BadVersion))
greeting_is text (Ok Ready) greets = inl (greets, refl)
greeting_is text (Ok (Act command)) greets = absurd greets
greeting_is text (Err BadVersion) greets = inr (greets, refl)
greeting_is text (Err LineTooLong) greets = absurd greets
greeting_is text (Err (Malformed fault)) greets = absurd greets
greeting_is text (Err NotCurrent) greets = absurd greets
greeting_is text (Err NotYourTurn) greets = absurd greets
greeting_is text (Err (Illegal fault)) greets = absurd greets

one_greeting : (text : List ℕ) (said other : Result Said SessionFault) → Greets text said → Greets text other → said ≡ other
one_greeting text said other greets tells =
    elim (greeting_is text said greets) [
      | inl first ↦ elim (greeting_is text other tells) [ inl second ↦ first.1 ∙ sym second.1 | inr second ↦ absurd (second.0 first.0) ]
      | inr first ↦ elim (greeting_is text other tells) [ inl second ↦ absurd (first.0 second.0) | inr second ↦ first.1 ∙ sym second.1 ]
    ]

one_saying : AnswersReadOneWay → AllowedWithoutFault → (game : Game) (hands : List Hand) (seat : ℕ) (phase : Phase) (text : List ℕ) (said other : Result Said SessionFault) → IsGame game
    → Says game hands seat phase text said → Says game hands seat phase text other → said ≡ other
one_saying law allowed game hands seat Greeting text said other is says tells = one_greeting text said other says tells
one_saying law allowed game hands seat InPlay text said other is says tells = one_play law allowed game hands seat text said other is says tells
one_saying law allowed game hands seat (Closed fault) text said other is says tells = absurd says

-- ---- what stands behind the lines that are skipped

-- no line that is skipped stands in front
abbrev Stops : List ℕ → Type 0
Stops stream = (line behind : List ℕ) → BeginsWith stream line behind → is_skipped (text_of line) ≡ false

stops_at_partial : (stream : List ℕ) → IsPartial stream → Stops stream
stops_at_partial stream partial line behind begins = absurd (not_clear stream line behind begins.breaks partial.one_line)

stops_at_overlong : (stream : List ℕ) (said : Result Said SessionFault) → IsTooLong stream said → Stops stream
stops_at_overlong stream said too_long line behind begins = absurd (not_whole_and_overlong stream line behind too_long.front too_long.more begins too_long.overlong)

stops_at_line : (stream line behind : List ℕ) → BeginsWith stream line behind → is_skipped (text_of line) ≡ false → Stops stream
stops_at_line stream line behind begins counts other more again =
    let same = one_break stream line behind other more begins.breaks again.breaks in
    ap (λ (l : List ℕ). is_skipped (text_of l)) (sym same.0) ∙ counts

first_skipped : (line rest : List ℕ) → IsSkippedLine line → BeginsWith ((line ++ 10 ∷ []) ++ rest) line rest
first_skipped line rest skipped = record { breaks = record { joined = append_assoc line (10 ∷ []) rest; one_line = skipped.one_line }; short = skipped.short }

no_skipped : (line rest : List ℕ) (stream : List ℕ) → IsSkippedLine line → Stops stream → stream ≡ (line ++ 10 ∷ []) ++ rest → ⊥
no_skipped line rest stream skipped stops whole =
    let counts = stops line rest (subst (λ (s : List ℕ). BeginsWith s line rest) (sym whole) (first_skipped line rest skipped)) in
    let clash : ◌≡◌ {A = Bool} true false = sym skipped.skipped ∙ counts in
    cc

on_stream-cons : (line : List ℕ) (lines : List (List ℕ)) (rest : List ℕ) → on_stream (line ∷ lines) ++ rest ≡ (line ++ 10 ∷ []) ++ (on_stream lines ++ rest)
on_stream-cons line lines rest = append_assoc (line ++ 10 ∷ []) (on_stream lines) rest

one_rest_of : (lines others : List (List ℕ)) (rest more : List ℕ) → AllByRecursion IsSkippedLine lines → AllByRecursion IsSkippedLine others → on_stream lines ++ rest ≡ on_stream others ++ more → Stops rest → Stops more → rest ≡ more
one_rest_of [] [] rest more each all same stops halts = same
one_rest_of [] (other ∷ others) rest more each all same stops halts = absurd (no_skipped other (on_stream others ++ more) rest all.0 stops (same ∙ on_stream-cons other others more))
one_rest_of (line ∷ lines) [] rest more each all same stops halts = absurd (no_skipped line (on_stream lines ++ rest) more each.0 halts (sym same ∙ on_stream-cons line lines rest))
one_rest_of (line ∷ lines) (other ∷ others) rest more each all same stops halts =
    let whole = sym (on_stream-cons line lines rest) ∙ same ∙ on_stream-cons other others more in
    let stream = (line ++ 10 ∷ []) ++ (on_stream lines ++ rest) in
    let begins = first_skipped line (on_stream lines ++ rest) each.0 in
    let again = subst (λ (s : List ℕ). BeginsWith s other (on_stream others ++ more)) (sym whole) (first_skipped other (on_stream others ++ more) all.0) in
    let parts = one_break stream line (on_stream lines ++ rest) other (on_stream others ++ more) begins.breaks again.breaks in
    one_rest_of lines others rest more each.1 all.1 parts.1 stops halts

one_rest : (stream rest more : List ℕ) → Skips stream rest → Skips stream more → Stops rest → Stops more → rest ≡ more
one_rest stream rest more skips again stops halts = one_rest_of skips.lines again.lines rest more skips.each again.each (sym skips.joined ∙ again.joined) stops halts

-- ---- one answer

abbrev Agrees : Option (Result Said SessionFault) → Option (Result Said SessionFault) → Standing → Standing → Type 0
Agrees answer other new next = (answer ≡ other) × (new ≡ next)

wait_and_overflow : (old : Standing) (said : Result Said SessionFault) (new next : Standing) → Waits old new → Overflows old said next → ⊥
wait_and_overflow old said new next waits over =
    let rest = one_rest old.waiting new.waiting over.rest waits.skips over.skips (stops_at_partial new.waiting waits.partial) (stops_at_overlong over.rest said over.too_long) in
    let partial : IsPartial over.rest = subst IsPartial rest waits.partial in
    omega (arith, partial.short, over.too_long.overlong.long, ap length over.too_long.overlong.joined, length-append over.too_long.front over.too_long.more)

wait_and_line : (game : Game) (hands : List Hand) (seat : ℕ) (old : Standing) (said : Result Said SessionFault) (new next : Standing) → Waits old new → Hears game hands seat old said next → ⊥
wait_and_line game hands seat old said new next waits hears =
    let line = hears.line in
    let rest = one_rest old.waiting new.waiting hears.rest waits.skips hears.skips (stops_at_partial new.waiting waits.partial) (stops_at_line hears.rest line.line line.behind line.begins hears.counts) in
    let partial : IsPartial hears.rest = subst IsPartial rest waits.partial in
    not_clear hears.rest line.line line.behind line.begins.breaks partial.one_line

overflow_and_line : (game : Game) (hands : List Hand) (seat : ℕ) (old : Standing) (said other : Result Said SessionFault) (new next : Standing) → Overflows old said new → Hears game hands seat old other next → ⊥
overflow_and_line game hands seat old said other new next over hears =
    let line = hears.line in
    let rest = one_rest old.waiting over.rest hears.rest over.skips hears.skips (stops_at_overlong over.rest said over.too_long) (stops_at_line hears.rest line.line line.behind line.begins hears.counts) in
    let begins : BeginsWith over.rest line.line line.behind = subst (λ (s : List ℕ). BeginsWith s line.line line.behind) (sym rest) line.begins in
    not_whole_and_overlong over.rest line.line line.behind over.too_long.front over.too_long.more begins over.too_long.overlong

two_waits : (old new next : Standing) → Waits old new → Waits old next → new ≡ next
two_waits old new next waits again =
    let rest = one_rest old.waiting new.waiting next.waiting waits.skips again.skips (stops_at_partial new.waiting waits.partial) (stops_at_partial next.waiting again.partial) in
    ap (λ (p : Phase). standing p new.waiting) (waits.same_phase ∙ sym again.same_phase) ∙ ap (λ (l : List ℕ). standing next.phase l) rest

two_lines : AnswersReadOneWay → AllowedWithoutFault → (game : Game) (hands : List Hand) (seat : ℕ) (old : Standing) (said other : Result Said SessionFault) (new next : Standing) → IsGame game
    → Hears game hands seat old said new → Hears game hands seat old other next → Agrees (Some said) (Some other) new next
two_lines law allowed game hands seat old said other new next is hears again =
    let line = hears.line in
    let second = again.line in
    let rest = one_rest old.waiting hears.rest again.rest hears.skips again.skips (stops_at_line hears.rest line.line line.behind line.begins hears.counts) (stops_at_line again.rest second.line second.behind second.begins again.counts) in
    let begins : BeginsWith hears.rest second.line second.behind = subst (λ (s : List ℕ). BeginsWith s second.line second.behind) (sym rest) second.begins in
    let parts = one_break hears.rest line.line line.behind second.line second.behind line.begins.breaks begins.breaks in
    let tells : Says game hands seat old.phase (text_of line.line) other = subst (λ (l : List ℕ). Says game hands seat old.phase (text_of l) other) (sym parts.0) second.says in
    let same = one_saying law allowed game hands seat old.phase (text_of line.line) said other is line.says tells in
    (ap (λ (r : Result Said SessionFault). Some r) same, hears.after ∙ ap (λ (r : Result Said SessionFault). after_line r line.behind) same ∙ ap (after_line other) parts.1 ∙ sym again.after)

one_open : AnswersReadOneWay → AllowedWithoutFault → (game : Game) (hands : List Hand) (seat : ℕ) (old : Standing) (answer other : Option (Result Said SessionFault)) (new next : Standing) → IsGame game
    → AnswersOpen game hands seat old answer new → AnswersOpen game hands seat old other next → Agrees answer other new next
one_open law allowed game hands seat old None None new next is a b = (refl, two_waits old new next a b)
one_open law allowed game hands seat old None (Some other) new next is a (inl b) = absurd (wait_and_overflow old other new next a b)
one_open law allowed game hands seat old None (Some other) new next is a (inr b) = absurd (wait_and_line game hands seat old other new next a b)
one_open law allowed game hands seat old (Some said) None new next is (inl a) b = absurd (wait_and_overflow old said next new b a)
one_open law allowed game hands seat old (Some said) None new next is (inr a) b = absurd (wait_and_line game hands seat old said next new b a)
one_open law allowed game hands seat old (Some said) (Some other) new next is (inl a) (inl b) =
    (ap (λ (r : Result Said SessionFault). Some r) (a.too_long.fault ∙ sym b.too_long.fault), a.closed ∙ sym b.closed)
one_open law allowed game hands seat old (Some said) (Some other) new next is (inl a) (inr b) = absurd (overflow_and_line game hands seat old said other new next a b)
one_open law allowed game hands seat old (Some said) (Some other) new next is (inr a) (inl b) = absurd (overflow_and_line game hands seat old other said next new b a)
one_open law allowed game hands seat old (Some said) (Some other) new next is (inr a) (inr b) = two_lines law allowed game hands seat old said other new next is a b

one_in : AnswersReadOneWay → AllowedWithoutFault → (game : Game) (hands : List Hand) (seat : ℕ) (phase : Phase) (waiting : List ℕ) (answer other : Option (Result Said SessionFault)) (new next : Standing) → IsGame game
    → Answers game hands seat (standing phase waiting) answer new → Answers game hands seat (standing phase waiting) other next → Agrees answer other new next
one_in law allowed game hands seat Greeting waiting answer other new next is a b = one_open law allowed game hands seat (standing Greeting waiting) answer other new next is a b
one_in law allowed game hands seat InPlay waiting answer other new next is a b = one_open law allowed game hands seat (standing InPlay waiting) answer other new next is a b
one_in law allowed game hands seat (Closed fault) waiting answer other new next is a b = (a.0 ∙ sym b.0, a.1 ∙ sym b.1)

pub one_answer : AnswersReadOneWay → AllowedWithoutFault → OneAnswer
one_answer law allowed game hands seat old answer other new next is a b = one_in law allowed game hands seat old.phase old.waiting answer other new next is a b
