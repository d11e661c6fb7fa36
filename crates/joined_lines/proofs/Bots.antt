-- What came to a bot over a connection are lines of the one dealer, and perhaps what is told behind them.
use Rattle.std.proofs.Common.{◌≡◌, ◌≢◌, ◌⊎◌, inl, inr, ℕ, List, [], ◌∷◌, ◌++◌, map, Option, Some, None, refl, sym, ap, ◌∙◌, subst, append-nil}
use Rattle.std.specs.List.{AllByRecursion}
use Rattle.betting.specs.Laws.{HandsEnd}
use Rattle.slot_log.specs.Hand.{Match}
use Rattle.slot_log.specs.Dealer.{hands_of}
use Rattle.slot_log.specs.Laws.{CommandsMakeHands}
use Rattle.slot_log.specs.declared.command.Command.{Command}
use Rattle.line_cursor.specs.declared.cursor.Cursor.{Cursor}
use Rattle.line_cursor.specs.Laws.{NextCursorStays}
use Rattle.line_cursor.specs.Past.{seat_line_at, PastIsABeginning}
use Rattle.line_cursor.specs.Telling.{AreTold, CursorsTellTheLines, FirstCursorsTellABeginning}
use Rattle.seat_relay.specs.Relaying.{Line, with_place}
use Rattle.dealer_kind.specs.Kind.{Setting}
use Rattle.dealer_kind.specs.Plans.{IsSetting}
use Rattle.stations.specs.Tables.{ShowsBeginning}
use Rattle.node_seats.specs.declared.bot.Parting.{Parting}
use Rattle.node_seats.specs.declared.bot.Parting.TheVariants.{Over, Other, Wait}
use Rattle.node_seats.specs.declared.words.Asked.{Asked}
use Rattle.node_seats.specs.declared.words.Asked.TheVariants as asks
use Rattle.node_seats.specs.Words.{Reading, read_of}
use Rattle.node_seats.specs.Lines.{line_of}
use Rattle.node_seats.specs.Telling.{TellsFrom, text_of, parting_text}
use Rattle.relay_runs.specs.Said.{bytes_of_lines}
use Rattle.joined_lines.specs.Bringing.{text_in}
use Rattle.node_service.specs.Bots.{StartsBy}
use Rattle.joined_lines.specs.Chosen.{lines_by}
use Rattle.joined_lines.specs.Coming.{IsOverBy, IsOfTold, BeginsAt, BotConnection, BringsTold, AreLast, first_text, IsAskedFor, BringsLines}
use Rattle.joined_lines.proofs.Gathering.{IsGathered, gathered_none, gathered_as, gathered_both, gathered_one, gathered_tells}
use Rattle.joined_lines.proofs.Told.{IsPlacedLine, all_lines, part_told}
use Rattle.joined_lines.proofs.Lines.{IsGood}
use Rattle.joined_lines.proofs.Courses.{all_good, not_both, not_wait_over, not_none_over}
use Rattle.joined_lines.proofs.Ending.{over_here, back_told}
use Rattle.joined_lines.proofs.Starts.{line_at_start, told_by_all}

-- ---- texts as lines

-- each text with the place that it names
abbrev with_places : (texts : List (List ℕ)) → AllByRecursion IsGood texts → List Line
with_places [] good = []
with_places (text ∷ texts) good = with_place text good.0.place ∷ with_places texts good.1

none_placed : (texts : List (List ℕ)) (good : AllByRecursion IsGood texts) → texts ≡ [] → with_places texts good ≡ []
none_placed [] good none = refl
none_placed (text ∷ texts) good none = absurd cc

texts_same : (texts : List (List ℕ)) (good : AllByRecursion IsGood texts) → map text_in (with_places texts good) ≡ texts
texts_same [] good = refl
texts_same (text ∷ texts) good = ap (λ (ts : List (List ℕ)). text ∷ ts) (texts_same texts good.1)

all_placed : (texts : List (List ℕ)) (good : AllByRecursion IsGood texts) → AllByRecursion IsPlacedLine (with_places texts good)
all_placed [] good = tt
all_placed (text ∷ texts) good = (good.0.placed, all_placed texts good.1)

bytes_same : (texts : List (List ℕ)) (good : AllByRecursion IsGood texts) → bytes_of_lines (with_places texts good) ≡ text_of texts
bytes_same [] good = refl
bytes_same (text ∷ texts) good = ap (λ (more : List ℕ). line_of text ++ more) (bytes_same texts good.1)

-- ---- where they begin

module _ (make : CommandsMakeHands) (past : PastIsABeginning) (first : FirstCursorsTellABeginning) (setting : Setting) (is : IsSetting setting) (seat : ℕ) (commands : List Command) (start next : Cursor) where
  named_first : (named : List ℕ) (table : Match) → ShowsBeginning setting commands table → seat_line_at table.game table.hands seat start.hand start.actions ≡ Some named
      → (given : List Line) → TellsFrom (ShowsBeginning setting commands) seat start (map text_in given) next → given ≢ [] → first_text given ≡ Some named
  named_first named table shows starts [] tells some = absurd (some refl)
  named_first named table shows starts (line ∷ more) (other, (shows_too, (told, rest))) some =
      sym (told_by_all setting is seat commands start other line.text shows_too told) ∙ told_by_all setting is seat commands start table named shows starts

  asked_for : (asked : Asked) (named : List ℕ) (table : Match) → ShowsBeginning setting commands table → StartsBy table seat asked named start → (given : List Line)
      → TellsFrom (ShowsBeginning setting commands) seat start (map text_in given) next → AllByRecursion IsPlacedLine given → given ≢ [] → IsAskedFor asked named given (lines_by setting seat commands)
  asked_for asks.Nothing named table shows starts given tells placed some = tt
  asked_for asks.First named table shows starts given tells placed some =
      let whole : TellsFrom (ShowsBeginning setting commands) seat start (map text_in given ++ []) next =
      subst (λ (ts : List (List ℕ)). TellsFrom (ShowsBeginning setting commands) seat start ts next) (sym (append-nil (map text_in given))) tells in
      first setting.game setting.title.hands seat commands given
      (subst (λ (at : Cursor). AreTold setting.game setting.title.hands seat commands at given) starts (all_lines make past setting is seat commands start given [] next whole placed))
  asked_for asks.Newest named table shows starts given tells placed some = tt
  asked_for asks.Line named table shows starts given tells placed some = named_first named table shows starts given tells some
  asked_for asks.Other named table shows starts given tells placed some = absurd starts

-- ---- one bot, and all

abbrev HasBegun : List (List ℕ) → Option Parting → Type 0
HasBegun lines parting = (lines ≢ []) ⊎ (parting ≡ Some Over)

not_empty : (line : List ℕ) (more : List (List ℕ)) → line ∷ more ≢ []
not_empty line more e = cc

not_begun : (lines : List (List ℕ)) (parting : Option Parting) → lines ≡ [] → (parting ≡ Some Over → ⊥) → HasBegun lines parting → ⊥
not_begun lines parting none goes_on (inl some) = some none
not_begun lines parting none goes_on (inr over) = goes_on over

begun_or_not : (lines : List (List ℕ)) (parting : Option Parting) → HasBegun lines parting ⊎ (HasBegun lines parting → ⊥)
begun_or_not (line ∷ more) parting = inl (inl (not_empty line more))
begun_or_not [] (Some Over) = inl (inr refl)
begun_or_not [] (Some Other) = inr (not_begun [] (Some Other) refl not_both)
begun_or_not [] (Some Wait) = inr (not_begun [] (Some Wait) refl not_wait_over)
begun_or_not [] None = inr (not_begun [] None refl not_none_over)

module _ (ends : HandsEnd) (make : CommandsMakeHands) (past : PastIsABeginning) (stays : NextCursorStays) (cursors : CursorsTellTheLines) (first_cursors : FirstCursorsTellABeginning) (setting : Setting) (is : IsSetting setting)
    (such : Match → Type 0) where
  module _ (bot : BotConnection) (brought : BringsTold such bot) where
    abbrev told : IsOfTold such bot.seat bot.came
    told = brought.come

    abbrev words : Reading
    words = read_of bot.said

    abbrev TellsBy : List Command → Type 0
    TellsBy commands = TellsFrom (ShowsBeginning setting commands) bot.seat told.start told.lines told.next

    abbrev OverBy : List Command → Type 0
    OverBy commands = told.parting ≡ Some Over → IsOverBy (ShowsBeginning setting commands) bot.seat told.next

    abbrev BegunBy : List Command → Type 0
    BegunBy commands = HasBegun told.lines told.parting → BeginsAt (ShowsBeginning setting commands) bot.seat words told.start

    last_lines : (commands : List Command) (given : List Line) → TellsFrom (ShowsBeginning setting commands) bot.seat told.start (map text_in given) told.next → AllByRecursion IsPlacedLine given
        → IsOverBy (ShowsBeginning setting commands) bot.seat told.next → BeginsAt (ShowsBeginning setting commands) bot.seat words told.start → AreLast setting commands bot.seat given
    last_lines commands given tells placed end begins =
        let here = over_here make past stays setting is bot.seat commands end.0 told.next end.1.0 end.1.1 in
        record {
          over = here.0;
          some = λ none.
              let stays_there : told.next ≡ told.start =
              subst (λ (ts : List (List ℕ)). TellsFrom (ShowsBeginning setting commands) bot.seat told.start ts told.next) (ap (λ (ls : List Line). map text_in ls) none) tells in
              line_at_start setting is bot.seat commands words told.start begins here.0
              (subst (λ (at : Cursor). seat_line_at setting.game (hands_of setting.game setting.title.hands commands) bot.seat at.hand at.actions ≡ None) stays_there here.1);
          last = back_told make past stays setting is bot.seat commands cursors told.start told.next given tells placed here.1;
        }

    brings_lines : (commands : List Command) → TellsBy commands → OverBy commands → BegunBy commands → BringsLines setting commands bot
    brings_lines commands tells over begun =
        let good : AllByRecursion IsGood told.lines = all_good ends make past setting is bot.seat commands told.start told.lines told.next tells in
        let given : List Line = with_places told.lines good in
        let placed : AllByRecursion IsPlacedLine given = all_placed told.lines good in
        let so : TellsFrom (ShowsBeginning setting commands) bot.seat told.start (map text_in given) told.next =
        subst (λ (ts : List (List ℕ)). TellsFrom (ShowsBeginning setting commands) bot.seat told.start ts told.next) (sym (texts_same told.lines good)) tells in
        let first : TellsFrom (ShowsBeginning setting commands) bot.seat told.start (map text_in given ++ []) told.next =
        subst (λ (ts : List (List ℕ)). TellsFrom (ShowsBeginning setting commands) bot.seat told.start ts told.next) (sym (append-nil (map text_in given))) so in
        record {
          given = given;
          are = part_told make past setting is bot.seat commands cursors given (record { start = told.start; next = told.next; further = []; told = first }) placed;
          parting = told.parting;
          over = λ e. last_lines commands given so placed (over e) (begun (inr e));
          asked = λ some.
              let begins = begun (inl (λ none. some (none_placed told.lines good none))) in
              asked_for make past first_cursors setting is bot.seat commands told.start told.next words.asked words.named begins.0 begins.1.0 begins.1.1 given so placed some;
          alone = λ e. none_placed told.lines good (brought.alone e);
          refused = λ e. brought.refused e;
          put_off = λ e. brought.put_off e;
          lost = told.lost;
          bytes = ap (λ (b : List ℕ). b ++ parting_text told.parting) (bytes_same told.lines good) ∙ told.bytes;
        }

    over_gathered : (parting : Option Parting) → told.parting ≡ parting → IsGathered setting such OverBy
    over_gathered None is_none = gathered_none setting such OverBy (λ commands e. let wrong : None ≡ Some Over = sym is_none ∙ e in absurd (not_none_over wrong))
    over_gathered (Some Over) is_over =
        let over = told.over is_over in
        gathered_as setting such (λ commands. ShowsBeginning setting commands over.0) OverBy (λ commands shows e. (over.0, (shows, over.1.1))) (gathered_one setting such over.0 over.1.0)
    over_gathered (Some Other) is_other = gathered_none setting such OverBy (λ commands e. let wrong : Some Other ≡ Some Over = sym is_other ∙ e in absurd (not_both wrong))
    over_gathered (Some Wait) is_wait = gathered_none setting such OverBy (λ commands e. let wrong : Some Wait ≡ Some Over = sym is_wait ∙ e in absurd (not_wait_over wrong))

    begun_gathered : HasBegun told.lines told.parting ⊎ (HasBegun told.lines told.parting → ⊥) → IsGathered setting such BegunBy
    begun_gathered (inl has) =
        let begins = brought.begins has in
        gathered_as setting such (λ commands. ShowsBeginning setting commands begins.0) BegunBy (λ commands shows too. (begins.0, (shows, begins.1.1))) (gathered_one setting such begins.0 begins.1.0)
    begun_gathered (inr has_not) = gathered_none setting such BegunBy (λ commands has. absurd (has_not has))

    one_bot : IsGathered setting such (λ commands. BringsLines setting commands bot)
    one_bot =
        gathered_as setting such (λ commands. TellsBy commands × (OverBy commands × BegunBy commands)) (λ commands. BringsLines setting commands bot) (λ commands all. brings_lines commands all.0 all.1.0 all.1.1)
        (gathered_both setting such TellsBy (λ commands. OverBy commands × BegunBy commands) (gathered_tells setting such bot.seat told.start told.lines told.next told.told)
        (gathered_both setting such OverBy BegunBy (over_gathered told.parting refl) (begun_gathered (begun_or_not told.lines told.parting))))

  pub all_bots : (bots : List BotConnection) → AllByRecursion (BringsTold such) bots → IsGathered setting such (λ commands. AllByRecursion (BringsLines setting commands) bots)
  all_bots [] brought = gathered_none setting such (λ commands. Unit {0}) (λ commands. tt)
  all_bots (bot ∷ bots) brought =
      gathered_both setting such (λ commands. BringsLines setting commands bot) (λ commands. AllByRecursion (BringsLines setting commands) bots) (one_bot bot brought.0) (all_bots bots brought.1)
