-- Over a relay's course each connection brings lines that were told, byte by byte.
use Rattle.std.proofs.Common.{◌≡◌, ℕ, Bool, if◌then◌else◌, List, [], ◌∷◌, ◌++◌, map, Option, Some, None, option_to_list, refl, sym, ap, ◌∙◌, subst, append_assoc, append-nil}
use Rattle.std.proofs.lemmas.Bool.{eq-eqb}
use Rattle.std.specs.List.{AllByRecursion}
use Rattle.game_def.specs.Game.{Game}
use Rattle.betting.specs.Laws.{HandsEnd}
use Rattle.slot_log.specs.Hand.{Hand, Match}
use Rattle.slot_log.specs.Dealer.{hands_of}
use Rattle.slot_log.specs.Laws.{CommandsMakeHands}
use Rattle.slot_log.specs.declared.command.Command.{Command}
use Rattle.node_wires.specs.declared.line.Line.TheVariants.{Peer}
use Rattle.node_wires.specs.Passages.{Passage, came_over}
use Rattle.line_cursor.specs.declared.cursor.Cursor.{Cursor}
use Rattle.line_cursor.specs.Cursors.{next_cursor}
use Rattle.line_cursor.specs.Past.{seat_view_at, seat_line_at, PastIsABeginning}
use Rattle.line_cursor.proofs.Names.{IsLineOf, line_of}
use Rattle.seat_relay.specs.Relaying.{Event, Begins, Ends, Tells, Closes, Says, Pushes}
use Rattle.seat_relay.specs.Laws.{Word, Shows, Over, lines_of, words_over, told_over}
use Rattle.dealer_kind.specs.Kind.{Setting}
use Rattle.dealer_kind.specs.Plans.{IsSetting}
use Rattle.stations.specs.Tables.{ShowsBeginning}
use Rattle.node_seats.specs.declared.bot.Parting.{Parting}
use Rattle.node_seats.specs.declared.bot.Parting.TheVariants as partings
use Rattle.node_seats.specs.Telling.{TellsFrom, text_of, parting_text}
use Rattle.relay_runs.specs.declared.desk.Desk.{Desk}
use Rattle.relay_runs.specs.Heard.{with_feeds, IsHeardOf}
use Rattle.relay_runs.specs.Said.{waits_at}
use Rattle.relay_runs.specs.Course.{Course}
use Rattle.node_service.specs.Bots.{IsBehindAll}
use Rattle.joined_lines.specs.Bringing.{IsOfPlaced, text_in, AreToldFirst}
use Rattle.joined_lines.specs.Coming.{IsOfTold, ComeOfTold}
use Rattle.joined_lines.proofs.Gathering.{all_both, all_back, IsGathered, gathered_none, gathered_as, gathered_both, gathered_one, gathered_tells, node_of, AtEach, at_each_more, Brings}
use Rattle.joined_lines.proofs.Told.{IsPlacedLine, sits}
use Rattle.joined_lines.proofs.Lines.{IsGood, view_is_good}
use Rattle.joined_lines.proofs.Bytes.{AreFirst, AreAll, heard_lines, ended_lines, heard_placed}
use Rattle.joined_lines.proofs.Parts.{words_more, lines_more}

-- a node says that the match is over only where all was told up to the last line
pub record IsToldAll (such : Match → Type 0) (seat : ℕ) (texts : List (List ℕ)) : Type 0 where
  pub start : Cursor
  pub next : Cursor
  pub told : TellsFrom such seat start texts next
  pub table : Match
  pub is : such table
  pub behind : IsBehindAll table seat next

abbrev pub Closing : (Match → Type 0) → ℕ → List Event → Event → Type 0
Closing such seat done (Begins node) = Unit {0}
Closing such seat done (Ends node) = Unit {0}
Closing such seat done (Tells node line) = Unit {0}
Closing such seat done (Closes node) = IsToldAll such seat (map text_in (told_over node done))
Closing such seat done (Says text) = Unit {0}
Closing such seat done (Pushes node) = Unit {0}

words_closed : (node : ℕ) (done : List Event) → words_over node (done ++ Closes node ∷ []) ≡ words_over node done ++ Over ∷ []
words_closed node done = words_more node [] done (Closes node) ∙ ap (λ (b : Bool). if b then words_over node done ++ Over ∷ [] else words_over node done) (eq-eqb node node refl)

pub not_both : Some partings.Other ≡ Some partings.Over → ⊥
not_both e = cc

pub not_wait_over : Some partings.Wait ≡ Some partings.Over → ⊥
not_wait_over e = cc

pub not_none_over : None ≡ Some partings.Over → ⊥
not_none_over e = cc

-- ---- lines off tables of one match

module _ (ends : HandsEnd) (make : CommandsMakeHands) (past : PastIsABeginning) (setting : Setting) (is : IsSetting setting) (seat : ℕ) where
  good_here : (commands : List Command) (at : Cursor) (text : List ℕ) (table : Match) → ShowsBeginning setting commands table → seat_line_at table.game table.hands seat at.hand at.actions ≡ Some text → IsGood text
  good_here commands at text table shows told =
      let hands : List Hand = hands_of setting.game setting.title.hands shows.earlier in
      let here : seat_line_at setting.game hands seat at.hand at.actions ≡ Some text =
      subst (λ (hs : List Hand). seat_line_at setting.game hs seat at.hand at.actions ≡ Some text) shows.table_is.hands
      (subst (λ (game : Game). seat_line_at game table.hands seat at.hand at.actions ≡ Some text) shows.table_is.game told) in
      let view : IsLineOf (seat_view_at setting.game hands seat at.hand at.actions) text = line_of (seat_view_at setting.game hands seat at.hand at.actions) text here in
      subst IsGood view.line_is
      (view_is_good ends make past setting.game setting.title.hands shows.earlier seat at.hand at.actions view.shown is.is_game is.most (λ number. sits setting seat number is) view.view_is)

  pub all_good : (commands : List Command) (at : Cursor) (texts : List (List ℕ)) (next : Cursor) → TellsFrom (ShowsBeginning setting commands) seat at texts next → AllByRecursion IsGood texts
  all_good commands at [] next tells = tt
  all_good commands at (text ∷ texts) next (table, (shows, (told, more))) = (good_here commands at text table shows told, all_good commands (next_cursor table.game table.hands at) texts next more)

  -- of what came the lines are the first of those that were told
  first_told : (commands : List Command) (start next : Cursor) (lines : List (List ℕ)) (words : List Word) → TellsFrom (ShowsBeginning setting commands) seat start lines next → AreFirst words lines
      → AreToldFirst (ShowsBeginning setting commands) seat (map text_in (lines_of words))
  first_told commands start next lines words tells first =
      record { start = start; next = next; further = first.further; told = subst (λ (ls : List (List ℕ)). TellsFrom (ShowsBeginning setting commands) seat start ls next) first.joined tells }

  -- ---- what is so at each event, by what came

  whole_bytes : (such : Match → Type 0) (came waiting : List ℕ) (words : List Word) (told : IsOfTold such seat came) (heard : IsHeardOf came waiting words)
      → with_feeds heard.raws ++ (waiting ++ told.lost) ≡ text_of told.lines ++ parting_text told.parting
  whole_bytes such came waiting words told heard = sym (append_assoc (with_feeds heard.raws) waiting told.lost) ∙ (ap (λ (bytes : List ℕ). bytes ++ told.lost) (sym heard.whole) ∙ sym told.bytes)

  pub heard_told : (such : Match → Type 0) (came waiting : List ℕ) (words : List Word) → IsOfTold such seat came → IsHeardOf came waiting words
      → IsGathered setting such (λ commands. AreToldFirst (ShowsBeginning setting commands) seat (map text_in (lines_of words)))
  heard_told such came waiting words told heard =
      gathered_as setting such (λ commands. TellsFrom (ShowsBeginning setting commands) seat told.start told.lines told.next)
      (λ commands. AreToldFirst (ShowsBeginning setting commands) seat (map text_in (lines_of words)))
      (λ commands tells.
      first_told commands told.start told.next told.lines words tells
      (heard_lines told.lines told.parting heard.raws (waiting ++ told.lost) words (all_good commands told.start told.lines told.next tells) (whole_bytes such came waiting words told heard) heard.heard))
      (gathered_tells setting such seat told.start told.lines told.next told.told)

  -- a connection over which it was told that the match is over had brought all lines up to the last
  all_told : (commands : List Command) (such : Match → Type 0) (came waiting : List ℕ) (words : List Word) (told : IsOfTold such seat came) → IsHeardOf came waiting (words ++ Over ∷ [])
      → TellsFrom (ShowsBeginning setting commands) seat told.start told.lines told.next → AreAll words told.lines told.parting
  all_told commands such came waiting words told heard tells =
      ended_lines told.lines told.parting heard.raws (waiting ++ told.lost) words (all_good commands told.start told.lines told.next tells) (whole_bytes such came waiting (words ++ Over ∷ []) told heard) heard.heard

  told_all : (commands : List Command) (start next : Cursor) (lines : List (List ℕ)) (words : List Word) (table : Match) → TellsFrom (ShowsBeginning setting commands) seat start lines next → lines ≡ map text_in (lines_of words)
      → ShowsBeginning setting commands table → IsBehindAll table seat next → IsToldAll (ShowsBeginning setting commands) seat (map text_in (lines_of words))
  told_all commands start next lines words table tells same shows behind =
      record { start = start; next = next; told = subst (λ (ls : List (List ℕ)). TellsFrom (ShowsBeginning setting commands) seat start ls next) same tells; table = table; is = shows; behind = behind }

  ended_by : (such : Match → Type 0) (came waiting : List ℕ) (words : List Word) (told : IsOfTold such seat came) (parting : Option Parting) → told.parting ≡ parting → IsHeardOf came waiting (words ++ Over ∷ [])
      → IsGathered setting such (λ commands. IsToldAll (ShowsBeginning setting commands) seat (map text_in (lines_of words)))
  ended_by such came waiting words told (Some partings.Over) is_over heard =
      let over = told.over is_over in
      gathered_as setting such (λ commands. TellsFrom (ShowsBeginning setting commands) seat told.start told.lines told.next × ShowsBeginning setting commands over.0)
      (λ commands. IsToldAll (ShowsBeginning setting commands) seat (map text_in (lines_of words)))
      (λ commands both.
      told_all commands told.start told.next told.lines words over.0 both.0 (all_told commands such came waiting words told heard both.0).joined both.1 over.1.1)
      (gathered_both setting such (λ commands. TellsFrom (ShowsBeginning setting commands) seat told.start told.lines told.next) (λ commands. ShowsBeginning setting commands over.0)
      (gathered_tells setting such seat told.start told.lines told.next told.told) (gathered_one setting such over.0 over.1.0))
  ended_by such came waiting words told (Some partings.Other) is_other heard =
      gathered_as setting such (λ commands. TellsFrom (ShowsBeginning setting commands) seat told.start told.lines told.next)
      (λ commands. IsToldAll (ShowsBeginning setting commands) seat (map text_in (lines_of words)))
      (λ commands tells. let all = all_told commands such came waiting words told heard tells in let wrong : Some partings.Other ≡ Some partings.Over = sym is_other ∙ all.over in absurd (not_both wrong))
      (gathered_tells setting such seat told.start told.lines told.next told.told)
  ended_by such came waiting words told (Some partings.Wait) is_wait heard =
      gathered_as setting such (λ commands. TellsFrom (ShowsBeginning setting commands) seat told.start told.lines told.next)
      (λ commands. IsToldAll (ShowsBeginning setting commands) seat (map text_in (lines_of words)))
      (λ commands tells. let all = all_told commands such came waiting words told heard tells in let wrong : Some partings.Wait ≡ Some partings.Over = sym is_wait ∙ all.over in absurd (not_wait_over wrong))
      (gathered_tells setting such seat told.start told.lines told.next told.told)
  ended_by such came waiting words told None is_none heard =
      gathered_as setting such (λ commands. TellsFrom (ShowsBeginning setting commands) seat told.start told.lines told.next)
      (λ commands. IsToldAll (ShowsBeginning setting commands) seat (map text_in (lines_of words)))
      (λ commands tells. let all = all_told commands such came waiting words told heard tells in let wrong : None ≡ Some partings.Over = sym is_none ∙ all.over in absurd (not_none_over wrong))
      (gathered_tells setting such seat told.start told.lines told.next told.told)

  -- ---- events

  -- what is so of an event by what came over the connection of its node
  abbrev pub IsSoBy : (such : Match → Type 0) → (List Command → List Event → Event → Type 0) → Type 0
  IsSoBy such So = (done : List Event) (e : Event) (came waiting : List ℕ) → IsOfTold such seat came → IsHeardOf came waiting (words_over (node_of e) (done ++ e ∷ [])) → IsGathered setting such (λ commands. So commands done e)

  pub brings_so : (such : Match → Type 0) → IsSoBy such (λ commands. Brings (ShowsBeginning setting commands) seat)
  brings_so such done e came waiting told heard = heard_told such came waiting (words_over (node_of e) (done ++ e ∷ [])) told heard

  pub closes_so : (such : Match → Type 0) → IsSoBy such (λ commands. Closing (ShowsBeginning setting commands) seat)
  closes_so such done (Begins node) came waiting told heard = gathered_none setting such (λ commands. Unit {0}) (λ commands. tt)
  closes_so such done (Ends node) came waiting told heard = gathered_none setting such (λ commands. Unit {0}) (λ commands. tt)
  closes_so such done (Tells node line) came waiting told heard = gathered_none setting such (λ commands. Unit {0}) (λ commands. tt)
  closes_so such done (Closes node) came waiting told heard = ended_by such came waiting (words_over node done) told told.parting refl (subst (IsHeardOf came waiting) (words_closed node done) heard)
  closes_so such done (Says text) came waiting told heard = gathered_none setting such (λ commands. Unit {0}) (λ commands. tt)
  closes_so such done (Pushes node) came waiting told heard = gathered_none setting such (λ commands. Unit {0}) (λ commands. tt)

  module _ (such : Match → Type 0) (So : List Command → List Event → Event → Type 0) (so_by : IsSoBy such So) where
    abbrev pub EachBy : List Event → List Command → Type 0
    EachBy events commands = AtEach (So commands) [] events

    one_event : (events : List Event) (event : Option Event) → IsGathered setting such (EachBy events)
        → ((e : Event) → event ≡ Some e → IsGathered setting such (λ commands. So commands events e))
        → IsGathered setting such (EachBy (events ++ option_to_list event))
    one_event events None before here = subst (λ (l : List Event). IsGathered setting such (EachBy l)) (sym (append-nil events)) before
    one_event events (Some e) before here =
        gathered_as setting such (λ commands. EachBy events commands × So commands events e)
        (EachBy (events ++ e ∷ [])) (λ commands both. at_each_more (So commands) [] events e both.0 both.1)
        (gathered_both setting such (EachBy events) (λ commands. So commands events e) before (here e refl))

    earlier_come : (before after : List Passage) (passage : Option Passage) → after ≡ before ++ option_to_list passage → ComeOfTold such seat after → ComeOfTold such seat before
    earlier_come before after passage whole come node front behind e =
        come node front (behind ++ option_to_list passage) (whole ∙ (ap (λ (l : List Passage). l ++ option_to_list passage) e ∙ append_assoc front behind (option_to_list passage)))

    pub course_so : (desk : Desk) (passed : List Passage) → Course desk passed → ComeOfTold such seat passed → IsGathered setting such (EachBy desk.relay.events)
    course_so desk passed (Course.begin at none explains) come =
        subst (λ (l : List Event). IsGathered setting such (EachBy l)) (sym none) (gathered_none setting such (EachBy []) (λ commands. tt))
    course_so desk passed (Course.step old new before after course next explains) come =
        let earlier = course_so old before course (earlier_come before after next.passage next.passed come) in
        subst (λ (l : List Event). IsGathered setting such (EachBy l)) (sym next.happened)
        (one_event old.relay.events next.event earlier (λ e is_e.
        let whole : new.relay.events ≡ old.relay.events ++ e ∷ [] = next.happened ∙ ap (λ (o : Option Event). old.relay.events ++ option_to_list o) is_e in
        let heard : IsHeardOf (came_over after (Peer (node_of e))) (waits_at new.from_nodes.items (node_of e)) (words_over (node_of e) (old.relay.events ++ e ∷ [])) =
        subst (λ (l : List Event). IsHeardOf (came_over after (Peer (node_of e))) (waits_at new.from_nodes.items (node_of e)) (words_over (node_of e) l)) whole (explains.heard.nodes (node_of e)) in
        so_by old.relay.events e (came_over after (Peer (node_of e))) (waits_at new.from_nodes.items (node_of e)) (come (node_of e) after [] (sym (append-nil after))) heard))

-- ---- places

one_placed : (events : List Event) (e : Event) → AllByRecursion IsPlacedLine (told_over (node_of e) (events ++ e ∷ [])) → IsOfPlaced e
one_placed events (Begins node) all = tt
one_placed events (Ends node) all = tt
one_placed events (Tells node line) all =
    let words : List Word = words_over node events in
    let last : told_over node (events ++ Tells node line ∷ []) ≡ lines_of words ++ line ∷ [] =
    ap lines_of (words_more node [] events (Tells node line)) ∙ (ap (λ (b : Bool). lines_of (if b then words ++ Shows line ∷ [] else words)) (eq-eqb node node refl) ∙ lines_more words line) in
    (all_back IsPlacedLine (lines_of words) (line ∷ []) (subst (AllByRecursion IsPlacedLine) last all)).0
one_placed events (Closes node) all = tt
one_placed events (Says text) all = tt
one_placed events (Pushes node) all = tt

event_placed : (events : List Event) (event : Option Event) → AllByRecursion IsOfPlaced events → ((e : Event) → event ≡ Some e → AllByRecursion IsPlacedLine (told_over (node_of e) (events ++ e ∷ [])))
    → AllByRecursion IsOfPlaced (events ++ option_to_list event)
event_placed events None before here = subst (AllByRecursion IsOfPlaced) (sym (append-nil events)) before
event_placed events (Some e) before here = all_both IsOfPlaced events (e ∷ []) before (one_placed events e (here e refl), tt)

pub course_placed : (desk : Desk) (passed : List Passage) → Course desk passed → AllByRecursion IsOfPlaced desk.relay.events
course_placed desk passed (Course.begin at none explains) = subst (AllByRecursion IsOfPlaced) (sym none) tt
course_placed desk passed (Course.step old new before after course next explains) =
    subst (AllByRecursion IsOfPlaced) (sym next.happened)
    (event_placed old.relay.events next.event (course_placed old before course) (λ e is_e.
    let whole : new.relay.events ≡ old.relay.events ++ e ∷ [] = next.happened ∙ ap (λ (o : Option Event). old.relay.events ++ option_to_list o) is_e in
    let heard = explains.heard.nodes (node_of e) in
    subst (λ (l : List Event). AllByRecursion IsPlacedLine (told_over (node_of e) l)) whole (heard_placed heard.raws (words_over (node_of e) new.relay.events) heard.heard)))
