-- What is told up to where a match that is over has no further line are all lines of a seat from somewhere on.
use Rattle.std.proofs.Common.{◌≡◌, ◌⊎◌, ℕ, ◌+◌, ◌≤◌, true, List, [], ◌∷◌, ◌++◌, length, map, Option, Some, None, option_to_list, refl, sym, ap, ◌∙◌, subst, inl, inr, append_assoc, append-nil, arith}
use Rattle.std.specs.Option.{option_map}
use Rattle.std.specs.List.{AllByRecursion}
use Rattle.std.proofs.lemmas.List.{length-append, length-map}
use Rattle.game_def.specs.Game.{Game}
use Rattle.slot_log.specs.Hand.{Hand, Match}
use Rattle.slot_log.specs.Dealer.{hands_of, reason_of, with_command, is_match_over}
use Rattle.slot_log.specs.Laws.{CommandsMakeHands}
use Rattle.slot_log.specs.declared.command.Command.{Command}
use Rattle.slot_log.specs.declared.command.Command.TheVariants.{Deal, Act, Away}
use Rattle.slot_log.specs.declared.reason.Reason.{Reason}
use Rattle.slot_log.specs.declared.reason.Reason.TheVariants.{MatchDone}
use Rattle.matchstate.specs.Line.{line_text}
use Rattle.line_cursor.specs.declared.cursor.Cursor.{Cursor}
use Rattle.line_cursor.specs.Cursors.{newest_cursor, next_cursor, cursors_by, cursors}
use Rattle.line_cursor.specs.Laws.{FollowFrom, Follow, NextCursorStays}
use Rattle.line_cursor.specs.Past.{cut_to, hands_at, seen_by, seat_view_at, seat_line_at, PastIsABeginning}
use Rattle.line_cursor.specs.Telling.{CursorsTellTheLines}
use Rattle.line_cursor.proofs.Following.{IsFound, stand}
use Rattle.line_cursor.proofs.Found.{IsFoundAt, found_at, has_come}
use Rattle.line_cursor.proofs.Names.{IsLineOf, line_of}
use Rattle.seat_relay.specs.Relaying.{Line}
use Rattle.seat_relay.specs.Dealing.{lines_after, lines_by as lines_of_command, dealers_lines}
use Rattle.seat_relay.specs.Laws.{IsBack}
use Rattle.dealer_kind.specs.Kind.{Setting}
use Rattle.dealer_kind.specs.Plans.{IsSetting}
use Rattle.stations.specs.Tables.{ShowsBeginning}
use Rattle.node_seats.specs.Telling.{TellsFrom}
use Rattle.node_service.specs.Bots.{IsBehindAll}
use Rattle.joined_lines.specs.Chosen.{lines_by}
use Rattle.joined_lines.specs.Bringing.{text_in}
use Rattle.joined_lines.proofs.Places.{IsPlaceOf}
use Rattle.joined_lines.proofs.Told.{IsPlacedLine, all_lines, AreFrom, are_from}

-- ---- as many lines as places

newest_as_many : (game : Game) (seat : ℕ) (hands : List Hand) → length (lines_after game seat hands) ≡ length (option_to_list (newest_cursor hands))
newest_as_many game seat [] = refl
newest_as_many game seat (newest ∷ before) = refl

by_as_many : (game : Game) (seat : ℕ) (hands : List Hand) (command : Command) (reason : Option Reason) → length (lines_of_command game seat hands command reason) ≡ length (cursors_by game hands command reason)
by_as_many game seat hands command None = newest_as_many game seat (with_command game hands command)
by_as_many game seat hands command (Some reason) = refl

as_many : (game : Game) (count seat : ℕ) (commands : List Command) → length (dealers_lines game count seat commands) ≡ length (cursors game count commands)
unfolding dealers_lines cursors
as_many game count seat [] = refl
as_many game count seat (command ∷ earlier) =
    let hands : List Hand = hands_of game count earlier in
    let reason : Option Reason = reason_of game count hands command in
    let before = as_many game count seat earlier in
    let own = by_as_many game seat hands command reason in
    let lines = length-append (dealers_lines game count seat earlier) (lines_of_command game seat hands command reason) in
    let places = length-append (cursors game count earlier) (cursors_by game hands command reason) in
    omega (arith, before, own, lines, places)

-- ---- once a match is over nothing more takes effect

no_more : (game : Game) (count : ℕ) (hands : List Hand) (command : Command) → is_match_over game count hands ≡ true → reason_of game count hands command ≡ Some MatchDone
no_more game count hands (Deal hand deal) over = rw over refl
no_more game count hands (Act hand index action) over = rw over refl
no_more game count hands (Away hand index) over = rw over refl

abbrev after_by : Option Reason → List Hand → List Hand → List Hand
after_by reason with hands = elim reason [ None ↦ with | Some r ↦ hands ]

pub over_stays : (game : Game) (count : ℕ) (newer earlier : List Command) → is_match_over game count (hands_of game count earlier) ≡ true → hands_of game count (newer ++ earlier) ≡ hands_of game count earlier
unfolding hands_of
over_stays game count [] earlier over = refl
over_stays game count (command ∷ newer) earlier over =
    let hands : List Hand = hands_of game count (newer ++ earlier) in
    let same : hands ≡ hands_of game count earlier = over_stays game count newer earlier over in
    let is : is_match_over game count hands ≡ true = ap (is_match_over game count) same ∙ over in
    ap (λ (o : Option Reason). after_by o (with_command game hands command) hands) (no_more game count hands command is) ∙ same

-- ---- the walk

next_behind_first : (game : Game) (hands : List Hand) (first : Cursor) (front : List Cursor) (m next : Cursor) (back : List Cursor) → FollowFrom game hands first (front ++ m ∷ next ∷ back) → next ≡ next_cursor game hands m
next_behind_first game hands first [] m next back h = h.1.0
next_behind_first game hands first (x ∷ front) m next back h = next_behind_first game hands x front m next back h.1

next_behind : (game : Game) (hands : List Hand) (front : List Cursor) (m next : Cursor) (back : List Cursor) → Follow game hands (front ++ m ∷ next ∷ back) → next ≡ next_cursor game hands m
next_behind game hands [] m next back h = h.0
next_behind game hands (x ∷ front) m next back h = next_behind_first game hands x front m next back h

found_in : (hands : List Hand) (front : List Cursor) (m : Cursor) (back : List Cursor) → AllByRecursion (IsFound hands) (front ++ m ∷ back) → IsFound hands m
found_in hands [] m back all = all.0
found_in hands (x ∷ front) m back all = found_in hands front m back all.1

-- a place to which the match has come has its line
pub has_line : (game : Game) (hands : List Hand) (seat : ℕ) (m : Cursor) → IsFound hands m → seat_line_at game hands seat m.hand m.actions ≡ None → ⊥
has_line game hands seat m found none =
    let at : IsFoundAt (λ hand. Unit {0}) hands m.hand m.actions found.0 = found_at (λ hand. Unit {0}) hands m.hand m.actions found.0 found.1 in
    let some : hands_at hands m.hand m.actions ≡ Some (cut_to at.dealt m.actions ∷ at.before) = found.1 ∙ ap Some at.found_is in
    let e : option_map line_text (seen_by game seat (Some (cut_to at.dealt m.actions ∷ at.before))) ≡ None = ap (λ (o : Option (List Hand)). option_map line_text (seen_by game seat o)) (sym some) ∙ none in
    absurd cc

-- lines that are told end behind the last place of these commands, or at one of them
abbrev EndsAt : Setting → List Command → ℕ → ℕ → Cursor → Type 0
EndsAt setting commands told places next = (told ≡ places) ⊎ IsPlaceOf setting.game setting.title.hands commands next

module _ (make : CommandsMakeHands) (past : PastIsABeginning) (stays : NextCursorStays) (setting : Setting) (is : IsSetting setting) (seat : ℕ) (commands : List Command) where
  abbrev all_hands : List Command → List Hand
  all_hands earlier = hands_of setting.game setting.title.hands earlier

  abbrev all_places : List Cursor
  all_places = cursors setting.game setting.title.hands commands

  next_here : (m : Cursor) (text : List ℕ) (table : Match) → ShowsBeginning setting commands table → seat_line_at table.game table.hands seat m.hand m.actions ≡ Some text
      → next_cursor setting.game (all_hands commands) m ≡ next_cursor table.game table.hands m
  next_here m text table shows told =
      let hands : List Hand = all_hands shows.earlier in
      let here : seat_line_at setting.game hands seat m.hand m.actions ≡ Some text =
      subst (λ (hs : List Hand). seat_line_at setting.game hs seat m.hand m.actions ≡ Some text) shows.table_is.hands
      (subst (λ (game : Game). seat_line_at game table.hands seat m.hand m.actions ≡ Some text) shows.table_is.game told) in
      let view : IsLineOf (seat_view_at setting.game hands seat m.hand m.actions) text = line_of (seat_view_at setting.game hands seat m.hand m.actions) text here in
      let come = has_come setting.game hands seat m.hand m.actions view.shown view.view_is in
      stays setting.game setting.title.hands commands shows.earlier m (come.newest ∷ come.before) shows.is_beginning come.come_to
      ∙ (ap (λ (hs : List Hand). next_cursor setting.game hs m) (sym shows.table_is.hands) ∙ ap (λ (game : Game). next_cursor game table.hands m) (sym shows.table_is.game))

  walk : (front back : List Cursor) (m : Cursor) (texts : List (List ℕ)) (next : Cursor) → all_places ≡ front ++ m ∷ back → TellsFrom (ShowsBeginning setting commands) seat m texts next
      → length texts ≤ length (m ∷ back) → EndsAt setting commands (length texts) (length (m ∷ back)) next
  walk front back m [] next whole tells few = inr (subst (IsPlaceOf setting.game setting.title.hands commands) (sym tells) (record { before = front; after = back; joined = whole }))
  walk front [] m (text ∷ []) next whole tells few = inl refl
  walk front [] m (text ∷ other ∷ texts) next whole tells few = absurd (omega (arith, few))
  walk front (b ∷ back) m (text ∷ texts) next whole (table, (shows, (told, more))) few =
      let follows : b ≡ next_cursor setting.game (all_hands commands) m =
      next_behind setting.game (all_hands commands) front m b back (subst (Follow setting.game (all_hands commands)) whole (stand setting.game setting.title.hands commands).follow) in
      let on : TellsFrom (ShowsBeginning setting commands) seat b texts next =
      subst (λ (c : Cursor). TellsFrom (ShowsBeginning setting commands) seat c texts next) (sym (follows ∙ next_here m text table shows told)) more in
      elim (walk (front ++ m ∷ []) back b texts next (whole ∙ sym (append_assoc front (m ∷ []) (b ∷ back))) on (omega (arith, few)))
      as (λ _. EndsAt setting commands (length (text ∷ texts)) (length (m ∷ b ∷ back)) next) [
        | inl all ↦ inl (omega (arith, all))
        | inr place ↦ inr place
      ]

  -- the match is over by these commands, and nothing is at the place behind the last
  pub over_here : (table : Match) (next : Cursor) → ShowsBeginning setting commands table → IsBehindAll table seat next
      → (is_match_over setting.game setting.title.hands (all_hands commands) ≡ true) × (seat_line_at setting.game (all_hands commands) seat next.hand next.actions ≡ None)
  over_here table next shows behind =
      let hands : List Hand = all_hands shows.earlier in
      let over : is_match_over setting.game setting.title.hands hands ≡ true =
      ap (λ (game : Game). is_match_over game setting.title.hands hands) (sym shows.table_is.game)
      ∙ (ap (λ (count : ℕ). is_match_over table.game count hands) (sym shows.table_is.count) ∙ (ap (is_match_over table.game table.count) (sym shows.table_is.hands) ∙ behind.over)) in
      let same : all_hands commands ≡ hands =
      ap (λ (cs : List Command). hands_of setting.game setting.title.hands cs) shows.is_beginning.1 ∙ over_stays setting.game setting.title.hands shows.is_beginning.0 shows.earlier over in (
        ap (is_match_over setting.game setting.title.hands) same ∙ over,
        ap (λ (hs : List Hand). seat_line_at setting.game hs seat next.hand next.actions) same
            ∙ (ap (λ (hs : List Hand). seat_line_at setting.game hs seat next.hand next.actions) (sym shows.table_is.hands)
            ∙ (ap (λ (game : Game). seat_line_at game table.hands seat next.hand next.actions) (sym shows.table_is.game) ∙ behind.behind)),
      )

  no_place : (next : Cursor) → seat_line_at setting.game (all_hands commands) seat next.hand next.actions ≡ None → IsPlaceOf setting.game setting.title.hands commands next → ⊥
  no_place next none place =
      has_line setting.game (all_hands commands) seat next
      (found_in (all_hands commands) place.before next place.after (subst (AllByRecursion (IsFound (all_hands commands))) place.joined (stand setting.game setting.title.hands commands).found)) none

  no_line_left : (rest : List Line) → length rest ≡ 0 → rest ≡ []
  no_line_left [] e = refl
  no_line_left (line ∷ rest) e = absurd (omega (arith, e))

  -- so these are the last lines
  pub back_told : CursorsTellTheLines → (start next : Cursor) (lines : List Line) → TellsFrom (ShowsBeginning setting commands) seat start (map text_in lines) next → AllByRecursion IsPlacedLine lines
      → seat_line_at setting.game (all_hands commands) seat next.hand next.actions ≡ None → IsBack lines (lines_by setting seat commands)
  back_told law start next [] tells placed none = record { before = lines_by setting seat commands; joined = sym (append-nil (lines_by setting seat commands)) }
  back_told law start next (line ∷ more) tells placed none =
      let lines : List Line = line ∷ more in
      let told = all_lines make past setting is seat commands start lines [] next (subst (λ (ls : List (List ℕ)). TellsFrom (ShowsBeginning setting commands) seat start ls next) (sym (append-nil (map text_in lines))) tells) placed in
      let from : AreFrom make past setting is seat commands start lines = are_from make past setting is seat commands law start line more told in
      let goes = from.goes in
      let count : length (lines_by setting seat commands) ≡ length goes.front + length (lines ++ goes.rest) = ap length goes.joined ∙ length-append goes.front (lines ++ goes.rest) in
      let own : length (lines ++ goes.rest) ≡ length lines + length goes.rest = length-append lines goes.rest in
      let places : length all_places ≡ length from.place.before + length (start ∷ from.place.after) = ap length from.place.joined ∙ length-append from.place.before (start ∷ from.place.after) in
      let same : length (lines_by setting seat commands) ≡ length all_places = as_many setting.game setting.title.hands seat commands in
      let texts : length (map text_in lines) ≡ length lines = length-map lines text_in in
      let front = goes.as_many in
      let none_left : goes.rest ≡ [] =
      elim (walk from.place.before from.place.after start (map text_in lines) next from.place.joined tells (omega (arith, count, own, places, same, texts, front))) as (λ _. goes.rest ≡ []) [
        | inl all ↦ no_line_left goes.rest (omega (arith, all, count, own, places, same, texts, front))
        | inr place ↦ absurd (no_place next none place)
      ] in
      record { before = goes.front; joined = goes.joined ∙ (ap (λ (r : List Line). goes.front ++ (lines ++ r)) none_left ∙ ap (λ (ls : List Line). goes.front ++ ls) (append-nil lines)) }
