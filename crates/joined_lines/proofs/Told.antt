-- What a seat is told off tables of one match are its lines, without a gap.
use Rattle.std.proofs.Common.{◌≡◌, ℕ, zero, ◌<◌, List, [], ◌∷◌, ◌++◌, map, Some, refl, ap, ◌∙◌, subst, arith}
use Rattle.std.proofs.Math.Nat.{mod-lt}
use Rattle.std.specs.List.{AllByRecursion}
use Rattle.game_def.specs.Game.{Game}
use Rattle.slot_log.specs.Hand.{Hand, Match}
use Rattle.slot_log.specs.Dealer.{hands_of}
use Rattle.slot_log.specs.Laws.{CommandsMakeHands}
use Rattle.slot_log.specs.declared.command.Command.{Command}
use Rattle.matchstate.specs.View.{position_of}
use Rattle.line_cursor.specs.declared.cursor.Cursor.{Cursor}
use Rattle.line_cursor.specs.Cursors.{next_cursor}
use Rattle.line_cursor.specs.Past.{seat_view_at, seat_line_at, PastIsABeginning}
use Rattle.line_cursor.specs.Telling.{IsTold, AreTold, GoesOn, CursorsTellTheLines}
use Rattle.line_cursor.proofs.Found.{has_come}
use Rattle.line_cursor.proofs.Names.{IsLineOf, line_of}
use Rattle.seat_relay.specs.Places.{IsPlaced}
use Rattle.seat_relay.specs.Relaying.{Line}
use Rattle.seat_relay.specs.Laws.{IsPart}
use Rattle.dealer_kind.specs.Kind.{Setting}
use Rattle.dealer_kind.specs.Plans.{IsSetting}
use Rattle.stations.specs.Tables.{ShowsBeginning}
use Rattle.node_seats.specs.Telling.{TellsFrom}
use Rattle.joined_lines.specs.Chosen.{lines_by}
use Rattle.joined_lines.specs.Bringing.{text_in, AreToldFirst}
use Rattle.joined_lines.proofs.Places.{IsPlaceOf, is_place}
use Rattle.joined_lines.proofs.Placed.{IsShown, line_once, is_shown}

-- the line has the place that its text names
abbrev pub IsPlacedLine : Line → Type 0
IsPlacedLine line = IsPlaced line.text line.place

pub sits : (setting : Setting) (seat number : ℕ) → IsSetting setting → position_of setting.game.players number seat < setting.game.players
sits setting seat number is = let few = is.is_game.least_players in let some : zero < setting.game.players = omega arith in mod-lt _ some

module _ (make : CommandsMakeHands) (past : PastIsABeginning) (setting : Setting) (is : IsSetting setting) (seat : ℕ) (commands : List Command) where
  -- one line, off a table that shows a beginning of the commands
  one_line : (at : Cursor) (line : Line) (table : Match) → ShowsBeginning setting commands table → seat_line_at table.game table.hands seat at.hand at.actions ≡ Some line.text → IsPlacedLine line
      → IsTold setting.game setting.title.hands seat commands at line
  one_line at line table shows told placed =
      let hands : List Hand = hands_of setting.game setting.title.hands shows.earlier in
      let here : seat_line_at setting.game hands seat at.hand at.actions ≡ Some line.text =
      subst (λ (hs : List Hand). seat_line_at setting.game hs seat at.hand at.actions ≡ Some line.text) shows.table_is.hands
      (subst (λ (game : Game). seat_line_at game table.hands seat at.hand at.actions ≡ Some line.text) shows.table_is.game told) in
      let view : IsLineOf (seat_view_at setting.game hands seat at.hand at.actions) line.text = line_of (seat_view_at setting.game hands seat at.hand at.actions) line.text here in
      let shown : IsShown view.shown =
      is_shown make past setting.game setting.title.hands shows.earlier seat at.hand at.actions view.shown is.is_game is.most (λ number. sits setting seat number is) view.view_is in
      record { earlier = shows.earlier; is_beginning = shows.is_beginning; view = view.shown; found = view.view_is; line_is = line_once view.shown shown line view.line_is placed }

  next_there : (at : Cursor) (table : Match) (shows : ShowsBeginning setting commands table) → next_cursor table.game table.hands at ≡ next_cursor setting.game (hands_of setting.game setting.title.hands shows.earlier) at
  next_there at table shows = ap (λ (game : Game). next_cursor game table.hands at) shows.table_is.game ∙ ap (λ (hs : List Hand). next_cursor setting.game hs at) shows.table_is.hands

  pub all_lines : (at : Cursor) (lines : List Line) (further : List (List ℕ)) (next : Cursor) → TellsFrom (ShowsBeginning setting commands) seat at (map text_in lines ++ further) next → AllByRecursion IsPlacedLine lines
      → AreTold setting.game setting.title.hands seat commands at lines
  unfolding one_line
  all_lines at [] further next tells placed = tt
  all_lines at (line ∷ lines) further next (table, (shows, (told, more))) placed = (
    one_line at line table shows told placed.0,
    all_lines (next_cursor setting.game (hands_of setting.game setting.title.hands shows.earlier) at) lines further next
        (subst (λ (c : Cursor). TellsFrom (ShowsBeginning setting commands) seat c (map text_in lines ++ further) next) (next_there at table shows) more) placed.1,
  )

  -- lines that begin somewhere begin at one of the match's places, and are its lines from there on
  pub record AreFrom (at : Cursor) (lines : List Line) : Type 0 where
    pub place : IsPlaceOf setting.game setting.title.hands commands at
    pub goes : GoesOn (lines_by setting seat commands) lines place.before

  pub are_from : CursorsTellTheLines → (at : Cursor) (line : Line) (lines : List Line) → AreTold setting.game setting.title.hands seat commands at (line ∷ lines) → AreFrom at (line ∷ lines)
  are_from law at line lines told =
      let one = told.0 in
      let come = has_come setting.game (hands_of setting.game setting.title.hands one.earlier) seat at.hand at.actions one.view one.found in
      let place = is_place past setting.game setting.title.hands commands one.earlier one.is_beginning.0 at (come.newest ∷ come.before) one.is_beginning.1 come.come_to in
      record { place = place; goes = law setting.game setting.title.hands seat commands place.before place.after at (line ∷ lines) place.joined told }

  part_from : CursorsTellTheLines → (at : Cursor) (lines : List Line) → AreTold setting.game setting.title.hands seat commands at lines → IsPart lines (lines_by setting seat commands)
  part_from law at [] told = record { before = []; behind = lines_by setting seat commands; joined = refl }
  part_from law at (line ∷ lines) told = let from = are_from law at line lines told in record { before = from.goes.front; behind = from.goes.rest; joined = from.goes.joined }

  -- what a connection brought is a part of the seat's lines
  pub part_told : CursorsTellTheLines → (lines : List Line) → AreToldFirst (ShowsBeginning setting commands) seat (map text_in lines) → AllByRecursion IsPlacedLine lines → IsPart lines (lines_by setting seat commands)
  part_told law lines first placed = part_from law first.start lines (all_lines first.start lines first.further first.next first.told placed)
