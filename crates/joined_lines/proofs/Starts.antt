-- A match that is over has a line at each place from which a seat may ask to be told lines.
use Rattle.std.proofs.Common.{◌≡◌, ℕ, suc, ◌≤◌, nat_eq, nat_le, Bool, true, false, if◌then◌else◌, List, [], ◌∷◌, length, Option, Some, None, sym, ap, ◌∙◌, subst, arith}
use Rattle.std.proofs.lemmas.Bool.Decides.{nat_tests}
use Rattle.std.specs.Option.{option_map}
use Rattle.game_def.specs.Game.{Game}
use Rattle.slot_log.specs.Beginnings.{IsBeginning}
use Rattle.slot_log.specs.Hand.{Hand, Match}
use Rattle.slot_log.specs.Dealer.{hands_of, is_match_over}
use Rattle.slot_log.specs.declared.command.Command.{Command}
use Rattle.matchstate.specs.Line.{line_text}
use Rattle.line_cursor.specs.declared.cursor.Cursor.{Cursor}
use Rattle.line_cursor.specs.Cursors.{cursor_at}
use Rattle.line_cursor.specs.Past.{cut_to, hands_at, seen_by, seat_view_at, seat_line_at}
use Rattle.line_cursor.proofs.Following.{IsFound}
use Rattle.line_cursor.proofs.Found.{has_come}
use Rattle.line_cursor.proofs.Names.{IsLineOf, line_of}
use Rattle.line_cursor.proofs.PastHands.{found_now, on_more}
use Rattle.dealer_kind.specs.Kind.{Setting}
use Rattle.dealer_kind.specs.Plans.{IsSetting}
use Rattle.stations.specs.Tables.{ShowsBeginning}
use Rattle.node_seats.specs.declared.words.Asked.{Asked}
use Rattle.node_seats.specs.declared.words.Asked.TheVariants as asks
use Rattle.node_seats.specs.Words.{Reading}
use Rattle.node_service.specs.Bots.{newest_place, StartsBy}
use Rattle.joined_lines.specs.Coming.{BeginsAt}
use Rattle.joined_lines.proofs.Ending.{has_line}

-- ---- places to which hands have come

at_least_none : (n : ℕ) → nat_le 0 n ≡ true
at_least_none n = grind (arith, nat_tests)

not_first : (n : ℕ) → nat_eq 0 (suc n) ≡ false
not_first n = grind (arith, nat_tests)

first_found : (newest : Hand) (before : List Hand) → IsFound (newest ∷ before) (cursor_at 0 0)
first_found newest [] = (cut_to newest 0 ∷ [], ap (λ (b : Bool). let found : Option (List Hand) = if b then Some (cut_to newest 0 ∷ []) else None in found) (at_least_none (length newest.past)))
first_found newest (next ∷ before) =
    let earlier : IsFound (next ∷ before) (cursor_at 0 0) = first_found next before in (
      earlier.0,
      ap (λ (b : Bool). if b then (if nat_le 0 (length newest.past) then Some (cut_to newest 0 ∷ next ∷ before) else None) else hands_at (next ∷ before) 0 0) (not_first (length before)) ∙ earlier.1,
    )

is_few : (count : ℕ) → nat_le count 0 ≡ true → count ≤ 0
is_few count over = grind (arith, nat_tests)

over_found : (game : Game) (count : ℕ) (hands : List Hand) → 1 ≤ count → is_match_over game count hands ≡ true → IsFound hands (cursor_at 0 0)
over_found game count [] least over = let few : count ≤ 0 = is_few count over in absurd (omega (arith, least, few))
over_found game count (newest ∷ before) least over = first_found newest before

later_found : (game : Game) (count : ℕ) (commands earlier : List Command) (m : Cursor) → IsBeginning earlier commands → IsFound (hands_of game count earlier) m → IsFound (hands_of game count commands) m
later_found game count commands earlier m is found = (
  found.0,
  ap (λ (cs : List Command). hands_at (hands_of game count cs) m.hand m.actions) is.1 ∙ on_more game count is.0 earlier m.hand m.actions found.0 found.1,
)

newest_found : (game : Game) (count : ℕ) (commands earlier : List Command) (hands : List Hand) → IsBeginning earlier commands → hands_of game count earlier ≡ hands → IsFound (hands_of game count commands) (cursor_at 0 0)
    → IsFound (hands_of game count commands) (newest_place hands)
newest_found game count commands earlier [] is same first = first
newest_found game count commands earlier (newest ∷ before) is same first =
    later_found game count commands earlier (newest_place (newest ∷ before)) is
    (subst (λ (hs : List Hand). IsFound hs (newest_place (newest ∷ before))) (sym same) (newest ∷ before, found_now newest before))

-- ---- what was asked for

module _ (setting : Setting) (is : IsSetting setting) (seat : ℕ) (commands : List Command) where
  abbrev all_hands : List Command → List Hand
  all_hands earlier = hands_of setting.game setting.title.hands earlier

  line_found : (at : Cursor) (table : Match) (text : List ℕ) → ShowsBeginning setting commands table → seat_line_at table.game table.hands seat at.hand at.actions ≡ Some text → IsFound (all_hands commands) at
  line_found at table text shows told =
      let hands : List Hand = all_hands shows.earlier in
      let here : seat_line_at setting.game hands seat at.hand at.actions ≡ Some text =
      subst (λ (hs : List Hand). seat_line_at setting.game hs seat at.hand at.actions ≡ Some text) shows.table_is.hands
      (subst (λ (game : Game). seat_line_at game table.hands seat at.hand at.actions ≡ Some text) shows.table_is.game told) in
      let view : IsLineOf (seat_view_at setting.game hands seat at.hand at.actions) text = line_of (seat_view_at setting.game hands seat at.hand at.actions) text here in
      let come = has_come setting.game hands seat at.hand at.actions view.shown view.view_is in
      later_found setting.game setting.title.hands commands shows.earlier at shows.is_beginning (come.newest ∷ come.before, come.come_to)

  place_found : (at other : Cursor) → at ≡ other → IsFound (all_hands commands) other → IsFound (all_hands commands) at
  place_found at other same found = subst (IsFound (all_hands commands)) (sym same) found

  newest_of : (table : Match) → ShowsBeginning setting commands table → IsFound (all_hands commands) (cursor_at 0 0) → IsFound (all_hands commands) (newest_place table.hands)
  newest_of table shows first = newest_found setting.game setting.title.hands commands shows.earlier table.hands shows.is_beginning (sym shows.table_is.hands) first

  asked_found : (at : Cursor) (asked : Asked) (named : List ℕ) (table : Match) → ShowsBeginning setting commands table → IsFound (all_hands commands) (cursor_at 0 0) → StartsBy table seat asked named at
      → IsFound (all_hands commands) at
  asked_found at asks.Nothing named table shows first starts = place_found at (newest_place table.hands) starts (newest_of table shows first)
  asked_found at asks.First named table shows first starts = place_found at (cursor_at 0 0) starts first
  asked_found at asks.Newest named table shows first starts = place_found at (newest_place table.hands) starts (newest_of table shows first)
  asked_found at asks.Line named table shows first starts = line_found at table named shows starts
  asked_found at asks.Other named table shows first starts = absurd starts

  -- so there it isn't told that the match is over
  pub line_at_start : (words : Reading) (at : Cursor) → BeginsAt (ShowsBeginning setting commands) seat words at → is_match_over setting.game setting.title.hands (all_hands commands) ≡ true
      → seat_line_at setting.game (all_hands commands) seat at.hand at.actions ≡ None → ⊥
  line_at_start words at (table, (shows, starts)) over none =
      let first : IsFound (all_hands commands) (cursor_at 0 0) = over_found setting.game setting.title.hands (all_hands commands) is.least over in
      has_line setting.game (all_hands commands) seat at (asked_found at words.asked words.named table shows first starts) none

  -- what was told off such a table is told by all commands
  pub told_by_all : (at : Cursor) (table : Match) (text : List ℕ) → ShowsBeginning setting commands table → seat_line_at table.game table.hands seat at.hand at.actions ≡ Some text
      → seat_line_at setting.game (all_hands commands) seat at.hand at.actions ≡ Some text
  told_by_all at table text shows told =
      let hands : List Hand = all_hands shows.earlier in
      let here : seat_line_at setting.game hands seat at.hand at.actions ≡ Some text =
      subst (λ (hs : List Hand). seat_line_at setting.game hs seat at.hand at.actions ≡ Some text) shows.table_is.hands
      (subst (λ (game : Game). seat_line_at game table.hands seat at.hand at.actions ≡ Some text) shows.table_is.game told) in
      let view : IsLineOf (seat_view_at setting.game hands seat at.hand at.actions) text = line_of (seat_view_at setting.game hands seat at.hand at.actions) text here in
      let come = has_come setting.game hands seat at.hand at.actions view.shown view.view_is in
      let newer : List Command = shows.is_beginning.0 in
      let now : hands_at (all_hands commands) at.hand at.actions ≡ Some (come.newest ∷ come.before) =
      ap (λ (cs : List Command). hands_at (all_hands cs) at.hand at.actions) shows.is_beginning.1
      ∙ on_more setting.game setting.title.hands newer shows.earlier at.hand at.actions (come.newest ∷ come.before) come.come_to in
      ap (λ (found : Option (List Hand)). option_map line_text (seen_by setting.game seat found)) (now ∙ sym come.come_to) ∙ here
