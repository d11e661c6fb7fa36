-- The line of a view names its place, and what a text is by the place that it names.
use Rattle.std.proofs.Common.{◌≡◌, ◌≢◌, ℕ, ◌-◌, ◌<◌, ◌≤◌, List, ◌∷◌, length, drop, Option, Some, None, decimal, refl, sym, ap, ◌∙◌, subst, arith}
use Rattle.std.specs.Prelude.{IsSome}
use Rattle.std.specs.Option.{option_map}
use Rattle.std.proofs.lemmas.List.{length-drop}
use Rattle.game_def.specs.Game.{Game, IsGame}
use Rattle.betting.specs.Legal.{Legal}
use Rattle.betting.specs.Text.{text}
use Rattle.slot_log.specs.Hand.{Hand}
use Rattle.slot_log.specs.Dealer.{finished_count}
use Rattle.slot_log.specs.Played.{IsLegalHand, AreHands}
use Rattle.matchstate.specs.Cards.{cards_field}
use Rattle.matchstate.specs.Line.{line_text}
use Rattle.matchstate.specs.View.{View, view_of, position_of, last_hand}
use Rattle.matchstate.proofs.NoColon.{no_colon_in_decimal, no_colon_in_text}
use Rattle.line_cursor.specs.declared.cursor.Cursor.{Cursor}
use Rattle.line_cursor.specs.declared.named_line.NamedLine.TheVariants.{Other}
use Rattle.line_cursor.specs.Cursors.{cursor_at}
use Rattle.line_cursor.specs.Past.{cut_to, seat_view_at, seat_line_at}
use Rattle.line_cursor.specs.Naming.{NamesPlace, MayCome, IsNamed, LinesNameTheirPlaces}
use Rattle.line_cursor.proofs.ActionCounts.{actions_counted}
use Rattle.line_cursor.proofs.Found.{IsFoundAt, found_at, HasCome, has_come}
use Rattle.line_cursor.proofs.PastSeen.{legal_cut}

names_view : (view : View) → IsGame view.game → view.position < view.game.players → view.hand ≤ last_hand → Legal view.game view.past
    → NamesPlace (line_text view) (cursor_at view.hand (length view.past))
names_view view is seated numbered legal =
    let most = is.most_players in
    record {
      betting = text view.game view.past;
      has_fields = record {
        position = decimal view.position;
        cards = cards_field view.holes view.boards;
        whole = refl;
        position_field = no_colon_in_decimal view.position (omega arith);
        hand_field = no_colon_in_decimal view.hand (omega arith);
        betting_field = no_colon_in_text view.game view.past is legal;
      };
      hand_below = omega arith;
      action_count = sym (actions_counted view.game view.past is legal);
    }

pub lines_name_their_places : LinesNameTheirPlaces
lines_name_their_places view is shown = names_view view is shown.seated shown.numbered shown.legal

-- ---- the line of any place of a match

pub record IsLineOf (view : Option View) (line : List ℕ) : Type 0 where
  pub shown : View
  pub view_is : view ≡ Some shown
  pub line_is : line_text shown ≡ line

pub line_of : (view : Option View) (line : List ℕ) → option_map line_text view ≡ Some line → IsLineOf view line
line_of None line e = absurd cc
line_of (Some view) line e = record { shown = view; view_is = refl; line_is = (let same : line_text view ≡ line = cc in same) }

first_same : (x y : Hand) (xs ys : List Hand) → x ∷ xs ≡ y ∷ ys → x ≡ y
first_same x y xs ys e = cc

rest_same : (x y : Hand) (xs ys : List Hand) → x ∷ xs ≡ y ∷ ys → xs ≡ ys
rest_same x y xs ys e = cc

cut_length : (dealt : Hand) (actions : ℕ) → actions ≤ length dealt.past → length (cut_to dealt actions).past ≡ actions
cut_length dealt actions few =
    let long : length (drop (length dealt.past - actions) dealt.past) ≡ length dealt.past - (length dealt.past - actions) = length-drop (length dealt.past - actions) dealt.past in
    omega arith

pub found_names : (game : Game) (count : ℕ) (hands : List Hand) (seat hand actions : ℕ) (line : List ℕ) → IsGame game → AreHands game count hands → count ≤ 10000
    → ((number : ℕ) → position_of game.players number seat < game.players) → seat_line_at game hands seat hand actions ≡ Some line → NamesPlace line (cursor_at hand actions)
found_names game count hands seat hand actions line is are most seated e =
    let shown : IsLineOf (seat_view_at game hands seat hand actions) line = line_of (seat_view_at game hands seat hand actions) line e in
    let come : HasCome game hands seat hand actions shown.shown = has_come game hands seat hand actions shown.shown shown.view_is in
    let at : IsFoundAt (IsLegalHand game) hands hand actions (come.newest ∷ come.before) = found_at (IsLegalHand game) hands hand actions (come.newest ∷ come.before) come.come_to in
    let cut : come.newest ≡ cut_to at.dealt actions = first_same come.newest (cut_to at.dealt actions) come.before at.before at.found_is in
    let before : length come.before ≡ hand = ap length (rest_same come.newest (cut_to at.dealt actions) come.before at.before at.found_is) ∙ sym at.number in
    let long : length come.newest.past ≡ actions = ap (λ (h : Hand). length h.past) cut ∙ cut_length at.dealt actions at.few in
    let legal : Legal game come.newest.past =
    subst (λ (h : Hand). Legal game h.past) (sym cut) (legal_cut game at.dealt.past (length at.dealt.past - actions) (at.is_one are.legal).legal) in
    let within = are.within in
    let below = at.below in
    let names : NamesPlace (line_text (view_of game (position_of game.players (length come.before) seat) (length come.before) come.newest)) (cursor_at (length come.before) (length come.newest.past)) =
    names_view (view_of game (position_of game.players (length come.before) seat) (length come.before) come.newest) is (seated (length come.before)) (omega arith) legal in
    let same : line_text (view_of game (position_of game.players (length come.before) seat) (length come.before) come.newest) ≡ line = ap line_text (sym come.view_is) ∙ shown.line_is in
    subst (λ (n : ℕ). NamesPlace line (cursor_at hand n)) long
    (subst (λ (n : ℕ). NamesPlace line (cursor_at n (length come.newest.past))) before
    (subst (λ (l : List ℕ). NamesPlace l (cursor_at (length come.before) (length come.newest.past))) same names))

-- ---- a text that names one place

abbrev pub NamesOnly : List ℕ → Cursor → Type 0
NamesOnly line cursor = (other : Cursor) → NamesPlace line other → other ≡ cursor

abbrev IsOther : Game → ℕ → List Hand → ℕ → List ℕ → Cursor → Type 0
IsOther game count hands seat line cursor = (seat_line_at game hands seat cursor.hand cursor.actions ≢ Some line) × ¬ (MayCome game count hands seat cursor)

some_none : (o : Option (List ℕ)) → IsSome o → o ≡ None → ⊥
some_none None has none = cc
some_none (Some line) has none = cc

none_told : (o : Option (List ℕ)) (line : List ℕ) → None ≡ o → o ≡ Some line → ⊥
none_told o line e f = cc

pub other_by_text : (game : Game) (count : ℕ) (hands : List Hand) (seat : ℕ) (line : List ℕ) (cursor : Cursor) → NamesOnly line cursor
    → IsSome (seat_line_at game hands seat cursor.hand cursor.actions) → seat_line_at game hands seat cursor.hand cursor.actions ≢ Some line → IsNamed game count hands seat line Other
other_by_text game count hands seat line cursor only has differs = λ other names.
    subst (IsOther game count hands seat line) (sym (only other names))
    (differs, λ may. some_none (seat_line_at game hands seat cursor.hand cursor.actions) has may.not_yet)

pub other_by_place : (game : Game) (count : ℕ) (hands : List Hand) (seat : ℕ) (line : List ℕ) (cursor : Cursor) → NamesOnly line cursor
    → None ≡ seat_line_at game hands seat cursor.hand cursor.actions → (finished_count game hands ≤ cursor.hand → cursor.hand < count → ⊥) → IsNamed game count hands seat line Other
other_by_place game count hands seat line cursor only none closed = λ other names.
    subst (IsOther game count hands seat line) (sym (only other names))
    (none_told (seat_line_at game hands seat cursor.hand cursor.actions) line none, λ may. closed may.hand_not_over may.hand_within)
