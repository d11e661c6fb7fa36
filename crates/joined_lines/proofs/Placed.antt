-- A text of a match names one place, and so a line with a place that its text names is the line of what the seat saw.
use Rattle.std.proofs.Common.{◌≡◌, ℕ, ◌<◌, ◌≤◌, List, ◌∷◌, ◌++◌, length, Some, codes, decimal, sym, ap, ◌∙◌, subst, arith}
use Rattle.std.proofs.lemmas.List.{append_cancel_left}
use Rattle.std.proofs.lemmas.Fmt.{decimal_injective}
use Rattle.game_def.specs.Game.{Game, IsGame}
use Rattle.betting.specs.Legal.{Legal}
use Rattle.betting.specs.Text.{text}
use Rattle.slot_log.specs.Dealer.{hands_of}
use Rattle.slot_log.specs.Played.{AreHands}
use Rattle.slot_log.specs.Laws.{CommandsMakeHands}
use Rattle.slot_log.specs.declared.command.Command.{Command}
use Rattle.matchstate.specs.Cards.{cards_field}
use Rattle.matchstate.specs.Line.{line_text}
use Rattle.matchstate.specs.View.{View, position_of, last_hand}
use Rattle.matchstate.proofs.Fronts.{cut_alike}
use Rattle.matchstate.proofs.NoColon.{no_colon_in_decimal, no_colon_in_text}
use Rattle.line_cursor.specs.Past.{seat_view_at, PastIsABeginning}
use Rattle.line_cursor.specs.Telling.{line_of_view}
use Rattle.line_cursor.proofs.Found.{HasCome, has_come}
use Rattle.seat_relay.specs.declared.place.Place.{Place}
use Rattle.seat_relay.specs.Places.{IsPlaced}
use Rattle.seat_relay.specs.Relaying.{Line, with_place}

-- what is so of each view of a match: who sees it sits there, its number is one of a match's hands, and its actions were allowed
pub record IsShown (view : View) : Type 0 where
  pub is_game : IsGame view.game
  pub seated : view.position < view.game.players
  pub numbered : view.hand ≤ last_hand
  pub legal : Legal view.game view.past

abbrev pub place_of_view : View → Place
place_of_view view = (line_of_view view).place

placed_once : (view : View) → IsShown view → (place : Place) → IsPlaced (line_text view) place → place ≡ place_of_view view
placed_once view is place at =
    let most = is.is_game.most_players in
    let below = is.seated in
    let small = at.hand_below in
    let numbered = is.numbered in
    let f = at.has_fields in
    let one = append_cancel_left (codes "MATCHSTATE:") (decimal view.position ++ 58 ∷ (decimal view.hand ++ 58 ∷ (text view.game view.past ++ 58 ∷ cards_field view.holes view.boards)))
    (at.fields.position ++ 58 ∷ (at.fields.hand ++ 58 ∷ (at.fields.betting ++ 58 ∷ at.fields.cards))) f.whole in
    let two = cut_alike 58 (decimal view.position) at.fields.position (decimal view.hand ++ 58 ∷ (text view.game view.past ++ 58 ∷ cards_field view.holes view.boards))
    (at.fields.hand ++ 58 ∷ (at.fields.betting ++ 58 ∷ at.fields.cards)) (no_colon_in_decimal view.position (omega arith)) f.position_field one in
    let three = cut_alike 58 (decimal view.hand) at.fields.hand (text view.game view.past ++ 58 ∷ cards_field view.holes view.boards) (at.fields.betting ++ 58 ∷ at.fields.cards)
    (no_colon_in_decimal view.hand (omega arith)) f.hand_field two.1 in
    let four = cut_alike 58 (text view.game view.past) at.fields.betting (cards_field view.holes view.boards) at.fields.cards (no_colon_in_text view.game view.past is.is_game is.legal) f.betting_field three.1 in
    let hand : place.hand ≡ view.hand = decimal_injective place.hand view.hand (omega arith) (omega arith) (sym at.hand_text ∙ sym three.0) in
    let len : place.len ≡ length (text view.game view.past) = at.betting_len ∙ ap length (sym four.0) in
    ap (λ (n : ℕ). let p : Place = record { hand = n; len = place.len } in p) hand ∙ ap (λ (n : ℕ). let p : Place = record { hand = view.hand; len = n } in p) len

pub line_once : (view : View) → IsShown view → (line : Line) → line_text view ≡ line.text → IsPlaced line.text line.place → line ≡ line_of_view view
line_once view is line same placed =
    let place : line.place ≡ place_of_view view = placed_once view is line.place (subst (λ (t : List ℕ). IsPlaced t line.place) (sym same) placed) in
    ap (λ (t : List ℕ). with_place t line.place) (sym same) ∙ ap (with_place (line_text view)) place

-- each view of a seat of a match is such
pub is_shown : CommandsMakeHands → PastIsABeginning → (game : Game) (count : ℕ) (commands : List Command) (seat hand actions : ℕ) (view : View) → IsGame game → count ≤ 10000
    → ((number : ℕ) → position_of game.players number seat < game.players) → seat_view_at game (hands_of game count commands) seat hand actions ≡ Some view → IsShown view
is_shown make law game count commands seat hand actions view is most seated e =
    let come : HasCome game (hands_of game count commands) seat hand actions view = has_come game (hands_of game count commands) seat hand actions view e in
    let past = law game count commands hand actions (come.newest ∷ come.before) come.come_to in
    let are : AreHands game count (come.newest ∷ come.before) = subst (AreHands game count) past.1.1 (make game count past.0) in
    let legal = are.legal.0.legal in
    let within = are.within in
    subst IsShown (sym come.view_is) (record { is_game = is; seated = seated (length come.before); numbered = omega arith; legal = legal })
