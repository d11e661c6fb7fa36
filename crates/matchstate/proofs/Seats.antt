-- The newest hand, by its number.
use Rattle.std.proofs.Common.{◌≡◌, ℕ, ◌+◌, List, [], ◌∷◌, ◌++◌, reverse, length, Option, Some, refl, sym, ap, ◌∙◌, arith}
use Rattle.std.specs.List.{slice_get, flat_map}
use Rattle.std.specs.Option.{option_map, option_to_list}
use Rattle.std.proofs.lemmas.List.{reverse-append, length-reverse}
use Rattle.game_def.specs.Game.{Game}
use Rattle.betting.specs.declared.action.Action.{Action}
use Rattle.slot_log.specs.Hand.{Hand}
use Rattle.slot_log.specs.Dealer.{hand_at}
use Rattle.std.proofs.lemmas.List.{append-nil}
use Rattle.betting.specs.Text.{text}
use Rattle.matchstate.specs.View.{View, view_of, position_of, seat_view}
use Rattle.matchstate.specs.Line.{joined, line_text, newest_text, seat_text}
use Rattle.slot_log.proofs.Hands.{at_end}

pub newest_at : (newest : Hand) (earlier : List Hand) → hand_at (newest ∷ earlier) (length earlier) ≡ Some newest
newest_at newest earlier =
    let back = reverse-append (newest ∷ []) earlier in
    ap (λ hs. slice_get hs (length earlier)) back
    ∙ ap (λ n. slice_get (reverse earlier ++ newest ∷ []) n) (sym (length-reverse earlier)) ∙ at_end (reverse earlier) newest

pub seat_view_is : (game : Game) (hands : List Hand) (seat hand : ℕ) (deal : List ℕ) (past : List Action) (view : View) → length hands ≡ hand + 1 → Some deal ≡ option_map (λ found. found.deal) (hand_at hands hand) → Some past ≡ option_map (λ found. found.past) (hand_at hands hand) → view ≡ view_of game (position_of game.players hand seat) hand (let h : Hand = record { deal = deal; past = past } in h) → Some view ≡ seat_view game hands seat
seat_view_is game [] seat hand deal past view count its_deal its_past is = absurd (omega arith)
seat_view_is game (newest ∷ earlier) seat hand deal past view count its_deal its_past is =
    let number : hand ≡ length earlier = omega arith in
    let at = ap (hand_at (newest ∷ earlier)) number ∙ newest_at newest earlier in
    let deal_is : Some deal ≡ Some newest.deal = its_deal ∙ ap (option_map (λ found. found.deal)) at in
    let past_is : Some past ≡ Some newest.past = its_past ∙ ap (option_map (λ found. found.past)) at in
    let d : deal ≡ newest.deal = cc in
    let p : past ≡ newest.past = cc in
    let hand_is : (let h : Hand = record { deal = deal; past = past } in h) ≡ newest =
    ap (λ (x : List ℕ). let h : Hand = record { deal = x; past = past } in h) d ∙ ap (λ (x : List Action). let h : Hand = record { deal = newest.deal; past = x } in h) p in
    ap Some (is ∙ ap (λ n. view_of game (position_of game.players n seat) n (let h : Hand = record { deal = deal; past = past } in h)) number ∙ ap (view_of game (position_of game.players (length earlier) seat) (length earlier)) hand_is)

-- its betting text
pub newest_text_is : (game : Game) (hands : List Hand) (hand : ℕ) (past : List Action) → length hands ≡ hand + 1 → Some past ≡ option_map (λ found. found.past) (hand_at hands hand) → newest_text game hands ≡ text game past
newest_text_is game [] hand past count its_past = absurd (omega arith)
newest_text_is game (newest ∷ earlier) hand past count its_past =
    let number : hand ≡ length earlier = omega arith in
    let at = ap (hand_at (newest ∷ earlier)) number ∙ newest_at newest earlier in
    let past_is : Some past ≡ Some newest.past = its_past ∙ ap (option_map (λ found. found.past)) at in
    let p : past ≡ newest.past = cc in
    ap (text game) (sym p)

-- and the line that a seat gets
pub seat_text_is : (game : Game) (hands : List Hand) (seat hand : ℕ) (deal : List ℕ) (past : List Action) → length hands ≡ hand + 1 → Some deal ≡ option_map (λ found. found.deal) (hand_at hands hand) → Some past ≡ option_map (λ found. found.past) (hand_at hands hand) → line_text (view_of game (position_of game.players hand seat) hand (let h : Hand = record { deal = deal; past = past } in h)) ≡ seat_text game hands seat
seat_text_is game hands seat hand deal past count its_deal its_past =
    let view : View = view_of game (position_of game.players hand seat) hand (let h : Hand = record { deal = deal; past = past } in h) in
    sym (append-nil (line_text view)) ∙ ap (λ (o : Option View). flat_map line_text (option_to_list o)) (seat_view_is game hands seat hand deal past view count its_deal its_past refl)

pub joined_same : (position hand betting cards position' betting' cards' : List ℕ) → position ≡ position' → betting ≡ betting' → cards ≡ cards'
    → joined (record { position = position; hand = hand; betting = betting; cards = cards }) ≡ joined (record { position = position'; hand = hand; betting = betting'; cards = cards' })
joined_same position hand betting cards position' betting' cards' p b k = cc
