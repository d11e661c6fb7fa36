-- What is seen of a hand of the past, and the line of it.
use Rattle.std.proofs.Common.{◌≡◌, ℕ, ◌-◌, ◌<◌, ◌≤◌, List, take, drop, length, Some, None, refl, sym, ap, ◌∙◌, subst, take-append-drop}
use Rattle.std.specs.Prelude.{Option, IsSome}
use Rattle.std.specs.Option.{option_map}
use Rattle.card_core.specs.Deal.{IsDeal}
use Rattle.game_def.specs.Game.{Game}
use Rattle.betting.specs.declared.action.Action.{Action}
use Rattle.betting.specs.Legal.{Legal}
use Rattle.slot_log.specs.Hand.{Hand}
use Rattle.slot_log.specs.Dealer.{hand_at}
use Rattle.matchstate.specs.Line.{line_text}
use Rattle.matchstate.specs.View.{View, IsView, view_of, position_of, last_hand}
use Rattle.matchstate.proofs.Texts.{Legal-before}
use Rattle.line_cursor.specs.Past.{seat_view_at, seat_line_at, IsSeatLine}
use Rattle.line_cursor.proofs.PastFound.{seen_there, none_there, none_so_far}

pub legal_cut : (game : Game) (past : List Action) (count : ℕ) → Legal game past → Legal game (drop count past)
legal_cut game past count legal = Legal-before game (take count past) (drop count past) (subst (Legal game) (sym (take-append-drop count past)) legal)

is_view : (game : Game) (position hand : ℕ) (deal : List ℕ) (past : List Action) → position < game.players → hand ≤ last_hand → Legal game past → IsDeal game.players deal
    → IsView (view_of game position hand (let h : Hand = record { deal = deal; past = past } in h))
is_view game position hand deal past seated numbered legal dealt =
    record { seated = seated; numbered = numbered; legal = legal; seen = (deal, record { dealt = dealt; hole_cards = refl; board_cards = refl }) }

abbrev cut_view : Game → ℕ → ℕ → List ℕ → List Action → ℕ → View
cut_view game position hand deal past count = view_of game position hand (let h : Hand = record { deal = deal; past = drop (length past - count) past } in h)

pub line_there : (game : Game) (hands : List Hand) (seat hand count : ℕ) (deal : List ℕ) (past : List Action) (line : List ℕ) (position : ℕ) → Some deal ≡ option_map (λ found. found.deal) (hand_at hands hand)
    → Some past ≡ option_map (λ found. found.past) (hand_at hands hand) → count ≤ length past → position ≡ position_of game.players hand seat
    → line ≡ line_text (cut_view game position hand deal past count) → Some line ≡ seat_line_at game hands seat hand count
line_there game hands seat hand count deal past line position d p few seated is =
    let there : Some (cut_view game position hand deal past count) ≡ seat_view_at game hands seat hand count =
    seen_there game hands seat hand count deal past (cut_view game position hand deal past count) d p few (ap (λ (n : ℕ). cut_view game n hand deal past count) seated) in
    ap Some is ∙ ap (option_map line_text) there

pub line_seen : (game : Game) (hands : List Hand) (seat hand count : ℕ) (deal : List ℕ) (past : List Action) (line : List ℕ) (position : ℕ) → Some deal ≡ option_map (λ found. found.deal) (hand_at hands hand)
    → Some past ≡ option_map (λ found. found.past) (hand_at hands hand) → count ≤ length past → position ≡ position_of game.players hand seat
    → line ≡ line_text (cut_view game position hand deal past count) → position < game.players → hand ≤ last_hand → Legal game past → IsDeal game.players deal
    → IsSeatLine game hands seat hand count line
line_seen game hands seat hand count deal past line position d p few seated is below numbered legal dealt = record {
  view = cut_view game position hand deal past count;
  found = sym (seen_there game hands seat hand count deal past (cut_view game position hand deal past count) d p few (ap (λ (n : ℕ). cut_view game n hand deal past count) seated));
  is_view = is_view game position hand deal (drop (length past - count) past) below numbered (legal_cut game past (length past - count) legal) dealt;
  same_game = refl;
  line_is = is;
}

pub none_seen : (game : Game) (hands : List Hand) (seat hand count : ℕ) → None ≡ seat_view_at game hands seat hand count → None ≡ seat_line_at game hands seat hand count
none_seen game hands seat hand count e = ap (option_map line_text) e

-- ---- by its play alone, for every seat

lines_by : (game : Game) (hands : List Hand) (seat hand count : ℕ) (past : List Action) (there : Option Hand) → hand_at hands hand ≡ there → Some past ≡ option_map (λ found. found.past) there
    → count ≤ length past → IsSome (seat_line_at game hands seat hand count)
lines_by game hands seat hand count past None e p few = absurd cc
lines_by game hands seat hand count past (Some dealt) e p few =
    let same : past ≡ dealt.past = cc in
    let d : Some dealt.deal ≡ option_map (λ found. found.deal) (hand_at hands hand) = ap (option_map (λ (found : Hand). found.deal)) (sym e) in
    let q : Some dealt.past ≡ option_map (λ found. found.past) (hand_at hands hand) = ap (option_map (λ (found : Hand). found.past)) (sym e) in
    let enough : count ≤ length dealt.past = subst (λ (l : List Action). count ≤ length l) same few in
    let there = seen_there game hands seat hand count dealt.deal dealt.past (cut_view game (position_of game.players hand seat) hand dealt.deal dealt.past count) d q enough refl in
    subst (λ (line : Option (List ℕ)). IsSome line) (ap (option_map line_text) there) refl

pub lines_there : (game : Game) (hands : List Hand) (hand count : ℕ) (past : List Action) → Some past ≡ option_map (λ found. found.past) (hand_at hands hand) → count ≤ length past
    → (seat : ℕ) → IsSome (seat_line_at game hands seat hand count)
lines_there game hands hand count past p few = λ seat. lines_by game hands seat hand count past (hand_at hands hand) refl p few

none_by : (game : Game) (hands : List Hand) (seat hand count : ℕ) (past : List Action) (there : Option Hand) → hand_at hands hand ≡ there → Some past ≡ option_map (λ found. found.past) there
    → length past < count → seat_line_at game hands seat hand count ≡ None
none_by game hands seat hand count past None e p more = absurd cc
none_by game hands seat hand count past (Some dealt) e p more =
    let same : past ≡ dealt.past = cc in
    let d : Some dealt.deal ≡ option_map (λ found. found.deal) (hand_at hands hand) = ap (option_map (λ (found : Hand). found.deal)) (sym e) in
    let q : Some dealt.past ≡ option_map (λ found. found.past) (hand_at hands hand) = ap (option_map (λ (found : Hand). found.past)) (sym e) in
    let fewer : length dealt.past < count = subst (λ (l : List Action). length l < count) same more in
    sym (none_seen game hands seat hand count (none_so_far game hands seat hand count dealt.deal dealt.past d q fewer))

pub none_yet : (game : Game) (hands : List Hand) (hand count : ℕ) (past : List Action) → Some past ≡ option_map (λ found. found.past) (hand_at hands hand) → length past < count
    → (seat : ℕ) → seat_line_at game hands seat hand count ≡ None
none_yet game hands hand count past p more = λ seat. none_by game hands seat hand count past (hand_at hands hand) refl p more

none_without : (game : Game) (hands : List Hand) (seat hand count : ℕ) (there : Option Hand) → hand_at hands hand ≡ there → None ≡ option_map (λ found. found.past) there
    → seat_line_at game hands seat hand count ≡ None
none_without game hands seat hand count None e p =
    sym (none_seen game hands seat hand count (none_there game hands seat hand count (ap (option_map (λ (found : Hand). found.deal)) (sym e))))
none_without game hands seat hand count (Some dealt) e p = absurd cc

pub none_undealt : (game : Game) (hands : List Hand) (hand count : ℕ) → None ≡ option_map (λ found. found.past) (hand_at hands hand) → (seat : ℕ) → seat_line_at game hands seat hand count ≡ None
none_undealt game hands hand count p = λ seat. none_without game hands seat hand count (hand_at hands hand) refl p
