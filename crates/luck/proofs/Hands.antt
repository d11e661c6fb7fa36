-- Two hands whose lines show the same have the same lines here.
use Rattle.std.proofs.Common.{◌≡◌, ℕ, ◌≤◌, ℤ, pos, Bool, List, [], ◌∷◌, length, map, get_or, refl, ◌∙◌, ap, arith}
use Rattle.std.specs.List.{flat_map, range_with_len}
use Rattle.game_def.specs.Game.{Game, IsGame}
use Rattle.card_core.specs.Deal.{IsDeal}
use Rattle.slot_log.specs.Hand.{Hand}
use Rattle.matchstate.specs.Cards.{cards_field, holes_of, board_shown}
use Rattle.matchstate.specs.View.{rounds_seen}
use Rattle.match_log.specs.Check.{IsPlayed}
use Rattle.side_pots.specs.Pots.{payoffs}
use Rattle.match_log.specs.Payoffs.{payoffs_of, amounts_of, folds_of, values_of}
use Rattle.match_log.proofs.Settling.{length_amounts}
use Rattle.match_log.specs.Verdict.{PayoffsAreThoseShown}
use Rattle.luck.specs.Lines.{luck_line, position_line}
use Rattle.luck.specs.Lucks.{luck_of, lucks_of}
use Rattle.luck.specs.Means.{parts_of, pay}
use Rattle.luck.proofs.Printing.{lines_alike}
use Rattle.luck.proofs.Shown.{same_known, same_luck}

-- the same luck for each position
lucky_alike : (key : List ℕ) (game : Game) (number : ℕ) (hand : Hand) (deal : List ℕ) → IsPlayed game hand → IsDeal game.players deal
    → holes_of game.players deal ≡ holes_of game.players hand.deal → board_shown (rounds_seen game hand.past) deal ≡ board_shown (rounds_seen game hand.past) hand.deal → rounds_seen game hand.past ≤ 3
    → (position : ℕ) → luck_of key game number (record { deal = deal; past = hand.past }) position ≡ luck_of key game number hand position
lucky_alike key game number hand deal played dealt holes boards rounds position =
    same_luck key game number position hand.past deal hand.deal (rounds_seen game hand.past) (rounds_seen game hand.past) (omega arith)
    (λ street within. same_known game.players deal hand.deal street (rounds_seen game hand.past) dealt played.dealt within rounds holes boards)

map_alike : (f g : ℕ → ℤ) (xs : List ℕ) → ((x : ℕ) → f x ≡ g x) → map f xs ≡ map g xs
map_alike f g [] same = refl
map_alike f g (x ∷ xs) same = ap (λ (z : ℤ). z ∷ map f xs) (same x) ∙ ap (λ (zs : List ℤ). g x ∷ zs) (map_alike f g xs same)

pub same_lucks : (key : List ℕ) (game : Game) (number : ℕ) (hand : Hand) (deal : List ℕ) → IsPlayed game hand → IsDeal game.players deal
    → holes_of game.players deal ≡ holes_of game.players hand.deal → board_shown (rounds_seen game hand.past) deal ≡ board_shown (rounds_seen game hand.past) hand.deal → rounds_seen game hand.past ≤ 3
    → lucks_of key game number (record { deal = deal; past = hand.past }) ≡ lucks_of key game number hand
same_lucks key game number hand deal played dealt holes boards rounds =
    map_alike (luck_of key game number (record { deal = deal; past = hand.past })) (luck_of key game number hand) (range_with_len 0 game.players) (lucky_alike key game number hand deal played dealt holes boards rounds)

pub same_lines : PayoffsAreThoseShown → (key : List ℕ) (game : Game) (names : List (List ℕ)) (number : ℕ) (hand : Hand) (deal : List ℕ) → IsGame game → IsPlayed game hand → IsDeal game.players deal
    → holes_of game.players deal ≡ holes_of game.players hand.deal → board_shown (rounds_seen game hand.past) deal ≡ board_shown (rounds_seen game hand.past) hand.deal → rounds_seen game hand.past ≤ 3
    → flat_map (position_line key game names number (record { deal = deal; past = hand.past })) (range_with_len 0 game.players) ≡ flat_map (position_line key game names number hand) (range_with_len 0 game.players)
same_lines law key game names number hand deal is played dealt holes boards rounds =
    let other : Hand = record { deal = deal; past = hand.past } in
    let again : IsPlayed game other = record { dealt = dealt; legal = played.legal; finished = played.finished } in
    let cards = ap (λ (h : List (List ℕ)). cards_field h (board_shown (rounds_seen game hand.past) deal)) holes ∙ ap (cards_field (holes_of game.players hand.deal)) boards in
    let paid : payoffs_of game other ≡ payoffs_of game hand = law game other hand is again played refl cards in
    lines_alike (position_line key game names number other) (position_line key game names number hand) 0 game.players
    (λ position from to.
    let luck : luck_of key game number other position ≡ luck_of key game number hand position = lucky_alike key game number hand deal played dealt holes boards rounds position in
    ap (λ (values : List ℤ). luck_line number (get_or names position []) (get_or values position (pos 0)) (luck_of key game number other position) (parts_of game.players)) paid
    ∙ ap (λ (z : ℤ). luck_line number (get_or names position []) (get_or (payoffs_of game hand) position (pos 0)) z (parts_of game.players)) luck)

-- what is paid is the log's payoffs
pub pay_is : (game : Game) (hand : Hand) (spent : List ℕ) (folded : List Bool) → spent ≡ amounts_of game hand.past → folded ≡ folds_of game hand.past → pay spent folded hand.deal ≡ payoffs_of game hand
unfolding payoffs_of
pay_is game hand spent folded as_spent as_folded =
    let players : length spent ≡ game.players = ap length as_spent ∙ length_amounts game hand.past in
    ap (λ (s : List ℕ). payoffs s folded (values_of (length spent) hand.deal)) as_spent
    ∙ ap (λ (f : List Bool). payoffs (amounts_of game hand.past) f (values_of (length spent) hand.deal)) as_folded
    ∙ ap (λ n. payoffs (amounts_of game hand.past) (folds_of game hand.past) (values_of n hand.deal)) players

-- a position's line, by what was read and reckoned
pub line_of_position : (key : List ℕ) (game : Game) (names : List (List ℕ)) (number : ℕ) (hand : Hand) (position : ℕ) (name : List ℕ) (payoff luck : ℤ) (parts : ℕ)
    → name ≡ get_or names position [] → payoff ≡ get_or (payoffs_of game hand) position (pos 0) → luck ≡ luck_of key game number hand position → parts ≡ parts_of game.players
    → luck_line number name payoff luck parts ≡ position_line key game names number hand position
line_of_position key game names number hand position name payoff luck parts as_name as_payoff as_luck as_parts =
    ap (λ (n : List ℕ). luck_line number n payoff luck parts) as_name
    ∙ ap (λ (z : ℤ). luck_line number (get_or names position []) z luck parts) as_payoff
    ∙ ap (λ (z : ℤ). luck_line number (get_or names position []) (get_or (payoffs_of game hand) position (pos 0)) z parts) as_luck
    ∙ ap (λ n. luck_line number (get_or names position []) (get_or (payoffs_of game hand) position (pos 0)) (luck_of key game number hand position) n) as_parts
