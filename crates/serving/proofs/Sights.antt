-- What is seen of a table.
use Rattle.std.proofs.Common.{◌≡◌, ℕ, ◌+◌, List, [], ◌∷◌, length, Some, None, refl, ap, ◌∙◌, arith}
use Rattle.std.specs.Option.{option_map}
use Rattle.game_def.specs.Game.{Game}
use Rattle.betting.specs.declared.action.Action.{Action}
use Rattle.betting.specs.Rounds.{to_act, turns}
use Rattle.slot_log.specs.Hand.{Hand}
use Rattle.slot_log.specs.Dealer.{hand_at}
use Rattle.matchstate.specs.View.{seat_of}
use Rattle.matchstate.proofs.Seats.{newest_at}
use Rattle.serving.specs.Sights.{acting_seat}

-- no hand was dealt
pub none_acts : (game : Game) (hands : List Hand) → length hands ≡ 0 → None ≡ acting_seat game hands
none_acts game [] none = refl
none_acts game (newest ∷ earlier) none = absurd (omega arith)

-- the newest hand, by its number
pub acts_in : (game : Game) (hands : List Hand) (hand : ℕ) (past : List Action) → length hands ≡ hand + 1 → Some past ≡ option_map (λ found. found.past) (hand_at hands hand)
    → option_map (seat_of game.players hand) (to_act game (turns game past)) ≡ acting_seat game hands
acts_in game [] hand past count its_past = absurd (omega arith)
acts_in game (newest ∷ earlier) hand past count its_past =
    let number : hand ≡ length earlier = omega arith in
    let at = ap (hand_at (newest ∷ earlier)) number ∙ newest_at newest earlier in
    let past_is : Some past ≡ Some newest.past = its_past ∙ ap (option_map (λ found. found.past)) at in
    let p : past ≡ newest.past = cc in
    ap (λ n. option_map (seat_of game.players n) (to_act game (turns game past))) number
    ∙ ap (λ (xs : List Action). option_map (seat_of game.players (length earlier)) (to_act game (turns game xs))) p

-- a hand that was dealt is found
pub is_found : (hands : List Hand) (hand : ℕ) → length hands ≡ hand + 1 → None ≡ option_map (λ found. found.past) (hand_at hands hand) → ⊥
is_found [] hand count none = omega arith
is_found (newest ∷ earlier) hand count none =
    let number : hand ≡ length earlier = omega arith in
    let at = ap (hand_at (newest ∷ earlier)) number ∙ newest_at newest earlier in
    let past_is : None ≡ Some newest.past = none ∙ ap (option_map (λ found. found.past)) at in
    cc
