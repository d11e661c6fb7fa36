-- The newest hand of a match: it is there once a hand was dealt, and a seat has a view of it.
use Rattle.std.proofs.Common.{◌≡◌, ℕ, ◌+◌, List, [], ◌∷◌, length, None, refl, ap, ◌∙◌, arith}
use Rattle.std.specs.Option.{option_map}
use Rattle.game_def.specs.Game.{Game}
use Rattle.slot_log.specs.Hand.{Hand}
use Rattle.slot_log.specs.Dealer.{hand_at}
use Rattle.matchstate.specs.View.{seat_view}
use Rattle.matchstate.proofs.Seats.{newest_at}

pub nobody_sees : (game : Game) (hands : List Hand) (seat : ℕ) → length hands ≡ 0 → seat_view game hands seat ≡ None
nobody_sees game [] seat none = refl
nobody_sees game (newest ∷ earlier) seat none = absurd (omega arith)

pub newest_is_there : {T : Type 0} (part : Hand → T) (hands : List Hand) (hand : ℕ) → length hands ≡ hand + 1 → None ≡ option_map part (hand_at hands hand) → ⊥
newest_is_there part [] hand count is = absurd (omega arith)
newest_is_there part (newest ∷ earlier) hand count is =
    let number : hand ≡ length earlier = omega arith in
    let at = ap (hand_at (newest ∷ earlier)) number ∙ newest_at newest earlier in
    let clash = is ∙ ap (option_map part) at in
    cc
