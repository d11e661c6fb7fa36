-- Seats and positions: sums modulo the number of players.
use Rattle.std.proofs.Common.{◌≡◌, ℕ, zero, ◌+◌, ◌-◌, ◌*◌, ◌/◌, ◌%◌, ◌<◌, sym, ap, ◌∙◌, arith}
use Rattle.std.proofs.Math.Nat.{mod-lt, mod-eq_of_lt, mod-add-mod, mod-add-div, add-mod_right, add-mul-mod_self_left}
use Rattle.matchstate.specs.View.{seat_of, position_of}
use Rattle.matchstate.specs.Positions.{SeatsHaveOnePosition}

-- going on by a number and back by its rest
there_and_back : (players hand place total : ℕ) → place < players → total ≡ place + (players - hand % players) + hand → total % players ≡ place
there_and_back players hand place total below is =
    let some : zero < players = omega arith in
    let rest : hand % players < players = mod-lt hand some in
    let parts = mod-add-div hand players in
    let whole : total ≡ (place + players) + players * (hand / players) = omega arith in
    ap (λ t. t % players) whole ∙ add-mul-mod_self_left (place + players) players (hand / players) ∙ add-mod_right place players ∙ mod-eq_of_lt below

pub seats_have_one_position : SeatsHaveOnePosition
seats_have_one_position players hand seat below = (
  mod-lt (seat + (players - hand % players)) some,
  mod-add-mod (seat + (players - hand % players)) players hand
      ∙ there_and_back players hand seat (seat + (players - hand % players) + hand) below (omega arith),
  only,
)
  where
    some : zero < players
    some = omega arith

    only : (position : ℕ) → position < players → seat_of players hand position ≡ seat → position ≡ position_of players hand seat
    only position within is =
        sym (ap (λ s. (s + (players - hand % players)) % players) (sym is)
        ∙ mod-add-mod (position + hand) players (players - hand % players)
        ∙ there_and_back players hand position (position + hand + (players - hand % players)) within (omega arith))
