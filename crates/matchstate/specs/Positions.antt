-- Seats and positions.
use Rattle.std.specs.Prelude.{◌≡◌, ℕ, ◌<◌}
use Rattle.matchstate.specs.View.{seat_of, position_of}

-- in each hand each seat has a position, whose seat it is, and no other position is its own
abbrev pub SeatsHaveOnePosition : Type 0
SeatsHaveOnePosition = (players hand seat : ℕ) → seat < players
    → (position_of players hand seat < players) × (seat_of players hand (position_of players hand seat) ≡ seat)
    × ((position : ℕ) → position < players → seat_of players hand position ≡ seat → position ≡ position_of players hand seat)
