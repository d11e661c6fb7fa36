-- Who was turned away at the ports of seats, and when it was crowded there.
use Rattle.std.specs.Prelude.{◌≡◌, ◌≢◌, ◌<◌, ◌+◌, min, ℕ, Bool, true, false, get_or, Option, Some, None}
use Rattle.node_wires.specs.declared.limits.TheConstants.{SEATS}
use Rattle.node_seats.specs.declared.crowds.Crowds.{Crowds}

-- how many were turned away at the port of a seat
abbrev pub turned_away_at : Crowds → ℕ → ℕ
turned_away_at crowds seat = get_or crowds.counts seat 0

-- when it was last crowded there
abbrev pub crowded_at : Crowds → ℕ → Option ℕ
crowded_at crowds seat = get_or crowds.moments seat None

-- it is crowded at the port of this seat at this moment, and all else stays
pub record IsCrowded (seat now : ℕ) (old new : Crowds) : Type 0 where
  pub here : seat < SEATS → crowded_at new seat ≡ Some now
  pub elsewhere : (other : ℕ) → other ≢ seat → crowded_at new other ≡ crowded_at old other
  pub counts : (other : ℕ) → turned_away_at new other ≡ turned_away_at old other

-- one more was turned away there, so it is crowded
pub record TurnsAway (seat now : ℕ) (old new : Crowds) : Type 0 where
  pub here : seat < SEATS → crowded_at new seat ≡ Some now
  pub elsewhere : (other : ℕ) → other ≢ seat → crowded_at new other ≡ crowded_at old other
  pub counted : seat < SEATS → turned_away_at new seat ≡ min 18446744073709551615 (turned_away_at old seat + 1)
  pub others : (other : ℕ) → other ≢ seat → turned_away_at new other ≡ turned_away_at old other

-- one more was, where this tells so; else all stays
abbrev pub CountsAway : Bool → (seat now : ℕ) → Crowds → Crowds → Type 0
CountsAway true seat now old new = TurnsAway seat now old new
CountsAway false seat now old new = new ≡ old

-- one who stood at a place had to make room, where a seat is given, to whose port he had come
abbrev pub MakesRoom : Option ℕ → ℕ → Crowds → Crowds → Type 0
MakesRoom None now old new = new ≡ old
MakesRoom (Some seat) now old new = TurnsAway seat now old new

-- who was called was turned away or not, and somebody made room for him or not
abbrev pub CountsCalled : Bool → Option ℕ → (seat now : ℕ) → Crowds → Crowds → Type 0
CountsCalled turned_away made_room seat now old new = (between : Crowds) × (CountsAway turned_away seat now old between × MakesRoom made_room now between new)
