-- Who came to ports of seats and found no place, for notes.
use Rattle.std.specs.Prelude.{◌≡◌, ℕ, ◌-◌, min, if◌then◌else◌, get_or, Some, None}
use Rattle.node_links.specs.Refusing.{is_noted}
use Rattle.node_service.specs.declared.turned_away.TurnedAwayTold.{TurnedAwayTold}
use Rattle.node_service.specs.declared.turned_away.TurnedAway.{TurnedAway}

-- no note was made
abbrev pub none_told : TurnedAwayTold
none_told = record { count = 0; noted = None }

-- what was told of a seat
abbrev pub told_of : TurnedAway → ℕ → TurnedAwayTold
told_of away seat = get_or away.all seat none_told

-- so many are to be told at this moment, where it were so many so far: all who weren't told, where the last note may be followed by one, and else nobody yet
abbrev pub due_of : TurnedAwayTold → ℕ → ℕ → ℕ
due_of told so_far now = if is_noted told.noted now then min (so_far - told.count) 4294967295 else 0

-- of this seat all so far are told at this moment, and of the others it is as before
pub record Becomes (at so_far now : ℕ) (old new : TurnedAway) : Type 0 where
  pub here : told_of new at ≡ record { count = so_far; noted = Some now }
  pub others : (seat : ℕ) → (at ≡ seat → ⊥) → told_of new seat ≡ told_of old seat
