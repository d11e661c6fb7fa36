-- Whether a node is apart, and which bots it tells to come again later.
use Rattle.std.specs.Prelude.{◌≡◌, ◌⊎◌, ℕ, ◌<◌, ◌≤◌, Bool, true, false, List, Some}
use Rattle.node_seats.specs.declared.bot.Parting.TheVariants.{Wait}
use Rattle.node_seats.specs.declared.seat.Seat.{Seat}
use Rattle.node_seats.specs.Seating.{bot_at}
use Rattle.node_service.specs.declared.apart.Apart.{Apart}

abbrev pub together : Apart
together = record { is_apart = false; times = 0 }

-- it was apart when this began, or came to be so since
abbrev pub WasApart : Apart → Apart → Type 0
WasApart old new = (old.is_apart ≡ true) ⊎ (old.times < new.times)

-- so it is where it is apart in the end
pub record MovesOn (old new : Apart) : Type 0 where
  pub times : old.times ≤ new.times
  pub is : new.is_apart ≡ true → WasApart old new

-- a bot that is told to come again later was told so before, or this is so
abbrev pub PutsOffBy : Type 0 → List Seat → List Seat → Type 0
PutsOffBy so were are = (seat : ℕ) → (bot_at are seat).parting ≡ Some Wait → ((bot_at were seat).parting ≡ Some Wait) ⊎ so

abbrev pub PutsOff : Bool → List Seat → List Seat → Type 0
PutsOff apart were are = PutsOffBy (apart ≡ true) were are

-- no bot is told to come again later but while the node is apart
pub record PutsOffApart (old new : Apart) (were are : List Seat) : Type 0 where
  pub moves : MovesOn old new
  pub told : PutsOffBy (WasApart old new) were are
