-- What a match had come to when so many actions of one of its hands had been taken.
use Rattle.std.specs.Prelude.{◌≡◌, ℕ, ◌-◌, ◌==◌, nat_le, if◌then◌else◌, List, [], ◌∷◌, length, drop, Option, Some, None}
use Rattle.std.specs.Option.{option_map}
use Rattle.game_def.specs.Game.{Game}
use Rattle.slot_log.specs.Beginnings.{IsBeginning}
use Rattle.slot_log.specs.Hand.{Hand}
use Rattle.slot_log.specs.Dealer.{hands_of}
use Rattle.slot_log.specs.declared.command.Command.{Command}
use Rattle.matchstate.specs.Line.{line_text}
use Rattle.matchstate.specs.View.{View, IsView, seat_view}

-- a hand with its first so many actions
abbrev pub cut_to : Hand → ℕ → Hand
cut_to hand actions = record { deal = hand.deal; past = drop (length hand.past - actions) hand.past }

-- the hands then, newest first; none if the match hasn't come to that
abbrev pub hands_at : List Hand → ℕ → ℕ → Option (List Hand)
hands_at [] hand actions = None
hands_at (newest ∷ earlier) hand actions =
    if hand == length earlier then (if nat_le actions (length newest.past) then Some (cut_to newest actions ∷ earlier) else None)
    else hands_at earlier hand actions

-- what a seat saw of these hands
abbrev pub seen_by : Game → ℕ → Option (List Hand) → Option View
seen_by game seat None = None
seen_by game seat (Some hands) = seat_view game hands seat

-- what a seat saw then
abbrev pub seat_view_at : Game → List Hand → ℕ → ℕ → ℕ → Option View
seat_view_at game hands seat hand actions = seen_by game seat (hands_at hands hand actions)

-- and the line that it was told
abbrev pub seat_line_at : Game → List Hand → ℕ → ℕ → ℕ → Option (List ℕ)
seat_line_at game hands seat hand actions = option_map line_text (seat_view_at game hands seat hand actions)

-- the line of what a seat saw then, which some viewer could see
pub record IsSeatLine (game : Game) (hands : List Hand) (seat hand actions : ℕ) (line : List ℕ) : Type 0 where
  pub view : View
  pub found : seat_view_at game hands seat hand actions ≡ Some view
  pub is_view : IsView view
  pub same_game : view.game ≡ game
  pub line_is : line ≡ line_text view

-- what a match had come to are its hands after a beginning of its commands
abbrev pub PastIsABeginning : Type 0
PastIsABeginning = (game : Game) (count : ℕ) (commands : List Command) (hand actions : ℕ) (hands : List Hand) → hands_at (hands_of game count commands) hand actions ≡ Some hands
    → (earlier : List Command) × (IsBeginning earlier commands × (hands_of game count earlier ≡ hands))

-- and its hands after each beginning are found, by the newest one's number and actions: so too those that it has now
abbrev pub BeginningsArePast : Type 0
BeginningsArePast = (game : Game) (count : ℕ) (commands earlier : List Command) (newest : Hand) (before : List Hand) → IsBeginning earlier commands
    → hands_of game count earlier ≡ newest ∷ before → hands_at (hands_of game count commands) (length before) (length newest.past) ≡ Some (newest ∷ before)
