-- How the lines of one match hang together, and what they don't tell.
use Rattle.std.specs.Prelude.{◌≡◌, ◌≢◌, ℕ, ◌<◌, ◌⊎◌, List, [], ◌∷◌, ◌++◌, IsTrue, length, take, sum, slice_get, slice_index_or, Option, Some, unwrap_or}
use Rattle.std.specs.Option.{option_map}
use Rattle.std.specs.List.{concat}
use Rattle.game_def.specs.Game.{Game}
use Rattle.betting.specs.declared.action.Action.{Action}
use Rattle.betting.specs.Text.{text}
use Rattle.card_core.specs.Deal.{hole_of}
pub use Rattle.slot_log.specs.Beginnings.{IsBeginning}
use Rattle.slot_log.specs.Hand.{Hand}
use Rattle.slot_log.specs.Dealer.{hands_of, hand_at}
use Rattle.slot_log.specs.declared.command.Command.{Command}
use Rattle.slot_log.specs.declared.command.Command.TheVariants.{Deal, Act, Away}
use Rattle.matchstate.specs.Cards.{boards_of}
use Rattle.matchstate.specs.View.{View, sees, rounds_seen, position_of, seat_view}
use Rattle.matchstate.specs.Line.{line, line_text}

-- a text begins another
abbrev pub IsTextBeginning : List ℕ → List ℕ → Type 0
IsTextBeginning shorter longer = (rest : List ℕ) × (longer ≡ shorter ++ rest)

-- the places of a deal: the hole cards of a position, counted from 0, and the cards of the board, likewise
pub data Place : Type 0 where
  hole : (position card : ℕ) → Place
  board : (card : ℕ) → Place

-- the card of a deal at a place
abbrev pub card_at : List ℕ → Place → Option ℕ
card_at deal (hole position card) = slice_get (hole_of deal position) card
card_at deal (board card) = slice_get (concat (boards_of deal)) card

-- the card that a view shows at a place, if any
abbrev pub shown_at : View → Place → Option ℕ
shown_at view (hole position card) = slice_get (slice_index_or view.holes position []) card
shown_at view (board card) = slice_get (concat view.boards) card

-- what two views of one hand must have in common: one list of actions begins the other, so does one betting
-- text, and the cards are equal wherever both show one
pub record AgreeOnHand (first second : View) : Type 0 where
  pub actions : IsBeginning first.past second.past ⊎ IsBeginning second.past first.past
  pub texts : IsTextBeginning (text first.game first.past) (text second.game second.past)
      ⊎ IsTextBeginning (text second.game second.past) (text first.game first.past)
  pub cards : (place : Place) (card other : ℕ) → shown_at first place ≡ Some card → shown_at second place ≡ Some other → card ≡ other

-- two views agree: they are of different hands, or agree on their hand
abbrev pub Agree : View → View → Type 0
Agree first second = (first.hand ≢ second.hand) ⊎ AgreeOnHand first second

-- the views behind the lines of any two beginnings of one list of commands, for any two seats, agree
abbrev pub LinesAgree : Type 0
LinesAgree =
    (game : Game) (count : ℕ) (commands first second : List Command) → IsBeginning first commands → IsBeginning second commands
    → (seat other : ℕ) (view another : View)
    → seat_view game (hands_of game count first) seat ≡ Some view → seat_view game (hands_of game count second) other ≡ Some another
    → (line game count first seat ≡ Some (line_text view)) × (line game count second other ≡ Some (line_text another)) × Agree view another

-- how many cards the board shows for so many later rounds
abbrev pub board_count : ℕ → ℕ
board_count rounds = sum (take rounds (3 ∷ 1 ∷ 1 ∷ []))

-- a viewer sees a place of a deal after these actions
abbrev pub SeesPlace : Game → List Action → ℕ → Place → Type 0
SeesPlace game past viewer (hole position card) = IsTrue (sees game past viewer position)
SeesPlace game past viewer (board card) = card < board_count (rounds_seen game past)

-- the actions of the hand of a number; none where it wasn't dealt
abbrev pub past_at : List Hand → ℕ → List Action
past_at hands number = unwrap_or (option_map (λ found. found.past) (hand_at hands number)) []

-- after these hands a seat sees a place of the hand of a number
abbrev pub SeatSees : Game → List Hand → ℕ → ℕ → Place → Type 0
SeatSees game hands seat number place = SeesPlace game (past_at hands number) (position_of game.players number seat) place

-- two commands are the same but for cards of a deal at places that aren't seen
abbrev pub SameButUnseen : (ℕ → Place → Type 0) → Command → Command → Type 0
SameButUnseen Seen (Deal hand deal) (Deal other cards) =
    (hand ≡ other) × (length deal ≡ length cards) × ((place : Place) → Seen hand place → card_at deal place ≡ card_at cards place)
SameButUnseen Seen (Deal hand deal) (Act other index action) = ⊥
SameButUnseen Seen (Deal hand deal) (Away other index) = ⊥
SameButUnseen Seen (Act hand index action) (Deal other cards) = ⊥
SameButUnseen Seen (Act hand index action) (Act other place step) = (hand ≡ other) × (index ≡ place) × (action ≡ step)
SameButUnseen Seen (Act hand index action) (Away other place) = ⊥
SameButUnseen Seen (Away hand index) (Deal other cards) = ⊥
SameButUnseen Seen (Away hand index) (Act other place step) = ⊥
SameButUnseen Seen (Away hand index) (Away other place) = (hand ≡ other) × (index ≡ place)

abbrev pub AllSameButUnseen : (ℕ → Place → Type 0) → List Command → List Command → Type 0
AllSameButUnseen Seen [] [] = Unit {0}
AllSameButUnseen Seen [] (other ∷ others) = ⊥
AllSameButUnseen Seen (command ∷ commands) [] = ⊥
AllSameButUnseen Seen (command ∷ commands) (other ∷ others) = SameButUnseen Seen command other × AllSameButUnseen Seen commands others

-- lists of one length that differ only in cards that the seat sees after neither of them: hole cards of
-- others that no showdown in them shows, and board cards of rounds that their hand doesn't reach in them
abbrev pub Alike : Game → ℕ → ℕ → List Command → List Command → Type 0
Alike game count seat first second =
    AllSameButUnseen (λ number place. SeatSees game (hands_of game count first) seat number place ⊎ SeatSees game (hands_of game count second) seat number place) first second

-- lists that are alike for a seat give it the same line
abbrev pub AlikeLines : Type 0
AlikeLines = (game : Game) (count seat : ℕ) (first second : List Command) → Alike game count seat first second → line game count first seat ≡ line game count second seat
