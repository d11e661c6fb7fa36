-- The lines of a match's log. Each ends with LF.
use Rattle.std.specs.Prelude.{ℕ, zero, suc, List, [], ◌∷◌, ◌++◌, ℤ, take, codes, decimal}
use Rattle.std.specs.Fmt.{signed_decimal}
use Rattle.std.specs.List.{join_by}
use Rattle.game_def.specs.Game.{Game}
use Rattle.betting.specs.declared.action.Action.{Action}
use Rattle.betting.specs.Text.{text}
use Rattle.slot_log.specs.Hand.{Hand}
use Rattle.matchstate.specs.Cards.{cards_field, holes_of, boards_of}
use Rattle.matchstate.specs.View.{rounds_seen}
use Rattle.match_log.specs.Names.{names_by_position}
use Rattle.match_log.specs.Payoffs.{payoffs_of, totals_of}

-- # name/game/hands NAME GAME HANDS
unfoldable pub header_line : List ℕ → List ℕ → ℕ → List ℕ
header_line name game hands = codes "# name/game/hands " ++ (name ++ 32 ∷ (game ++ 32 ∷ (decimal hands ++ 10 ∷ [])))

-- in front of all pieces but the first stands |
abbrev pub bar_before : ℕ → List ℕ
bar_before zero = []
bar_before (suc place) = 124 ∷ []

-- whole chips with | between them, a loss behind a minus sign
abbrev pub values_field : List ℤ → List ℕ
values_field values = join_by signed_decimal (124 ∷ []) values

-- texts with | between them
abbrev pub with_bars : List (List ℕ) → List ℕ
with_bars texts = join_by (λ text. text) (124 ∷ []) texts

-- names with | between them
abbrev pub names_field : List (List ℕ) → List ℕ
names_field names = with_bars names

-- all hole cards, and the board of the rounds reached
abbrev pub shown_cards : Game → List Action → List ℕ → List ℕ
shown_cards game past deal = cards_field (holes_of game.players deal) (take (rounds_seen game past) (boards_of deal))

-- STATE:hand:betting:cards:values:names, with values and names by position
unfoldable pub state_text : Game → ℕ → Hand → List ℤ → List (List ℕ) → List ℕ
state_text game number hand values names =
    codes "STATE:" ++ (decimal number ++ 58 ∷ (text game hand.past ++ 58 ∷ (shown_cards game hand.past hand.deal ++ 58 ∷ (values_field values ++ 58 ∷ (names_field names ++ 10 ∷ [])))))

-- the line of a finished hand
unfoldable pub state_line : Game → List (List ℕ) → ℕ → Hand → List ℕ
state_line game names number hand = state_text game number hand (payoffs_of game hand) (names_by_position game.players number names)

-- SCORE:values:names, with values and names in seat order
unfoldable pub score_text : List ℤ → List (List ℕ) → List ℕ
score_text values names = codes "SCORE:" ++ (values_field values ++ 58 ∷ (names_field names ++ 10 ∷ []))

-- the line of a match that is over
unfoldable pub score_line : Game → List (List ℕ) → List Hand → List ℕ
score_line game names hands = score_text (totals_of game hands) names
