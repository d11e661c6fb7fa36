-- What is said of a text: that it is the log of a match that is over, or which line is the first at fault, and why.
use Rattle.std.specs.Prelude.{◌≡◌, ◌≢◌, ℕ, ◌+◌, ◌<◌, ◌≤◌, ◌⊎◌, true, List, [], ◌∷◌, ◌++◌, map, length, codes, decimal, Result, Ok, Err}
use Rattle.std.specs.Fmt.{signed_decimal}
use Rattle.std.specs.List.{AllByRecursion}
use Rattle.std.specs.Str.Parse.{digits_value}
use Rattle.game_def.specs.Game.{Game}
use Rattle.game_def.specs.Text.{HasNoFeed}
use Rattle.card_core.specs.Deal.{IsDeal, player_count}
use Rattle.betting.specs.Legal.{Legal}
use Rattle.betting.specs.Text.{text}
use Rattle.slot_log.specs.Hand.{Hand}
use Rattle.slot_log.specs.Dealer.{is_finished, is_match_over, hands_of}
use Rattle.slot_log.specs.declared.command.Command.{Command}
use Rattle.slot_log.specs.declared.command.Command.TheVariants.{Deal, Act, Away}
use Rattle.match_log.specs.Names.{IsName, IsGameWord, AreNames, names_by_position}
use Rattle.match_log.specs.Payoffs.{payoffs_of}
use Rattle.match_log.specs.Lines.{header_line, shown_cards, with_bars, names_field, score_line}
use Rattle.match_log.specs.Numeral.{IsDecimal, IsWhole}
use Rattle.match_log.specs.Log.{Title, state_lines, log_lines}
use Rattle.match_log.specs.declared.fault_kind.LogFaultKind.{LogFaultKind}
use Rattle.match_log.specs.declared.fault_kind.LogFaultKind.TheVariants.{BadHeader, BadState, WrongNumber, WrongValues, WrongScore}
use Rattle.match_log.specs.declared.fault.LogFault.{LogFault}

-- what a header can say
pub record IsTitle (title : Title) : Type 0 where
  pub name : IsName title.name
  pub game : IsGameWord title.game
  pub least : 1 ≤ title.hands
  pub most : title.hands ≤ 10000

-- what a command deals is a deal: cards of the pack, none of them twice
abbrev pub DealsFairly : Command → Type 0
DealsFairly (Deal hand deal) = IsDeal (player_count deal) deal
DealsFairly (Act hand index action) = Unit {0}
DealsFairly (Away hand index) = Unit {0}

-- the whole log after some list of commands, none of which deals a card twice, that ends the match of its header
pub record IsMatchLog (game : Game) (bytes : List ℕ) : Type 0 where
  pub title : Title
  pub is_title : IsTitle title
  pub names : List (List ℕ)
  pub are_names : AreNames game.players names
  pub commands : List Command
  pub deals : AllByRecursion DealsFairly commands
  pub over : is_match_over game title.hands (hands_of game title.hands commands) ≡ true
  pub lines : bytes ≡ log_lines game title names commands

-- a hand that was dealt, played by the rules, and is over
pub record IsPlayed (game : Game) (hand : Hand) : Type 0 where
  pub dealt : IsDeal game.players hand.deal
  pub legal : Legal game hand.past
  pub finished : is_finished game hand ≡ true

-- ---- the lines before the first at fault

-- the text begins with a header, and the rest stands behind it
pub record HasTitle (bytes : List ℕ) (title : Title) (rest : List ℕ) : Type 0 where
  pub is_title : IsTitle title
  pub whole : bytes ≡ header_line title.name title.game title.hands ++ rest

-- then come the right lines of these hands (newest first), no more than the match has, and the rest behind them;
-- where there is no hand yet, the names are any
pub record HasHands (game : Game) (bytes : List ℕ) (title : Title) (names : List (List ℕ)) (hands : List Hand) (rest : List ℕ) : Type 0 where
  pub behind_header : List ℕ
  pub header : HasTitle bytes title behind_header
  pub are_names : AreNames game.players names
  pub played : AllByRecursion (IsPlayed game) hands
  pub no_more : length hands ≤ title.hands
  pub lines : behind_header ≡ state_lines game names hands ++ rest

-- ---- the line behind them

-- the rest begins with a whole line, which begins with these letters
pub record BeginsLine (letters rest : List ℕ) : Type 0 where
  pub line : List ℕ
  pub behind : List ℕ
  pub one_line : HasNoFeed line
  pub whole : rest ≡ letters ++ (line ++ 10 ∷ behind)

-- the names of a line are the seats' by position in a hand of its own number; the first line may have any
-- names, and so gives the seats theirs
abbrev pub FitNames : ℕ → List (List ℕ) → List Hand → ℕ → List (List ℕ) → Type 0
FitNames players names [] number by_position =
    (seats : List (List ℕ)) × AreNames players seats × (by_position ≡ names_by_position players number seats)
FitNames players names (hand ∷ earlier) number by_position = by_position ≡ names_by_position players number names

-- STATE:hand:betting:cards:values:names, with a number and values of any size as they are said
unfoldable pub said_text : Game → List ℕ → Hand → List (List ℕ) → List (List ℕ) → List ℕ
said_text game number hand values names =
    codes "STATE:" ++ (number ++ 58 ∷ (text game hand.past ++ 58 ∷ (shown_cards game hand.past hand.deal ++ 58 ∷ (with_bars values ++ 58 ∷ (names_field names ++ 10 ∷ [])))))

-- the rest begins with the line of a played hand, whatever decimal says its number and whatever whole numbers
-- its values
pub record HasState (game : Game) (names : List (List ℕ)) (hands : List Hand) (rest number : List ℕ) (hand : Hand) (values : List (List ℕ)) : Type 0 where
  pub played : IsPlayed game hand
  pub numbered : IsDecimal number
  pub value_each : length values ≡ game.players
  pub whole_values : AllByRecursion IsWhole values
  pub by_position : List (List ℕ)
  pub names_fit : FitNames game.players names hands (digits_value 10 number) by_position
  pub behind : List ℕ
  pub whole : rest ≡ said_text game number hand values by_position ++ behind

-- no line of a played hand begins the rest
abbrev pub HasNoState : Game → List (List ℕ) → List Hand → List ℕ → Type 0
HasNoState game names hands rest = (number : List ℕ) (hand : Hand) (values : List (List ℕ)) → ¬ (HasState game names hands rest number hand values)

-- what is wrong behind these hands where a hand's line is due: something that is neither a hand's line nor a whole
-- line that begins with SCORE:; a whole line that begins with SCORE:, or a hand's line of another number; a hand's
-- line of the right number with other values than the hand pays; nothing at all
abbrev pub IsStateFault : Game → List (List ℕ) → List Hand → List ℕ → LogFaultKind → Type 0
IsStateFault game names hands rest BadHeader = ⊥
IsStateFault game names hands rest BadState = (rest ≢ []) × ¬ (BeginsLine (codes "SCORE:") rest) × HasNoState game names hands rest
IsStateFault game names hands rest WrongNumber =
    BeginsLine (codes "SCORE:") rest
    ⊎ ((number : List ℕ) × (hand : Hand) × (values : List (List ℕ)) × HasState game names hands rest number hand values × (number ≢ decimal (length hands)))
IsStateFault game names hands rest WrongValues =
    (hand : Hand) × (values : List (List ℕ)) × HasState game names hands rest (decimal (length hands)) hand values
    × (values ≢ map signed_decimal (payoffs_of game hand))
IsStateFault game names hands rest WrongScore = rest ≡ []

-- what is wrong behind all hands of the match, where the score is due: a whole line that begins with STATE:; anything
-- else that isn't the score's whole line, also nothing at all
abbrev pub IsScoreFault : Game → List (List ℕ) → List Hand → List ℕ → LogFaultKind → Type 0
IsScoreFault game names hands rest BadHeader = ⊥
IsScoreFault game names hands rest BadState = ⊥
IsScoreFault game names hands rest WrongNumber = BeginsLine (codes "STATE:") rest
IsScoreFault game names hands rest WrongValues = ⊥
IsScoreFault game names hands rest WrongScore =
    ¬ (BeginsLine (codes "STATE:") rest) × ((behind : List ℕ) → rest ≢ score_line game names hands ++ behind)

-- ---- the first line at fault

-- what is wrong with line 1: a text that begins with no header; the empty text, which lacks a line
abbrev pub IsHeaderFault : List ℕ → LogFaultKind → Type 0
IsHeaderFault bytes BadHeader = (bytes ≢ []) × ((title : Title) (rest : List ℕ) → ¬ (HasTitle bytes title rest))
IsHeaderFault bytes BadState = ⊥
IsHeaderFault bytes WrongNumber = ⊥
IsHeaderFault bytes WrongValues = ⊥
IsHeaderFault bytes WrongScore = bytes ≡ []

-- the fault of a line behind the header and some right lines of hands
pub record IsLineFault (game : Game) (bytes : List ℕ) (fault : LogFault) : Type 0 where
  pub title : Title
  pub names : List (List ℕ)
  pub hands : List Hand
  pub rest : List ℕ
  pub before : HasHands game bytes title names hands rest
  pub line : fault.line ≡ length hands + 2
  pub wrong :
      ((length hands < title.hands) × IsStateFault game names hands rest fault.kind)
      ⊎ ((length hands ≡ title.hands) × IsScoreFault game names hands rest fault.kind)

-- a line behind the score
pub record IsFurtherLine (game : Game) (bytes : List ℕ) (fault : LogFault) : Type 0 where
  pub title : Title
  pub names : List (List ℕ)
  pub hands : List Hand
  pub behind : List ℕ
  pub before : HasHands game bytes title names hands (score_line game names hands ++ behind)
  pub all_hands : length hands ≡ title.hands
  pub further : behind ≢ []
  pub line : fault.line ≡ length hands + 3
  pub kind : fault.kind ≡ WrongScore

-- the first line at fault, and the first of its faults
abbrev pub IsFirstFault : Game → List ℕ → LogFault → Type 0
IsFirstFault game bytes fault =
    ((fault.line ≡ 1) × IsHeaderFault bytes fault.kind) ⊎ (IsLineFault game bytes fault ⊎ IsFurtherLine game bytes fault)

-- what is said of a text
abbrev pub Says : Game → List ℕ → Result (Unit {0}) LogFault → Type 0
Says game bytes (Ok _) = IsMatchLog game bytes
Says game bytes (Err fault) = IsFirstFault game bytes fault
