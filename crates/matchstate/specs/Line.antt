-- The server's line of the ACPC protocol 2.0.0: MATCHSTATE:position:hand:betting:cards.
use Rattle.std.specs.Prelude.{◌≡◌, ℕ, ◌<◌, ◌≤◌, List, [], ◌∷◌, ◌++◌, Option, Result, Ok, Err, codes, decimal}
use Rattle.std.specs.Option.{option_map, option_to_list}
use Rattle.std.specs.List.{flat_map}
use Rattle.game_def.specs.Game.{Game}
use Rattle.betting.specs.declared.action.Action.{Action}
use Rattle.betting.specs.Text.{text}
use Rattle.betting.specs.Legal.{Legal}
use Rattle.slot_log.specs.Hand.{Hand}
use Rattle.slot_log.specs.declared.command.Command.{Command}
use Rattle.slot_log.specs.Dealer.{hands_of}
use Rattle.matchstate.specs.Free.{IsFreeOf}
use Rattle.matchstate.specs.Cards.{cards_field, AreSeen}
use Rattle.matchstate.specs.View.{View, seat_view, last_hand, sees, rounds_seen}
use Rattle.matchstate.specs.declared.line_fault.LineFault.{LineFault}
use Rattle.matchstate.specs.declared.line_fault.LineFault.TheVariants.{NotMatchstate, BadNumber, BadBetting, BadCards, BadAction}

-- the four fields behind the word
pub record Fields : Type 0 where
  pub position : List ℕ
  pub hand : List ℕ
  pub betting : List ℕ
  pub cards : List ℕ

-- the word and the fields, with : between them
abbrev pub joined : Fields → List ℕ
joined fields = codes "MATCHSTATE:" ++ (fields.position ++ 58 ∷ (fields.hand ++ 58 ∷ (fields.betting ++ 58 ∷ fields.cards)))

-- no : stands in a field
abbrev pub IsField : List ℕ → Type 0
IsField bytes = IsFreeOf 58 bytes

-- the text is the word and four fields
pub record HasFields (bytes : List ℕ) (fields : Fields) : Type 0 where
  pub whole : bytes ≡ joined fields
  pub position_field : IsField fields.position
  pub hand_field : IsField fields.hand
  pub betting_field : IsField fields.betting
  pub cards_field : IsField fields.cards

-- the first two fields are a position of the game and a hand's number, decimals without leading zeros
pub record AreNumbers (game : Game) (fields : Fields) (position hand : ℕ) : Type 0 where
  pub position_text : fields.position ≡ decimal position
  pub position_below : position < game.players
  pub hand_text : fields.hand ≡ decimal hand
  pub hand_most : hand ≤ last_hand

-- the third field is the betting text of a legal list of actions
pub record IsBetting (game : Game) (fields : Fields) (past : List Action) : Type 0 where
  pub betting_text : fields.betting ≡ text game past
  pub legal : Legal game past

-- the last field is the text of cards that a viewer at the position sees of some deal after these actions
pub record AreCards (game : Game) (fields : Fields) (position : ℕ) (past : List Action) (holes boards : List (List ℕ)) : Type 0 where
  pub cards_text : fields.cards ≡ cards_field holes boards
  pub seen : AreSeen game.players (sees game past position) (rounds_seen game past) holes boards

-- a server's line and the view that it says
pub record IsLine (game : Game) (bytes : List ℕ) (view : View) : Type 0 where
  pub fields : Fields
  pub has_fields : HasFields bytes fields
  pub same_game : view.game ≡ game
  pub numbers : AreNumbers game fields view.position view.hand
  pub betting : IsBetting game fields view.past
  pub cards : AreCards game fields view.position view.past view.holes view.boards

-- what a text reads as: the view of a server's line, or the first of its faults; a line has no action that could be bad
abbrev pub ReadsAs : Game → List ℕ → Result View LineFault → Type 0
ReadsAs game bytes (Ok view) = IsLine game bytes view
ReadsAs game bytes (Err NotMatchstate) = (fields : Fields) → ¬ (HasFields bytes fields)
ReadsAs game bytes (Err BadNumber) =
    (fields : Fields) × HasFields bytes fields × ((position hand : ℕ) → ¬ (AreNumbers game fields position hand))
ReadsAs game bytes (Err BadBetting) =
    (fields : Fields) × HasFields bytes fields × ((position : ℕ) × (hand : ℕ) × AreNumbers game fields position hand)
    × ((past : List Action) → ¬ (IsBetting game fields past))
ReadsAs game bytes (Err BadCards) =
    (fields : Fields) × HasFields bytes fields
    × ((position : ℕ) × (hand : ℕ) × AreNumbers game fields position hand
    × ((past : List Action) × IsBetting game fields past
    × ((holes boards : List (List ℕ)) → ¬ (AreCards game fields position past holes boards))))
ReadsAs game bytes (Err BadAction) = ⊥

-- the one text of a view
abbrev pub line_text : View → List ℕ
line_text view =
    joined (record {
      position = decimal view.position;
      hand = decimal view.hand;
      betting = text view.game view.past;
      cards = cards_field view.holes view.boards;
    })

-- the betting text of the newest hand; none before the first deal
abbrev pub newest_text : Game → List Hand → List ℕ
newest_text game [] = []
newest_text game (newest ∷ earlier) = text game newest.past

-- the line that a seat gets after these hands; nothing before the first deal
abbrev pub seat_text : Game → List Hand → ℕ → List ℕ
seat_text game hands seat = flat_map line_text (option_to_list (seat_view game hands seat))

-- the line that a seat gets after a list of commands, newest first; none before the first deal
abbrev pub line : Game → ℕ → List Command → ℕ → Option (List ℕ)
line game count commands seat = option_map line_text (seat_view game (hands_of game count commands) seat)
