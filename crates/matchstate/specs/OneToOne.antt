-- Texts that say one thing only.
use Rattle.std.specs.Prelude.{◌≡◌, ℕ, List, Bool}
use Rattle.game_def.specs.Game.{Game, IsGame}
use Rattle.card_core.specs.Deal.{IsDeal}
use Rattle.betting.specs.declared.action.Action.{Action}
use Rattle.betting.specs.Legal.{Legal}
use Rattle.betting.specs.Text.{text}
use Rattle.matchstate.specs.Cards.{cards_field, holes_of, board_shown, shown_text, deal_text, AreSeen, AreInPlace}

-- legal plays of one game with one betting text are the same
abbrev pub BettingTextsAreOneToOne : Type 0
BettingTextsAreOneToOne = (game : Game) (first second : List Action) → IsGame game → Legal game first → Legal game second
    → text game first ≡ text game second → first ≡ second

-- cards in place for the same positions and rounds with one cards field are the same
abbrev pub CardsFieldsAreOneToOne : Type 0
CardsFieldsAreOneToOne = (players : ℕ) (sees : ℕ → Bool) (rounds : ℕ) (holes boards others streets : List (List ℕ))
    → AreInPlace players sees rounds holes boards → AreInPlace players sees rounds others streets
    → cards_field holes boards ≡ cards_field others streets → (holes ≡ others) × (boards ≡ streets)

-- and so are cards that are seen of some deal
abbrev pub SeenFieldsAreOneToOne : Type 0
SeenFieldsAreOneToOne = (players : ℕ) (sees : ℕ → Bool) (rounds : ℕ) (holes boards others streets : List (List ℕ))
    → AreSeen players sees rounds holes boards → AreSeen players sees rounds others streets
    → cards_field holes boards ≡ cards_field others streets → (holes ≡ others) × (boards ≡ streets)

-- deals whose hole cards and board of so many later rounds have one text have the same there
abbrev pub ShownDealsAreOneToOne : Type 0
ShownDealsAreOneToOne = (players rounds : ℕ) (first second : List ℕ) → IsDeal players first → IsDeal players second
    → shown_text players rounds first ≡ shown_text players rounds second
    → (holes_of players first ≡ holes_of players second) × (board_shown rounds first ≡ board_shown rounds second)

-- deals with one text are the same
abbrev pub DealTextsAreOneToOne : Type 0
DealTextsAreOneToOne = (players : ℕ) (first second : List ℕ) → IsDeal players first → IsDeal players second
    → deal_text players first ≡ deal_text players second → first ≡ second
