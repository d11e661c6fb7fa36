-- What is read from a log, piece by piece.
use Rattle.std.specs.Prelude.{◌≡◌, ℕ, List, [], ◌∷◌, ◌++◌, length, take, codes, Option, Some, None}
use Rattle.matchstate.specs.Free.{IsFreeOf}
use Rattle.std.specs.List.{AllByRecursion}
use Rattle.game_def.specs.Game.{Game}
use Rattle.slot_log.specs.Hand.{Hand}
use Rattle.betting.specs.Text.{text}
use Rattle.match_log.specs.Check.{IsPlayed}
use Rattle.match_log.specs.Names.{IsName, AreNames}
use Rattle.match_log.specs.Numeral.{IsDecimal, IsWhole}
use Rattle.match_log.specs.Lines.{shown_cards, with_bars, names_field, state_line}
use Rattle.match_log.specs.Tally.{IsTallyOf}
use Rattle.match_log.specs.declared.checked.Checked.{Checked}
use Rattle.match_log.specs.declared.state_fields.StateFields.{StateFields}

-- the fields of a hand's line
pub record Fields : Type 0 where
  pub number : List ℕ
  pub betting : List ℕ
  pub cards : List ℕ
  pub values : List ℕ
  pub names : List ℕ

-- the fields that were cut from a text
abbrev pub fields_in : StateFields → Fields
fields_in fields = record {
  number = fields.number.now;
  betting = fields.betting.now;
  cards = fields.cards.now;
  values = fields.values.now;
  names = fields.names.now;
}

-- the word and the fields with : between them, and LF and the rest behind them
abbrev pub joined : Fields → List ℕ → List ℕ
joined fields behind =
    codes "STATE:" ++ (fields.number ++ 58 ∷ (fields.betting ++ 58 ∷ (fields.cards ++ 58 ∷ (fields.values ++ 58 ∷ (fields.names ++ 10 ∷ behind)))))

-- it can be told where each field ends
pub record AreApart (fields : Fields) : Type 0 where
  pub number_field : IsFreeOf 58 fields.number
  pub betting_field : IsFreeOf 58 fields.betting
  pub cards_field : IsFreeOf 58 fields.cards
  pub values_field : IsFreeOf 58 fields.values
  pub names_field : IsFreeOf 10 fields.names

-- the fields say a played hand, whole numbers for its values, and names by position, whoever they are
pub record AreOfHand (game : Game) (fields : Fields) (hand : Hand) (values by_position : List (List ℕ)) : Type 0 where
  pub numbered : IsDecimal fields.number
  pub played : IsPlayed game hand
  pub betting_text : fields.betting ≡ text game hand.past
  pub cards_text : fields.cards ≡ shown_cards game hand.past hand.deal
  pub value_each : length values ≡ game.players
  pub whole_values : AllByRecursion IsWhole values
  pub values_text : fields.values ≡ with_bars values
  pub name_each : length by_position ≡ game.players
  pub each_name : AllByRecursion IsName by_position
  pub names_text : fields.names ≡ names_field by_position

-- names that may be the seats': those that are known, any where none are
abbrev pub MayBeSeats : ℕ → Option (List (List ℕ)) → List (List ℕ) → Type 0
MayBeSeats players None seats = AreNames players seats
MayBeSeats players (Some names) seats = seats ≡ take players names

-- the seats' names are known from the first line on
abbrev pub AreKnown : ℕ → List (List ℕ) → List Hand → Option (List (List ℕ)) → Type 0
AreKnown players names [] known = known ≡ None
AreKnown players names (hand ∷ earlier) None = ⊥
AreKnown players names (hand ∷ earlier) (Some seats) = take players seats ≡ names

-- what the right lines of these hands, newest first, have said
pub record HasSaid (game : Game) (names : List (List ℕ)) (hands : List Hand) (checked : Checked) : Type 0 where
  pub tally : IsTallyOf game hands checked.score
  pub known : AreKnown game.players names hands checked.names

-- the first line names the seats, each later one the same seats
abbrev pub AreNamed : List Hand → List (List ℕ) → List (List ℕ) → Type 0
AreNamed [] names seats = Unit {0}
AreNamed (hand ∷ earlier) names seats = seats ≡ names

-- the rest begins with the right line of the next hand
pub record IsNext (game : Game) (names : List (List ℕ)) (hands : List Hand) (rest behind : List ℕ) (after : Checked) : Type 0 where
  pub seats : List (List ℕ)
  pub are_names : AreNames game.players seats
  pub named : AreNamed hands names seats
  pub hand : Hand
  pub played : IsPlayed game hand
  pub line : rest ≡ state_line game seats (length hands) hand ++ behind
  pub said : HasSaid game seats (hand ∷ hands) after
