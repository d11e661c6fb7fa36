-- A right line, field by field.
use Rattle.std.proofs.Common.{◌≡◌, ℕ, ◌≤◌, List, ◌∷◌, ◌++◌, refl, ◌∙◌, ap}
use Rattle.std.specs.Prelude.{codes, decimal}
use Rattle.game_def.specs.Game.{Game}
use Rattle.betting.specs.Text.{text}
use Rattle.slot_log.specs.Hand.{Hand}
use Rattle.matchstate.specs.Free.{IsFreeOf}
use Rattle.match_log.specs.Lines.{names_field, shown_cards, state_line}
use Rattle.match_log.specs.Log.{Title}
use Rattle.match_log.specs.Names.{AreNames, names_by_position}
use Rattle.match_log.specs.Check.{HasTitle}
use Rattle.match_log.proofs.FieldBytes.{no_colon, no_end, decimal_plain, text_plain, values_plain, names_plain}
use Rattle.match_log.proofs.Free.{name_free, word_free}
use Rattle.match_log.proofs.OneLine.{paid, line_fields, cards_end, state_line_says, state_line_said}
use Rattle.match_log.proofs.SameHands.{header_parts}

-- the fields of a hand's line, and that it can be told where each ends
pub record AreFields (game : Game) (names : List (List ℕ)) (number : ℕ) (hand : Hand) (bytes behind : List ℕ) : Type 0 where
  pub whole :
      bytes ≡ codes "STATE:" ++ (decimal number ++ 58 ∷ (text game hand.past ++ 58 ∷ (shown_cards game hand.past hand.deal ++ 58 ∷ (names_field (paid game hand) ++ 58 ∷ (names_field (names_by_position game.players number names) ++ 10 ∷ behind)))))
  pub number_ends : IsFreeOf 58 (decimal number)
  pub betting_ends : IsFreeOf 58 (text game hand.past)
  pub cards_end : IsFreeOf 58 (shown_cards game hand.past hand.deal)
  pub values_end : IsFreeOf 58 (names_field (paid game hand))
  pub names_end : IsFreeOf 10 (names_field (names_by_position game.players number names))

pub fields_of : (game : Game) (names : List (List ℕ)) (number : ℕ) (hand : Hand) (bytes behind : List ℕ) → 1 ≤ game.players → AreNames game.players names → bytes ≡ state_line game names number hand ++ behind → AreFields game names number hand bytes behind
fields_of game names number hand bytes behind some are is =
    let said = state_line_said game names number hand some are in
    record {
      whole = is ∙ ap (λ (t : List ℕ). t ++ behind) (state_line_says game names number hand) ∙ line_fields game (decimal number) hand (paid game hand) (names_by_position game.players number names) behind;
      number_ends = no_colon (decimal number) (decimal_plain number);
      betting_ends = no_colon (text game hand.past) (text_plain game hand.past);
      cards_end = cards_end game hand;
      values_end = no_colon (names_field (paid game hand)) (values_plain (paid game hand) said.are_values);
      names_end = no_end (names_field (names_by_position game.players number names)) (names_plain (names_by_position game.players number names) said.each_name);
    }

-- the words of a header, and that it can be told where each ends
pub record AreWords (title : Title) (bytes rest : List ℕ) : Type 0 where
  pub whole : bytes ≡ codes "# name/game/hands " ++ (title.name ++ 32 ∷ (title.game ++ 32 ∷ (decimal title.hands ++ 10 ∷ rest)))
  pub name_ends : IsFreeOf 32 title.name
  pub game_ends : IsFreeOf 32 title.game
  pub hands_end : IsFreeOf 10 (decimal title.hands)

pub words_of : (title : Title) (bytes rest : List ℕ) → HasTitle bytes title rest → AreWords title bytes rest
words_of title bytes rest has = record {
  whole = has.whole ∙ header_parts title rest;
  name_ends = name_free 32 refl title.name has.is_title.name;
  game_ends = word_free title.game has.is_title.game;
  hands_end = no_end (decimal title.hands) (decimal_plain title.hands);
}
