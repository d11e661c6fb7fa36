-- A hand's line says one thing: two of them with the same bytes, whatever stands behind, have the same fields.
use Rattle.std.proofs.Common.{◌≡◌, ℕ, ◌≤◌, ℤ, List, [], ◌∷◌, ◌++◌, length, map, refl, sym, ◌∙◌, ap, append_assoc}
use Rattle.std.specs.Prelude.{codes, decimal}
use Rattle.std.specs.Fmt.{signed_decimal}
use Rattle.std.specs.List.{AllByRecursion, flat_map}
use Rattle.std.proofs.lemmas.List.{append_cancel_left, length-map}
use Rattle.game_def.specs.Game.{Game}
use Rattle.betting.specs.Text.{text}
use Rattle.slot_log.specs.Hand.{Hand}
use Rattle.match_log.specs.Payoffs.{payoffs_of}
use Rattle.match_log.specs.Lines.{values_field, names_field, shown_cards, state_text, state_line}
use Rattle.match_log.specs.Names.{IsName, AreNames, names_by_position}
use Rattle.match_log.specs.Check.{said_text}
use Rattle.matchstate.specs.Free.{IsFreeOf}
use Rattle.matchstate.proofs.Fronts.{cut_alike}
use Rattle.match_log.proofs.FieldCuts.{pieces_alike}
use Rattle.match_log.proofs.NumberTexts.{signed_bytes}
use Rattle.match_log.proofs.FieldBytes.{AreValues, no_colon, no_end, decimal_plain, text_plain, field_plain, values_plain, values_without_bar, names_plain, names_without_bar, by_position_are_names, length_by_position}
use Rattle.match_log.proofs.Settling.{length_payoffs}

-- what is said of a hand beside its actions and cards: a number, and for each player a value and a name
pub record AreSaid (players : ℕ) (number : List ℕ) (values names : List (List ℕ)) : Type 0 where
  pub number_ends : IsFreeOf 58 number
  pub value_each : length values ≡ players
  pub are_values : AreValues values
  pub name_each : length names ≡ players
  pub each_name : AllByRecursion IsName names

-- two lines say the same, and the same stands behind them
pub record SaysTheSame (game : Game) (number other : List ℕ) (hand another : Hand) (values amounts names seats : List (List ℕ)) (rest behind : List ℕ) : Type 0 where
  pub same_number : number ≡ other
  pub same_betting : text game hand.past ≡ text game another.past
  pub same_cards : shown_cards game hand.past hand.deal ≡ shown_cards game another.past another.deal
  pub same_values : values ≡ amounts
  pub same_names : names ≡ seats
  pub same_rest : rest ≡ behind

regroup : (a b c d e rest : List ℕ) → (a ++ 58 ∷ (b ++ 58 ∷ (c ++ 58 ∷ (d ++ 58 ∷ (e ++ 10 ∷ []))))) ++ rest ≡ a ++ 58 ∷ (b ++ 58 ∷ (c ++ 58 ∷ (d ++ 58 ∷ (e ++ 10 ∷ rest))))
regroup a b c d e rest = simp append_assoc

-- a line and what stands behind it, field by field
pub line_fields : (game : Game) (number : List ℕ) (hand : Hand) (values names : List (List ℕ)) (rest : List ℕ)
    → said_text game number hand values names ++ rest ≡ codes "STATE:" ++ (number ++ 58 ∷ (text game hand.past ++ 58 ∷ (shown_cards game hand.past hand.deal ++ 58 ∷ (names_field values ++ 58 ∷ (names_field names ++ 10 ∷ rest)))))
unfolding said_text
line_fields game number hand values names rest =
    ap (λ (t : List ℕ). codes "STATE:" ++ t) (regroup number (text game hand.past) (shown_cards game hand.past hand.deal) (names_field values) (names_field names) rest)

map_itself : (pieces : List (List ℕ)) → map (λ piece. piece) pieces ≡ pieces
map_itself [] = refl
map_itself (piece ∷ pieces) = ap (λ (ps : List (List ℕ)). piece ∷ ps) (map_itself pieces)

pub field_tells : (pieces others : List (List ℕ)) → length pieces ≡ length others → AllByRecursion (IsFreeOf 124) pieces → AllByRecursion (IsFreeOf 124) others → names_field pieces ≡ names_field others → pieces ≡ others
field_tells pieces others count all these e = sym (map_itself pieces) ∙ pieces_alike (λ piece. piece) pieces others count all these e ∙ map_itself others

pub cards_end : (game : Game) (hand : Hand) → IsFreeOf 58 (shown_cards game hand.past hand.deal)
cards_end game hand = no_colon (shown_cards game hand.past hand.deal) (field_plain _ _)

pub lines_say_the_same : (game : Game) (number other : List ℕ) (hand another : Hand) (values amounts names seats : List (List ℕ)) (rest behind : List ℕ)
    → AreSaid game.players number values names → AreSaid game.players other amounts seats
    → said_text game number hand values names ++ rest ≡ said_text game other another amounts seats ++ behind
    → SaysTheSame game number other hand another values amounts names seats rest behind
lines_say_the_same game number other hand another values amounts names seats rest behind are those e =
    let whole = append_cancel_left (codes "STATE:") _ _ (sym (line_fields game number hand values names rest) ∙ e ∙ line_fields game other another amounts seats behind) in
    let first = cut_alike 58 number other _ _ are.number_ends those.number_ends whole in
    let second = cut_alike 58 (text game hand.past) (text game another.past) _ _ (no_colon _ (text_plain game hand.past)) (no_colon _ (text_plain game another.past)) first.1 in
    let third = cut_alike 58 (shown_cards game hand.past hand.deal) (shown_cards game another.past another.deal) _ _ (cards_end game hand) (cards_end game another) second.1 in
    let fourth = cut_alike 58 (names_field values) (names_field amounts) _ _ (no_colon _ (values_plain values are.are_values)) (no_colon _ (values_plain amounts those.are_values)) third.1 in
    let fifth = cut_alike 10 (names_field names) (names_field seats) rest behind (no_end _ (names_plain names are.each_name)) (no_end _ (names_plain seats those.each_name)) fourth.1 in
    record {
      same_number = first.0;
      same_betting = second.0;
      same_cards = third.0;
      same_values = field_tells values amounts (are.value_each ∙ sym those.value_each) (values_without_bar values are.are_values) (values_without_bar amounts those.are_values) fourth.0;
      same_names = field_tells names seats (are.name_each ∙ sym those.name_each) (names_without_bar names are.each_name) (names_without_bar seats those.each_name) fifth.0;
      same_rest = fifth.1;
    }

-- ---- the line of a finished hand

tails_mapped : (values : List ℤ) → flat_map (λ z. 124 ∷ [] ++ signed_decimal z) values ≡ flat_map (λ piece. 124 ∷ [] ++ piece) (map signed_decimal values)
tails_mapped [] = refl
tails_mapped (z ∷ values) = ap (λ (t : List ℕ). (124 ∷ [] ++ signed_decimal z) ++ t) (tails_mapped values)

values_mapped : (values : List ℤ) → values_field values ≡ names_field (map signed_decimal values)
values_mapped [] = refl
values_mapped (z ∷ values) = ap (λ (t : List ℕ). signed_decimal z ++ t) (tails_mapped values)

-- the values that a hand pays, as texts
abbrev pub paid : Game → Hand → List (List ℕ)
paid game hand = map signed_decimal (payoffs_of game hand)

pub state_line_says : (game : Game) (names : List (List ℕ)) (number : ℕ) (hand : Hand) → state_line game names number hand ≡ said_text game (decimal number) hand (paid game hand) (names_by_position game.players number names)
unfolding state_line state_text said_text
state_line_says game names number hand =
    ap (λ (t : List ℕ). codes "STATE:" ++ (decimal number ++ 58 ∷ (text game hand.past ++ 58 ∷ (shown_cards game hand.past hand.deal ++ 58 ∷ (t ++ 58 ∷ (names_field (names_by_position game.players number names) ++ 10 ∷ [])))))) (values_mapped (payoffs_of game hand))

paid_are_values : (values : List ℤ) → AreValues (map signed_decimal values)
paid_are_values [] = tt
paid_are_values (z ∷ values) = (signed_bytes z, paid_are_values values)

pub length_paid : (game : Game) (hand : Hand) → length (paid game hand) ≡ game.players
length_paid game hand = length-map (payoffs_of game hand) signed_decimal ∙ length_payoffs game hand

pub state_line_said : (game : Game) (names : List (List ℕ)) (number : ℕ) (hand : Hand) → 1 ≤ game.players → AreNames game.players names → AreSaid game.players (decimal number) (paid game hand) (names_by_position game.players number names)
state_line_said game names number hand some are = record {
  number_ends = no_colon (decimal number) (decimal_plain number);
  value_each = length_paid game hand;
  are_values = paid_are_values (payoffs_of game hand);
  name_each = length_by_position game.players number names;
  each_name = by_position_are_names game.players number names some are;
}
