-- A hand's line and its fields.
use Rattle.std.proofs.Common.{◌≡◌, ◌≢◌, ℕ, zero, suc, ◌+◌, ◌^◌, ◌<◌, ℤ, List, [], ◌∷◌, ◌++◌, map, length, get_or, Option, Some, None, codes, decimal, refl, sym, ap, ◌∙◌, subst, append_assoc, arith}
use Rattle.std.specs.Fmt.{signed_decimal}
use Rattle.std.specs.List.{AllByRecursion, flat_map, join_by}
use Rattle.std.specs.Str.Parse.{digits_value}
use Rattle.std.proofs.lemmas.Fmt.{decimal_is_IsNumeral}
use Rattle.std.proofs.lemmas.List.Elements.{All-from_get_or, All-get_or, All-from_recursion, recursion_from_All}
use Rattle.std.proofs.lemmas.List.FromFn.{get_or-map-range_with_len, length-map-range_with_len}
use Rattle.std.proofs.Math.Nat.{mod-lt}
use Rattle.card_core.specs.Card.{text_of, rank_of, suit_of}
use Rattle.game_def.specs.Game.{Game}
use Rattle.betting.specs.Text.{text}
use Rattle.matchstate.specs.Cards.{cards_text, cards_field}
use Rattle.matchstate.specs.View.{seat_of}
use Rattle.slot_log.specs.Hand.{Hand}
use Rattle.match_log.specs.Check.{HasState, FitNames, said_text}
use Rattle.match_log.specs.Lines.{names_field, values_field, shown_cards, state_text, state_line}
use Rattle.match_log.specs.Names.{IsName, AreNames, names_by_position}
use Rattle.match_log.specs.Numeral.{IsWhole}
use Rattle.match_log.specs.Payoffs.{payoffs_of}
use Rattle.matchstate.specs.Free.{IsFreeOf}
use Rattle.match_log.specs.Reading.{Fields, joined, AreApart, AreOfHand, MayBeSeats, AreKnown, AreNamed}
use Rattle.match_log.proofs.Decimals.{decimal_free, whole_free}
use Rattle.match_log.proofs.FieldCuts.{All-weaker}
use Rattle.match_log.proofs.Free.{free_append, name_free, betting_free}
use Rattle.match_log.proofs.OneLine.{line_fields}

-- ---- it can be told where each field ends

flat_free : {X : Type 0} (byte : ℕ) (f : X → List ℕ) → ((x : X) → IsFreeOf byte (f x)) → (xs : List X) → IsFreeOf byte (flat_map f xs)
flat_free byte f each [] = tt
flat_free byte f each (x ∷ xs) = free_append byte (f x) (flat_map f xs) (each x) (flat_free byte f each xs)

letter_apart : (letters : List ℕ) (place : ℕ) → IsFreeOf 58 letters → get_or letters place 0 ≢ 58
letter_apart [] place free = omega arith
letter_apart (letter ∷ letters) zero free = free.0
letter_apart (letter ∷ letters) (suc place) free = letter_apart letters place free.1

ranks_free : IsFreeOf 58 (codes "23456789TJQKA")
ranks_free = (omega arith, (omega arith, (omega arith, (omega arith, (omega arith, (omega arith, (omega arith, (omega arith, (omega arith, (omega arith, (omega arith, (omega arith, (omega arith, tt)))))))))))))

suits_free : IsFreeOf 58 (codes "cdhs")
suits_free = (omega arith, (omega arith, (omega arith, (omega arith, tt))))

card_free : (card : ℕ) → IsFreeOf 58 (text_of card)
card_free card = (letter_apart (codes "23456789TJQKA") (rank_of card) ranks_free, (letter_apart (codes "cdhs") (suit_of card) suits_free, tt))

cards_text_free : (cards : List ℕ) → IsFreeOf 58 (cards_text cards)
cards_text_free cards = flat_free 58 text_of card_free cards

cards_field_free : (holes boards : List (List ℕ)) → IsFreeOf 58 (cards_field holes boards)
cards_field_free holes boards = free_append 58 (join_by cards_text (124 ∷ []) holes) (flat_map (λ cards. 47 ∷ cards_text cards) boards) (holes_free holes) (flat_free 58 (λ cards. 47 ∷ cards_text cards) (λ cards. (omega arith, cards_text_free cards)) boards)
  where
    holes_free : (groups : List (List ℕ)) → IsFreeOf 58 (join_by cards_text (124 ∷ []) groups)
    holes_free [] = tt
    holes_free (group ∷ groups) =
        free_append 58 (cards_text group) (flat_map (λ cards. 124 ∷ [] ++ cards_text cards) groups) (cards_text_free group)
        (flat_free 58 (λ cards. 124 ∷ [] ++ cards_text cards) (λ cards. (omega arith, cards_text_free cards)) groups)

later_free : (byte : ℕ) → 124 ≢ byte → (pieces : List (List ℕ)) → AllByRecursion (IsFreeOf byte) pieces → IsFreeOf byte (flat_map (λ piece. 124 ∷ [] ++ piece) pieces)
later_free byte apart [] all = tt
later_free byte apart (piece ∷ pieces) all = (apart, free_append byte piece (flat_map (λ other. 124 ∷ [] ++ other) pieces) all.0 (later_free byte apart pieces all.1))

pieces_free : (byte : ℕ) → 124 ≢ byte → (pieces : List (List ℕ)) → AllByRecursion (IsFreeOf byte) pieces → IsFreeOf byte (names_field pieces)
pieces_free byte apart [] all = tt
pieces_free byte apart (piece ∷ pieces) all = free_append byte piece (flat_map (λ other. 124 ∷ [] ++ other) pieces) all.0 (later_free byte apart pieces all.1)

pub fields_apart : (game : Game) (fields : Fields) (hand : Hand) (values by_position : List (List ℕ)) → AreOfHand game fields hand values by_position → AreApart fields
fields_apart game fields hand values by_position of = record {
  number_field = decimal_free 58 refl fields.number of.numbered;
  betting_field = subst (IsFreeOf 58) (sym of.betting_text) (betting_free game hand.past);
  cards_field = subst (IsFreeOf 58) (sym of.cards_text) (cards_field_free _ _);
  values_field = subst (IsFreeOf 58) (sym of.values_text) (pieces_free 58 (omega arith) values (All-weaker IsWhole (IsFreeOf 58) values (whole_free 58 refl (omega arith)) of.whole_values));
  names_field = subst (IsFreeOf 10) (sym of.names_text) (pieces_free 10 (omega arith) by_position (All-weaker IsName (IsFreeOf 10) by_position (name_free 10 refl) of.each_name));
}

-- ---- a line that says a hand, by its fields

fields_said : (game : Game) (fields : Fields) (hand : Hand) (values names : List (List ℕ)) (behind : List ℕ) → AreOfHand game fields hand values names → joined fields behind ≡ said_text game fields.number hand values names ++ behind
fields_said game fields hand values names behind of =
    ap (λ (t : List ℕ). codes "STATE:" ++ (fields.number ++ 58 ∷ (t ++ 58 ∷ (fields.cards ++ 58 ∷ (fields.values ++ 58 ∷ (fields.names ++ 10 ∷ behind)))))) of.betting_text
    ∙ (ap (λ (t : List ℕ). codes "STATE:" ++ (fields.number ++ 58 ∷ (text game hand.past ++ 58 ∷ (t ++ 58 ∷ (fields.values ++ 58 ∷ (fields.names ++ 10 ∷ behind)))))) of.cards_text
    ∙ (ap (λ (t : List ℕ). codes "STATE:" ++ (fields.number ++ 58 ∷ (text game hand.past ++ 58 ∷ (shown_cards game hand.past hand.deal ++ 58 ∷ (t ++ 58 ∷ (fields.names ++ 10 ∷ behind)))))) of.values_text
    ∙ (ap (λ (t : List ℕ). codes "STATE:" ++ (fields.number ++ 58 ∷ (text game hand.past ++ 58 ∷ (shown_cards game hand.past hand.deal ++ 58 ∷ (names_field values ++ 58 ∷ (t ++ 10 ∷ behind)))))) of.names_text
    ∙ sym (line_fields game fields.number hand values names behind))))

pub to_state : (game : Game) (names : List (List ℕ)) (hands : List Hand) (rest : List ℕ) (fields : Fields) (behind : List ℕ) (hand : Hand) (values by_position : List (List ℕ))
    → rest ≡ joined fields behind → AreOfHand game fields hand values by_position → FitNames game.players names hands (digits_value 10 fields.number) by_position
    → HasState game names hands rest fields.number hand values
to_state game names hands rest fields behind hand values by_position is of fit = record {
  played = of.played;
  numbered = of.numbered;
  value_each = of.value_each;
  whole_values = of.whole_values;
  by_position = by_position;
  names_fit = fit;
  behind = behind;
  whole = is ∙ fields_said game fields hand values by_position behind of;
}

-- names by position are names
name_each : (players number : ℕ) (names : List (List ℕ)) → AreNames players names → AllByRecursion IsName (names_by_position players number names)
name_each players number names are =
    recursion_from_All IsName (names_by_position players number names) (All-from_get_or IsName (names_by_position players number names) [] (λ position within.
    let place : position < players = omega (arith, within, length-map-range_with_len (λ p. get_or names (seat_of players number p) []) 0 players) in
    let seat : seat_of players number position < players = mod-lt (position + number) (omega arith) in
    subst IsName (sym (get_or-map-range_with_len (λ p. get_or names (seat_of players number p) []) 0 players position position [] place (omega arith)))
    (All-get_or IsName names (seat_of players number position) [] (omega (arith, seat, are.one_each)) (All-from_recursion IsName names are.each_name))))

-- the seats that a line's names name
pub record Seated (players : ℕ) (known : Option (List (List ℕ))) (number : ℕ) (by_position : List (List ℕ)) : Type 0 where
  pub seats : List (List ℕ)
  pub are_names : AreNames players seats
  pub count : length seats ≡ players
  pub said : by_position ≡ names_by_position players number seats
  pub may : MayBeSeats players known seats

pub seated : (players : ℕ) (names : List (List ℕ)) (hands : List Hand) (known : Option (List (List ℕ))) (number : ℕ) (by_position : List (List ℕ))
    → AreNames players names → AreKnown players names hands known → FitNames players names hands number by_position → Seated players known number by_position
seated players names [] None number by_position are none fit = record { seats = fit.0; are_names = fit.1; count = fit.1.one_each; said = fit.2; may = fit.1 }
seated players names [] (Some others) number by_position are none fit = cc
seated players names (hand ∷ earlier) None number by_position are known fit = absurd known
seated players names (hand ∷ earlier) (Some others) number by_position are known fit = record { seats = names; are_names = are; count = are.one_each; said = fit; may = sym known }

-- a line that says a hand, cut into its fields
pub record InFields (game : Game) (known : Option (List (List ℕ))) (rest number : List ℕ) (hand : Hand) (values : List (List ℕ)) : Type 0 where
  pub fields : Fields
  pub behind : List ℕ
  pub by_position : List (List ℕ)
  pub is : rest ≡ joined fields behind
  pub of_hand : AreOfHand game fields hand values by_position
  pub numbered : fields.number ≡ number
  pub seated : Seated game.players known (digits_value 10 number) by_position

pub in_fields : (game : Game) (names : List (List ℕ)) (hands : List Hand) (known : Option (List (List ℕ))) (rest number : List ℕ) (hand : Hand) (values : List (List ℕ))
    → AreNames game.players names → AreKnown game.players names hands known → HasState game names hands rest number hand values → InFields game known rest number hand values
in_fields game names hands known rest number hand values are are_known has =
    let found = seated game.players names hands known (digits_value 10 number) has.by_position are are_known has.names_fit in
    record {
      fields = record {
        number = number;
        betting = text game hand.past;
        cards = shown_cards game hand.past hand.deal;
        values = names_field values;
        names = names_field has.by_position;
      };
      behind = has.behind;
      by_position = has.by_position;
      is = has.whole ∙ line_fields game number hand values has.by_position has.behind;
      of_hand = record {
        numbered = has.numbered;
        played = has.played;
        betting_text = refl;
        cards_text = refl;
        value_each = has.value_each;
        whole_values = has.whole_values;
        values_text = refl;
        name_each = ap length found.said ∙ length-map-range_with_len (λ p. get_or found.seats (seat_of game.players (digits_value 10 number) p) []) 0 game.players;
        each_name = subst (AllByRecursion IsName) (sym found.said) (name_each game.players (digits_value 10 number) found.seats found.are_names);
        names_text = refl;
      };
      numbered = refl;
      seated = found;
    }

-- names that fit, from the seats that they name
pub fit_seats : (players : ℕ) (names : List (List ℕ)) (hands : List Hand) (known : Option (List (List ℕ))) (number : ℕ) (by_position seats : List (List ℕ))
    → AreKnown players names hands known → by_position ≡ names_by_position players number seats → MayBeSeats players known seats → FitNames players names hands number by_position
fit_seats players names [] None number by_position seats none said may = (seats, may, said)
fit_seats players names [] (Some others) number by_position seats none said may = cc
fit_seats players names (hand ∷ earlier) None number by_position seats known said may = absurd known
fit_seats players names (hand ∷ earlier) (Some others) number by_position seats known said may = said ∙ ap (names_by_position players number) (may ∙ known)

pub seats_are_names : (players : ℕ) (names : List (List ℕ)) (hands : List Hand) (known : Option (List (List ℕ))) (seats : List (List ℕ))
    → AreNames players names → AreKnown players names hands known → MayBeSeats players known seats → AreNames players seats × AreNamed hands names seats
seats_are_names players names [] None seats are none may = (may, tt)
seats_are_names players names [] (Some others) seats are none may = cc
seats_are_names players names (hand ∷ earlier) None seats are known may = absurd known
seats_are_names players names (hand ∷ earlier) (Some others) seats are known may = (subst (AreNames players) (sym (may ∙ known)) are, may ∙ known)

-- ---- values as they are printed

later_printed : (values : List ℤ) → flat_map (λ piece. 124 ∷ [] ++ piece) (map signed_decimal values) ≡ flat_map (λ value. 124 ∷ [] ++ signed_decimal value) values
later_printed [] = refl
later_printed (value ∷ values) = ap (λ (t : List ℕ). 124 ∷ (signed_decimal value ++ t)) (later_printed values)

pub printed : (values : List ℤ) → names_field (map signed_decimal values) ≡ values_field values
printed [] = refl
printed (value ∷ values) = ap (λ (t : List ℕ). signed_decimal value ++ t) (later_printed values)

-- ---- the right line of a hand

state_is : (game : Game) (names : List (List ℕ)) (number : ℕ) (hand : Hand) (behind : List ℕ)
    → state_line game names number hand ++ behind
    ≡ codes "STATE:" ++ (decimal number ++ 58 ∷ (text game hand.past ++ 58 ∷ (shown_cards game hand.past hand.deal ++ 58 ∷ (values_field (payoffs_of game hand) ++ 58 ∷ (names_field (names_by_position game.players number names) ++ 10 ∷ behind)))))
unfolding state_line state_text
state_is game names number hand behind =
    let e = names_field (names_by_position game.players number names) ++ 10 ∷ [] in
    let d = values_field (payoffs_of game hand) ++ 58 ∷ e in
    let c = shown_cards game hand.past hand.deal ++ 58 ∷ d in
    let b = text game hand.past ++ 58 ∷ c in
    append_assoc (codes "STATE:") (decimal number ++ 58 ∷ b) behind
    ∙ ap (λ (t : List ℕ). codes "STATE:" ++ t) (append_assoc (decimal number) (58 ∷ b) behind
    ∙ ap (λ (t : List ℕ). decimal number ++ 58 ∷ t) (append_assoc (text game hand.past) (58 ∷ c) behind
    ∙ ap (λ (t : List ℕ). text game hand.past ++ 58 ∷ t) (append_assoc (shown_cards game hand.past hand.deal) (58 ∷ d) behind
    ∙ ap (λ (t : List ℕ). shown_cards game hand.past hand.deal ++ 58 ∷ t) (append_assoc (values_field (payoffs_of game hand)) (58 ∷ e) behind
    ∙ ap (λ (t : List ℕ). values_field (payoffs_of game hand) ++ 58 ∷ t) (append_assoc (names_field (names_by_position game.players number names)) (10 ∷ []) behind)))))

pub right_line : (game : Game) (number : ℕ) (rest : List ℕ) (fields : Fields) (behind : List ℕ) (hand : Hand) (values by_position seats : List (List ℕ))
    → number < 2 ^ 64 → rest ≡ joined fields behind → AreOfHand game fields hand values by_position → fields.number ≡ decimal number → fields.values ≡ values_field (payoffs_of game hand)
    → by_position ≡ names_by_position game.players (digits_value 10 fields.number) seats → rest ≡ state_line game seats number hand ++ behind
right_line game number rest fields behind hand values by_position seats small is of as_number as_values said =
    let value : digits_value 10 fields.number ≡ number = ap (digits_value 10) as_number ∙ (decimal_is_IsNumeral number small).1 in
    let as_names : fields.names ≡ names_field (names_by_position game.players number seats) = of.names_text ∙ ap names_field (said ∙ ap (λ n. names_by_position game.players n seats) value) in
    is
    ∙ (ap (λ (t : List ℕ). codes "STATE:" ++ (t ++ 58 ∷ (fields.betting ++ 58 ∷ (fields.cards ++ 58 ∷ (fields.values ++ 58 ∷ (fields.names ++ 10 ∷ behind)))))) as_number
    ∙ (ap (λ (t : List ℕ). codes "STATE:" ++ (decimal number ++ 58 ∷ (t ++ 58 ∷ (fields.cards ++ 58 ∷ (fields.values ++ 58 ∷ (fields.names ++ 10 ∷ behind)))))) of.betting_text
    ∙ (ap (λ (t : List ℕ). codes "STATE:" ++ (decimal number ++ 58 ∷ (text game hand.past ++ 58 ∷ (t ++ 58 ∷ (fields.values ++ 58 ∷ (fields.names ++ 10 ∷ behind)))))) of.cards_text
    ∙ (ap (λ (t : List ℕ). codes "STATE:" ++ (decimal number ++ 58 ∷ (text game hand.past ++ 58 ∷ (shown_cards game hand.past hand.deal ++ 58 ∷ (t ++ 58 ∷ (fields.names ++ 10 ∷ behind)))))) as_values
    ∙ (ap (λ (t : List ℕ). codes "STATE:" ++ (decimal number ++ 58 ∷ (text game hand.past ++ 58 ∷ (shown_cards game hand.past hand.deal ++ 58 ∷ (values_field (payoffs_of game hand) ++ 58 ∷ (t ++ 10 ∷ behind)))))) as_names
    ∙ sym (state_is game seats number hand behind))))))
