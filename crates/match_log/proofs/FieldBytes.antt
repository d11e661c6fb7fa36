-- No field of a line has a colon or a line's end in it, and no value or name a bar.
use Rattle.std.proofs.Common.{◌≡◌, ◌≢◌, ℕ, ◌+◌, ◌-◌, ◌%◌, ◌<◌, ◌≤◌, Bool, true, not, ◌&&◌, eqb, List, [], ◌∷◌, ◌++◌, length, get_or, replicate, Option, Some, None, zero, suc, refl, subst, arith}
use Rattle.std.specs.Prelude.{codes, decimal}
use Rattle.std.specs.List.{AllByRecursion, flat_map, join_by, list_all}
use Rattle.std.proofs.lemmas.List.Elements.{All-from_recursion, All-get_or, recursion_from_All}
use Rattle.std.proofs.lemmas.List.FromFn.{length-map-range_with_len}
use Rattle.std.proofs.lemmas.List.Sums.{AllPass-from_list_all}
use Rattle.std.proofs.Math.Nat.{mod-lt}
use Rattle.game_def.specs.Game.{Game}
use Rattle.card_core.specs.Card.{text_of, rank_of, suit_of}
use Rattle.betting.specs.declared.action.Action.{Action}
use Rattle.betting.specs.declared.action.Action.TheVariants.{Fold, Call, Raise}
use Rattle.betting.specs.Rounds.{current_round, turns}
use Rattle.betting.specs.Text.{text, action_text}
use Rattle.matchstate.specs.Cards.{cards_text, cards_field}
use Rattle.matchstate.specs.View.{seat_of}
use Rattle.match_log.specs.Lines.{names_field}
use Rattle.match_log.specs.Names.{IsName, AreNames, is_name_byte, names_by_position}
use Rattle.matchstate.specs.Free.{IsFreeOf}
use Rattle.match_log.proofs.Free.{name_free}
use Rattle.match_log.proofs.FieldCuts.{All-weaker, All-pieces, All-each, All-range}
use Rattle.match_log.proofs.NumberTexts.{IsDigit, IsSignedByte, decimal_digits}
use Rattle.slot_log.proofs.Inside.{all_joined}

-- neither a colon nor a line's end
abbrev pub IsPlain : ℕ → Type 0
IsPlain byte = (byte ≢ 58) × (byte ≢ 10)

pub no_colon : (bytes : List ℕ) → AllByRecursion IsPlain bytes → IsFreeOf 58 bytes
no_colon bytes all = All-weaker IsPlain (λ byte. byte ≢ 58) bytes (λ byte plain. plain.0) all

pub no_end : (bytes : List ℕ) → AllByRecursion IsPlain bytes → IsFreeOf 10 bytes
no_end bytes all = All-weaker IsPlain (λ byte. byte ≢ 10) bytes (λ byte plain. plain.1) all

-- ---- numbers

digit_plain : (byte : ℕ) → IsDigit byte → IsPlain byte
digit_plain byte digit = (λ e. omega arith, λ e. omega arith)

pub decimal_plain : (n : ℕ) → AllByRecursion IsPlain (decimal n)
decimal_plain n = All-weaker IsDigit IsPlain (decimal n) digit_plain (decimal_digits n)

pub digits_plain : (bytes : List ℕ) → AllByRecursion IsDigit bytes → AllByRecursion IsPlain bytes
digits_plain bytes all = All-weaker IsDigit IsPlain bytes digit_plain all

signed_plain : (bytes : List ℕ) → AllByRecursion IsSignedByte bytes → AllByRecursion IsPlain bytes
signed_plain bytes all = All-weaker IsSignedByte IsPlain bytes (λ byte part. (λ e. omega arith, λ e. omega arith)) all

signed_without_bar : (bytes : List ℕ) → AllByRecursion IsSignedByte bytes → IsFreeOf 124 bytes
signed_without_bar bytes all = All-weaker IsSignedByte (λ byte. byte ≢ 124) bytes (λ byte part e. omega arith) all

bar_plain : IsPlain 124
bar_plain = (λ e. omega arith, λ e. omega arith)

-- texts of values
abbrev pub AreValues : List (List ℕ) → Type 0
AreValues values = AllByRecursion (AllByRecursion IsSignedByte) values

pub values_plain : (values : List (List ℕ)) → AreValues values → AllByRecursion IsPlain (names_field values)
values_plain values all = All-pieces IsPlain (λ value. value) values bar_plain (All-weaker (AllByRecursion IsSignedByte) (AllByRecursion IsPlain) values signed_plain all)

pub values_without_bar : (values : List (List ℕ)) → AreValues values → AllByRecursion (IsFreeOf 124) values
values_without_bar values all = All-weaker (AllByRecursion IsSignedByte) (IsFreeOf 124) values signed_without_bar all

-- ---- betting

slashes_plain : (count : ℕ) → AllByRecursion IsPlain (replicate count 47)
slashes_plain zero = tt
slashes_plain (suc count) = ((λ e. omega arith, λ e. omega arith), slashes_plain count)

action_plain : (game : Game) (action : Action) → AllByRecursion IsPlain (action_text game action)
unfolding action_text
action_plain game Fold = ((λ e. omega arith, λ e. omega arith), tt)
action_plain game Call = ((λ e. omega arith, λ e. omega arith), tt)
action_plain game (Raise amount) = by game.raise_sizes
  where
    by : (sizes : Option (List ℕ)) → AllByRecursion IsPlain (elim sizes [ None ↦ codes "r" ++ decimal amount | Some _ ↦ codes "r" ])
    by None = ((λ e. omega arith, λ e. omega arith), decimal_plain amount)
    by (Some sizes) = ((λ e. omega arith, λ e. omega arith), tt)

pub text_plain : (game : Game) (past : List Action) → AllByRecursion IsPlain (text game past)
unfolding text
text_plain game [] = tt
text_plain game (action ∷ past) =
    let slashes : List ℕ = replicate (current_round game (turns game (action ∷ past)) - current_round game (turns game past)) 47 in
    all_joined IsPlain (text game past ++ action_text game action) slashes
    (all_joined IsPlain (text game past) (action_text game action) (text_plain game past) (action_plain game action)) (slashes_plain _)

-- ---- cards

letter_plain : (letters : List ℕ) (place : ℕ) → AllByRecursion IsPlain letters → IsPlain (get_or letters place 0)
letter_plain [] place all = (λ e. omega arith, λ e. omega arith)
letter_plain (letter ∷ letters) zero all = all.0
letter_plain (letter ∷ letters) (suc place) all = letter_plain letters place all.1

abbrev is_plain : ℕ → Bool
is_plain byte = not (eqb byte 58) && not (eqb byte 10)

plain_from : (bytes : List ℕ) → list_all is_plain bytes ≡ true → AllByRecursion IsPlain bytes
plain_from bytes all =
    All-weaker (λ byte. is_plain byte ≡ true) IsPlain bytes
    (λ byte passes. (λ e. let w : is_plain 58 ≡ true = subst (λ b. is_plain b ≡ true) e passes in cc, λ e. let w : is_plain 10 ≡ true = subst (λ b. is_plain b ≡ true) e passes in cc))
    (recursion_from_All (λ byte. is_plain byte ≡ true) bytes (AllPass-from_list_all is_plain bytes all))

card_plain : (card : ℕ) → AllByRecursion IsPlain (text_of card)
card_plain card = (letter_plain (codes "23456789TJQKA") (rank_of card) (plain_from (codes "23456789TJQKA") refl), (letter_plain (codes "cdhs") (suit_of card) (plain_from (codes "cdhs") refl), tt))

All-flat : {X : Type 0} (P : ℕ → Type 0) (f : X → List ℕ) (xs : List X) → ((x : X) → AllByRecursion P (f x)) → AllByRecursion P (flat_map f xs)
All-flat P f [] each = tt
All-flat P f (x ∷ xs) each = all_joined P (f x) (flat_map f xs) (each x) (All-flat P f xs each)

cards_plain : (cards : List ℕ) → AllByRecursion IsPlain (cards_text cards)
cards_plain cards = All-flat IsPlain text_of cards card_plain

pub field_plain : (holes boards : List (List ℕ)) → AllByRecursion IsPlain (cards_field holes boards)
field_plain holes boards =
    all_joined IsPlain (join_by cards_text (124 ∷ []) holes) (flat_map (λ cards. 47 ∷ cards_text cards) boards)
    (All-pieces IsPlain cards_text holes bar_plain (All-each (λ cards. AllByRecursion IsPlain (cards_text cards)) holes cards_plain))
    (All-flat IsPlain (λ cards. 47 ∷ cards_text cards) boards (λ cards. ((λ e. omega arith, λ e. omega arith), cards_plain cards)))

-- ---- names

name_byte_is_not : (byte other : ℕ) → is_name_byte other ≢ true → is_name_byte byte ≡ true → byte ≢ other
name_byte_is_not byte other differs passes e = differs (subst (λ b. is_name_byte b ≡ true) e passes)

pub name_plain : (name : List ℕ) → IsName name → AllByRecursion IsPlain name
name_plain name is =
    All-weaker (λ byte. is_name_byte byte ≡ true) IsPlain name
    (λ byte passes. (name_byte_is_not byte 58 (λ e. cc) passes, name_byte_is_not byte 10 (λ e. cc) passes)) is.bytes

pub names_plain : (names : List (List ℕ)) → AllByRecursion IsName names → AllByRecursion IsPlain (names_field names)
names_plain names all = All-pieces IsPlain (λ name. name) names bar_plain (All-weaker IsName (AllByRecursion IsPlain) names name_plain all)

pub names_without_bar : (names : List (List ℕ)) → AllByRecursion IsName names → AllByRecursion (IsFreeOf 124) names
names_without_bar names all = All-weaker IsName (IsFreeOf 124) names (name_free 124 refl) all

-- names by position are names
pub by_position_are_names : (players number : ℕ) (names : List (List ℕ)) → 1 ≤ players → AreNames players names → AllByRecursion IsName (names_by_position players number names)
by_position_are_names players number names some are =
    All-range IsName (λ position. get_or names (seat_of players number position) []) 0 players (λ position from to.
    let within : (position + number) % players < players = mod-lt (position + number) (omega arith) in
    All-get_or IsName names (seat_of players number position) [] (omega (arith, within, are.one_each)) (All-from_recursion IsName names are.each_name))

pub length_by_position : (players number : ℕ) (names : List (List ℕ)) → length (names_by_position players number names) ≡ players
length_by_position players number names = length-map-range_with_len (λ position. get_or names (seat_of players number position) []) 0 players
