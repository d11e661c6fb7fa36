-- No colon stands in the fields of a line.
use Rattle.std.proofs.Common.{◌≡◌, ◌≢◌, ℕ, zero, suc, ◌-◌, ◌^◌, ◌<◌, true, false, eqb, List, [], ◌∷◌, ◌++◌, replicate, Option, Some, None, decimal, refl, sym, ap, ◌∙◌, subst, arith}
use Rattle.std.specs.Char.{is_ascii_digit}
use Rattle.std.specs.Str.{all_ascii_digits}
use Rattle.std.specs.List.{concat, join_by}
use Rattle.std.proofs.lemmas.Bool.{agree_below_at, false≢true, and_parts}
use Rattle.std.proofs.lemmas.Fmt.{digits_decimal}
use Rattle.game_def.specs.Game.{Game, IsGame}
use Rattle.card_core.specs.Card.{rank_of, suit_of, rank_letter, suit_letter}
use Rattle.betting.specs.declared.action.Action.{Action}
use Rattle.betting.specs.declared.action.Action.TheVariants.{Fold, Call, Raise}
use Rattle.betting.specs.Rounds.{turns, current_round}
use Rattle.betting.specs.Legal.{Legal, CanAct}
use Rattle.betting.specs.Text.{text, action_text}
use Rattle.slot_log.proofs.Inside.{all_joined}
use Rattle.matchstate.specs.Cards.{cards_text, cards_field, all_cards}
use Rattle.matchstate.specs.Line.{IsField}
use Rattle.matchstate.specs.Reading.{slashes_after}
use Rattle.matchstate.proofs.Texts.{text_none, text_next}
use Rattle.matchstate.proofs.Words.{raise_fits, decimals_are_numerals}
use Rattle.matchstate.proofs.Joined.{All-part}
use Rattle.matchstate.proofs.Parts.{AllOfPack}
use Rattle.matchstate.proofs.OneField.{marked}

joins : (xs ys : List ℕ) → IsField xs → IsField ys → IsField (xs ++ ys)
joins xs ys = all_joined (λ (byte : ℕ). byte ≢ 58) xs ys

-- ---- numbers

no_colon_in_digits : (digits : List ℕ) → all_ascii_digits digits ≡ true → IsField digits
no_colon_in_digits [] all = tt
no_colon_in_digits (digit ∷ digits) all =
    let parts = and_parts (is_ascii_digit digit) (all_ascii_digits digits) all in
    (λ colon. false≢true (ap is_ascii_digit (sym colon) ∙ parts.0), no_colon_in_digits digits parts.1)

pub no_colon_in_decimal : (number : ℕ) → number < 2 ^ 64 → IsField (decimal number)
no_colon_in_decimal number small = no_colon_in_digits (decimal number) (digits_decimal decimals_are_numerals number small)

-- ---- betting texts

no_colon_in_slashes : (count : ℕ) → IsField (replicate count 47)
no_colon_in_slashes zero = tt
no_colon_in_slashes (suc count) = (omega arith, no_colon_in_slashes count)

no_colon_in_action : (game : Game) (past : List Action) (action : Action) → IsGame game → CanAct game (turns game past) action → IsField (action_text game action)
unfolding action_text
no_colon_in_action game past Fold is can = (omega arith, tt)
no_colon_in_action game past Call is can = (omega arith, tt)
no_colon_in_action game past (Raise amount) is can = of_raise game.raise_sizes
  where
    of_raise : (sizes : Option (List ℕ)) → IsField (elim sizes as (λ _. List ℕ) [ None ↦ 114 ∷ decimal amount | Some _ ↦ 114 ∷ [] ])
    of_raise None =
        let fits = raise_fits game (turns game past) amount is can in
        (omega arith, no_colon_in_decimal amount (omega arith))
    of_raise (Some sizes) = (omega arith, tt)

pub no_colon_in_text : (game : Game) (past : List Action) → IsGame game → Legal game past → IsField (text game past)
no_colon_in_text game [] is legal = subst IsField (sym (text_none game)) tt
no_colon_in_text game (action ∷ past) is legal =
    subst IsField (sym (text_next game past action))
    (joins (text game past ++ action_text game action) (slashes_after game past action)
    (joins (text game past) (action_text game action) (no_colon_in_text game past is legal.0) (no_colon_in_action game past action is legal.1))
    (no_colon_in_slashes (current_round game (turns game (action ∷ past)) - current_round game (turns game past))))

-- ---- cards

no_colon_in_rank : (card : ℕ) → card < 52 → rank_letter (rank_of card) ≢ 58
no_colon_in_rank card below colon =
    false≢true (sym (agree_below_at (λ c. eqb (rank_letter (rank_of c)) 58) (λ _. false) 52 card refl below) ∙ ap (λ letter. eqb letter 58) colon)

no_colon_in_suit : (card : ℕ) → card < 52 → suit_letter (suit_of card) ≢ 58
no_colon_in_suit card below colon =
    false≢true (sym (agree_below_at (λ c. eqb (suit_letter (suit_of c)) 58) (λ _. false) 52 card refl below) ∙ ap (λ letter. eqb letter 58) colon)

no_colon_in_cards : (cards : List ℕ) → AllOfPack cards → IsField (cards_text cards)
no_colon_in_cards [] all = tt
no_colon_in_cards (card ∷ cards) all = (no_colon_in_rank card all.0, (no_colon_in_suit card all.0, no_colon_in_cards cards all.1))

no_colon_in_groups : (mark : ℕ) (groups : List (List ℕ)) → mark ≢ 58 → AllOfPack (concat groups) → IsField (marked mark groups)
no_colon_in_groups mark [] other all = tt
no_colon_in_groups mark (group ∷ groups) other all =
    let parts = All-part (λ card. card < 52) group (concat groups) all in
    (other, joins (cards_text group) (marked mark groups) (no_colon_in_cards group parts.0) (no_colon_in_groups mark groups other parts.1))

no_colon_in_holes : (holes : List (List ℕ)) → AllOfPack (concat holes) → IsField (join_by cards_text (124 ∷ []) holes)
no_colon_in_holes [] all = tt
no_colon_in_holes (hole ∷ holes) all =
    let parts = All-part (λ card. card < 52) hole (concat holes) all in
    joins (cards_text hole) (marked 124 holes) (no_colon_in_cards hole parts.0) (no_colon_in_groups 124 holes (omega arith) parts.1)

pub no_colon_in_field : (holes boards : List (List ℕ)) → AllOfPack (all_cards holes boards) → IsField (cards_field holes boards)
no_colon_in_field holes boards all =
    let parts = All-part (λ card. card < 52) (concat holes) (concat boards) all in
    joins (join_by cards_text (124 ∷ []) holes) (marked 47 boards) (no_colon_in_holes holes parts.0) (no_colon_in_groups 47 boards (omega arith) parts.1)
