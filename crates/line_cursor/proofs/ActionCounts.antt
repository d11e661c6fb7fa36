-- How many actions a betting text has.
use Rattle.std.proofs.Common.{◌≡◌, ℕ, zero, suc, ◌+◌, ◌-◌, Bool, true, false, cond, ◌||◌, nat_eq, List, [], ◌∷◌, ◌++◌, length, replicate, Option, Some, None, decimal, refl, ap, ◌∙◌, arith}
use Rattle.std.specs.Char.{is_ascii_digit}
use Rattle.std.specs.Str.{all_ascii_digits}
use Rattle.std.specs.List.{count_by}
use Rattle.std.proofs.lemmas.Bool.{and_parts}
use Rattle.std.proofs.lemmas.Bool.Decides.{nat_tests}
use Rattle.std.proofs.lemmas.Fmt.{digits_decimal}
use Rattle.std.proofs.lemmas.List.Sums.{sum_by-append, sum_by-cons}
use Rattle.game_def.specs.Game.{Game, IsGame}
use Rattle.betting.specs.declared.action.Action.{Action}
use Rattle.betting.specs.declared.action.Action.TheVariants.{Fold, Call, Raise}
use Rattle.betting.specs.Rounds.{turns, current_round}
use Rattle.betting.specs.Legal.{Legal, CanAct}
use Rattle.betting.specs.Text.{text, action_text}
use Rattle.matchstate.specs.Reading.{slashes_after}
use Rattle.matchstate.proofs.Texts.{text_none, text_next}
use Rattle.matchstate.proofs.Words.{raise_fits, decimals_are_numerals}
use Rattle.line_cursor.specs.Naming.{is_action_letter}

abbrev letters : List ℕ → ℕ
letters bytes = count_by is_action_letter bytes

letters_joined : (xs ys : List ℕ) → letters (xs ++ ys) ≡ letters xs + letters ys
letters_joined xs ys = sum_by-append (λ (byte : ℕ). cond (is_action_letter byte) 1 0) xs ys

no_letter_more : (byte : ℕ) (bytes : List ℕ) → is_action_letter byte ≡ false → letters bytes ≡ 0 → letters (byte ∷ bytes) ≡ 0
no_letter_more byte bytes other none =
    let first : letters (byte ∷ bytes) ≡ cond (is_action_letter byte) 1 0 + letters bytes = sum_by-cons (λ (b : ℕ). cond (is_action_letter b) 1 0) byte bytes in
    let nothing : ◌≡◌ {A = ℕ} (cond (is_action_letter byte) 1 0) 0 = ap (λ (b : Bool). cond b 1 0) other in
    omega (arith, first, nothing, none)

no_letter_digit : (digit : ℕ) → is_ascii_digit digit ≡ true → (nat_eq digit 102 || nat_eq digit 99 || nat_eq digit 114) ≡ false
no_letter_digit digit is = grind (arith, nat_tests)

no_letter_in_digits : (digits : List ℕ) → all_ascii_digits digits ≡ true → letters digits ≡ 0
no_letter_in_digits [] all = refl
no_letter_in_digits (digit ∷ digits) all =
    let parts = and_parts (is_ascii_digit digit) (all_ascii_digits digits) all in
    no_letter_more digit digits (no_letter_digit digit parts.0) (no_letter_in_digits digits parts.1)

no_letter_in_slashes : (count : ℕ) → letters (replicate count 47) ≡ 0
no_letter_in_slashes zero = refl
no_letter_in_slashes (suc count) = no_letter_more 47 (replicate count 47) refl (no_letter_in_slashes count)

one_letter : (game : Game) (past : List Action) (action : Action) → IsGame game → CanAct game (turns game past) action → letters (action_text game action) ≡ 1
unfolding action_text
one_letter game past Fold is can = refl
one_letter game past Call is can = refl
one_letter game past (Raise amount) is can = of_raise game.raise_sizes
  where
    of_raise : (sizes : Option (List ℕ)) → letters (elim sizes as (λ _. List ℕ) [ None ↦ 114 ∷ decimal amount | Some _ ↦ 114 ∷ [] ]) ≡ 1
    of_raise None =
        let fits = raise_fits game (turns game past) amount is can in
        let none : letters (decimal amount) ≡ 0 = no_letter_in_digits (decimal amount) (digits_decimal decimals_are_numerals amount (omega arith)) in
        sum_by-cons (λ (b : ℕ). cond (is_action_letter b) 1 0) 114 (decimal amount) ∙ ap (λ (n : ℕ). 1 + n) none
    of_raise (Some sizes) = refl

pub actions_counted : (game : Game) (past : List Action) → IsGame game → Legal game past → letters (text game past) ≡ length past
actions_counted game [] is legal = ap letters (text_none game)
actions_counted game (action ∷ past) is legal =
    let before : letters (text game past) ≡ length past = actions_counted game past is legal.0 in
    let one : letters (action_text game action) ≡ 1 = one_letter game past action is legal.1 in
    let none : letters (slashes_after game past action) ≡ 0 = no_letter_in_slashes (current_round game (turns game (action ∷ past)) - current_round game (turns game past)) in
    let whole = ap letters (text_next game past action) in
    let first = letters_joined (text game past ++ action_text game action) (slashes_after game past action) in
    let second = letters_joined (text game past) (action_text game action) in
    omega arith
