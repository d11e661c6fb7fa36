-- An action's text is a letter and digits, so what stands behind it can be told.
use Rattle.std.proofs.Common.{◌≡◌, ℕ, zero, suc, ◌+◌, ◌-◌, ◌^◌, ◌<◌, ◌≤◌, true, false, List, [], ◌∷◌, ◌++◌, length, take, drop, replicate, Option, Some, None, refl, sym, ap, ◌∙◌, subst, arith, decimal, inl}
use Rattle.std.specs.Char.{is_ascii_digit}
use Rattle.std.specs.Str.{all_ascii_digits}
use Rattle.std.specs.List.{prefix_len, AllByRecursion, slice_index}
use Rattle.std.specs.Str.Parse.{digits_value}
use Rattle.std.proofs.lemmas.Bool.{and_parts}
use Rattle.std.proofs.lemmas.Str.Parse.{IsNumeralModel, numerals_by_value, tells_all_ascii_digits}
use Rattle.std.proofs.lemmas.Fmt.{digits_decimal}
use Rattle.std.proofs.lemmas.List.{take_at, drop_at}
use Rattle.game_def.specs.Game.{Game, IsGame, most_chips, stack_of, raise_size_of}
use Rattle.betting.specs.declared.action.Action.{Action}
use Rattle.betting.specs.declared.action.Action.TheVariants.{Fold, Call, Raise}
use Rattle.betting.specs.Turns.{Turn}
use Rattle.betting.specs.Rounds.{turns, current_round}
use Rattle.betting.specs.Legal.{CanAct, greatest_raise, limit_to}
use Rattle.betting.specs.Text.{action_text}
use Rattle.matchstate.specs.ActionText.{IsActionText, IsRaiseText}
use Rattle.matchstate.specs.Reading.{slashes_after, BeginsWith, NoDigitFirst}

-- a letter and digits
unfoldable pub IsWord : List ℕ → Type 0
IsWord [] = ⊥
IsWord (letter ∷ digits) = all_ascii_digits digits ≡ true

digits_end : (digits behind : List ℕ) → all_ascii_digits digits ≡ true → NoDigitFirst behind → prefix_len is_ascii_digit (digits ++ behind) ≡ length digits
digits_end [] [] all none = refl
digits_end [] (byte ∷ behind) all none = let e : is_ascii_digit byte ≡ false = none in rw e refl
digits_end (digit ∷ digits) behind all none =
    let parts = and_parts (is_ascii_digit digit) (all_ascii_digits digits) all in
    let first : is_ascii_digit digit ≡ true = parts.0 in
    let rest = digits_end digits behind parts.1 none in
    rw first (omega arith)

word_ends : (word behind : List ℕ) → IsWord word → NoDigitFirst behind → 1 + prefix_len is_ascii_digit (drop 1 (word ++ behind)) ≡ length word
unfolding IsWord
word_ends [] behind word none = absurd word
word_ends (letter ∷ digits) behind word none = let e = digits_end digits behind word none in omega arith

pub decimals_are_numerals : IsNumeralModel (λ ds. all_ascii_digits ds ≡ true) (digits_value 10)
decimals_are_numerals = numerals_by_value _ tells_all_ascii_digits

raise_word : (sizes : Option (List ℕ)) (amount : ℕ) → amount < 2 ^ 32 → IsWord (elim sizes as (λ _. List ℕ) [ None ↦ 114 ∷ decimal amount | Some _ ↦ 114 ∷ [] ])
unfolding IsWord
raise_word None amount small = digits_decimal decimals_are_numerals amount (omega arith)
raise_word (Some sizes) amount small = refl

-- an amount that may be raised to is at most a stack
AllBelow-at : (most : ℕ) (xs : List ℕ) (i : ℕ) → AllByRecursion (λ x. x ≤ most) xs → slice_index xs i ≤ most
AllBelow-at most [] i all = omega arith
AllBelow-at most (x ∷ xs) zero all = all.0
AllBelow-at most (x ∷ xs) (suc i) all = AllBelow-at most xs i all.1

raise_most : (game : Game) (past : List Turn) (position : ℕ) → IsGame game → greatest_raise game past position ≤ most_chips
unfolding greatest_raise limit_to
raise_most game past position is = at_most (raise_size_of game (current_round game past)) (AllBelow-at most_chips game.stacks position is.stacks_fit)
  where
    at_most : (size : Option ℕ) → stack_of game position ≤ most_chips → (elim size as (λ _. ℕ) [ None ↦ stack_of game position | Some size ↦ limit_to game past position size ]) ≤ most_chips
    at_most None below = below
    at_most (Some size) below = omega arith

pub raise_fits : (game : Game) (past : List Turn) (amount : ℕ) → IsGame game → CanAct game past (Raise amount) → amount < 2 ^ 32
unfolding CanAct
raise_fits game past amount is can =
    let most = raise_most game past can.0 is in
    let high : amount ≤ greatest_raise game past can.0 = can.2.2 in
    omega arith

-- the text of an allowed action is a word, and reads as it
pub action_word : (game : Game) (past : List Turn) (action : Action) → IsGame game → CanAct game past action → IsWord (action_text game action)
unfolding action_text IsWord
action_word game past Fold is can = refl
action_word game past Call is can = refl
action_word game past (Raise amount) is can = raise_word game.raise_sizes amount (raise_fits game past amount is can)

raise_text : (sizes : Option (List ℕ)) (game : Game) (past : List Turn) (amount : ℕ) → amount < 2 ^ 32 → CanAct game past (Raise amount) → IsRaiseText sizes game past (elim sizes as (λ _. List ℕ) [ None ↦ 114 ∷ decimal amount | Some _ ↦ 114 ∷ [] ]) amount
raise_text None game past amount small can = (refl, small)
raise_text (Some sizes) game past amount small can = (refl, inl can)

pub action_reads : (game : Game) (past : List Turn) (action : Action) → IsGame game → CanAct game past action → IsActionText game past (action_text game action) action
unfolding action_text
action_reads game past Fold is can = refl
action_reads game past Call is can = refl
action_reads game past (Raise amount) is can = raise_text game.raise_sizes game past amount (raise_fits game past amount is can) can

-- and what reads as an action that is allowed is its text
text_of_raise : (sizes : Option (List ℕ)) (game : Game) (past : List Turn) (bytes : List ℕ) (amount : ℕ) → IsRaiseText sizes game past bytes amount → bytes ≡ (elim sizes as (λ _. List ℕ) [ None ↦ 114 ∷ decimal amount | Some _ ↦ 114 ∷ [] ])
text_of_raise None game past bytes amount text = text.0
text_of_raise (Some sizes) game past bytes amount text = text.0

pub text_of_read : (game : Game) (past : List Turn) (bytes : List ℕ) (action : Action) → IsActionText game past bytes action → bytes ≡ action_text game action
unfolding action_text
text_of_read game past bytes Fold text = text
text_of_read game past bytes Call text = text
text_of_read game past bytes (Raise amount) text = text_of_raise game.raise_sizes game past bytes amount text

pub NoDigitFirst-slashes : (count : ℕ) (behind : List ℕ) → NoDigitFirst behind → NoDigitFirst (replicate count 47 ++ behind)
NoDigitFirst-slashes zero behind none = none
NoDigitFirst-slashes (suc count) behind none = refl

-- where the text of an allowed action stands first, its length is that of the word
pub word_is : (game : Game) (past : List Turn) (action : Action) (behind : List ℕ) → IsGame game → CanAct game past action → NoDigitFirst behind → 1 + prefix_len is_ascii_digit (drop 1 (action_text game action ++ behind)) ≡ length (action_text game action)
word_is game past action behind is can none = word_ends (action_text game action) behind (action_word game past action is can) none

-- the text cut behind its first word
pub cut_word : (game : Game) (past : List Action) (bytes : List ℕ) (action : Action) (behind : List ℕ) (n : ℕ) → IsGame game → BeginsWith game past bytes action behind → NoDigitFirst behind → n ≡ 1 + prefix_len is_ascii_digit (drop 1 bytes) → (take n bytes ≡ action_text game action) × (drop n bytes ≡ slashes_after game past action ++ behind)
cut_word game past bytes action behind n is begins none told =
    let rest = slashes_after game past action ++ behind in
    let no_digit : NoDigitFirst rest = NoDigitFirst-slashes (current_round game (turns game (action ∷ past)) - current_round game (turns game past)) behind none in
    let length_is : n ≡ length (action_text game action) =
    told ∙ ap (λ b. 1 + prefix_len is_ascii_digit (drop 1 b)) begins.text_is ∙ word_is game (turns game past) action rest is begins.can no_digit in (
      ap (take n) begins.text_is ∙ take_at (action_text game action) rest n (sym length_is),
      ap (drop n) begins.text_is ∙ drop_at (action_text game action) rest n (sym length_is),
    )

-- the bytes of that word read as the action
pub word_reads : (game : Game) (past : List Action) (bytes : List ℕ) (action : Action) (behind : List ℕ) (n : ℕ) (front : List ℕ) → IsGame game → BeginsWith game past bytes action behind → NoDigitFirst behind → n ≡ 1 + prefix_len is_ascii_digit (drop 1 bytes) → front ≡ take n bytes → IsActionText game (turns game past) front action
word_reads game past bytes action behind n front is begins none told cut =
    subst (λ word. IsActionText game (turns game past) word action) (sym (cut ∙ (cut_word game past bytes action behind n is begins none told).0)) (action_reads game (turns game past) action is begins.can)
