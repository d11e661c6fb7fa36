-- A betting text of a legal play is that of no other.
use Rattle.std.proofs.Common.{◌≡◌, ℕ, zero, suc, ◌+◌, ◌<◌, ◌≤◌, List, [], ◌∷◌, ◌++◌, length, drop, get_or, Option, Some, None, decimal, refl, sym, ap, ◌∙◌, subst, arith, inl, inr}
use Rattle.std.specs.Char.{is_ascii_digit}
use Rattle.std.specs.List.{prefix_len}
use Rattle.std.proofs.lemmas.Bool.{cases_lt}
use Rattle.std.proofs.lemmas.Fmt.{decimal_injective}
use Rattle.std.proofs.lemmas.List.{append_cancel_left, length-append}
use Rattle.std.proofs.lemmas.Option.{same_Some}
use Rattle.game_def.specs.Game.{Game, IsGame}
use Rattle.betting.specs.declared.action.Action.{Action}
use Rattle.betting.specs.declared.action.Action.TheVariants.{Fold, Call, Raise}
use Rattle.betting.specs.Turns.{Turn}
use Rattle.betting.specs.Rounds.{turns}
use Rattle.betting.specs.Legal.{Legal, CanAct, least_raise, greatest_raise}
use Rattle.betting.specs.Text.{text, action_text}
use Rattle.matchstate.specs.Reading.{slashes_after, BeginsWith, NoDigitFirst}
use Rattle.matchstate.proofs.Words.{raise_fits, cut_word}
use Rattle.matchstate.proofs.Behind.{Behind, behind_all, next_behind, behind_none}
use Rattle.matchstate.specs.OneToOne.{BettingTextsAreOneToOne}

-- the letter of an action
abbrev pub letter : Action → ℕ
letter Fold = 102
letter Call = 99
letter (Raise _) = 114

-- it stands first in the action's text
pub letter_is : (game : Game) (action : Action) (behind : List ℕ) → get_or (action_text game action ++ behind) 0 0 ≡ letter action
unfolding action_text
letter_is game Fold behind = refl
letter_is game Call behind = refl
letter_is game (Raise amount) behind = of_raise game.raise_sizes
  where
    of_raise : (sizes : Option (List ℕ)) → get_or ((elim sizes as (λ _. List ℕ) [ None ↦ 114 ∷ decimal amount | Some _ ↦ 114 ∷ [] ]) ++ behind) 0 0 ≡ 114
    of_raise None = refl
    of_raise (Some sizes) = refl

-- a limit game has one amount for a position to raise to
one_limit : (game : Game) (past : List Turn) (position : ℕ) (sizes : List ℕ) → game.raise_sizes ≡ Some sizes → least_raise game past position ≡ greatest_raise game past position
unfolding least_raise greatest_raise
one_limit game past position sizes limit = rw limit refl

pub one_amount : (game : Game) (past : List Turn) (sizes : List ℕ) (amount other : ℕ) → game.raise_sizes ≡ Some sizes → CanAct game past (Raise amount) → CanAct game past (Raise other) → amount ≡ other
unfolding CanAct
one_amount game past sizes amount other limit can may =
    let position : can.0 ≡ may.0 = same_Some _ _ (sym can.1 ∙ may.1) in
    let ends = one_limit game past can.0 sizes limit in
    let low : least_raise game past can.0 ≤ other = subst (λ p. least_raise game past p ≤ other) (sym position) may.2.1 in
    let high : other ≤ greatest_raise game past can.0 = subst (λ p. other ≤ greatest_raise game past p) (sym position) may.2.2 in
    let least : least_raise game past can.0 ≤ amount = can.2.1 in
    let most : amount ≤ greatest_raise game past can.0 = can.2.2 in
    omega arith

same_raise : (game : Game) (past : List Turn) (amount other : ℕ) → IsGame game → CanAct game past (Raise amount) → CanAct game past (Raise other) → action_text game (Raise amount) ≡ action_text game (Raise other) → amount ≡ other
unfolding action_text
same_raise game past amount other is can may e = by_sizes game.raise_sizes refl e
  where
    by_sizes : (sizes : Option (List ℕ)) → game.raise_sizes ≡ sizes → elim sizes as (λ _. List ℕ) [ None ↦ 114 ∷ decimal amount | Some _ ↦ 114 ∷ [] ] ≡ elim sizes as (λ _. List ℕ) [ None ↦ 114 ∷ decimal other | Some _ ↦ 114 ∷ [] ] → amount ≡ other
    by_sizes None kind same =
        let small = raise_fits game past amount is can in
        let fits = raise_fits game past other is may in
        let digits : decimal amount ≡ decimal other = cc in
        decimal_injective amount other (omega arith) (omega arith) digits
    by_sizes (Some sizes) kind same = one_amount game past sizes amount other kind can may

-- allowed actions with one text are the same
pub same_action : (game : Game) (past : List Turn) (action other : Action) → IsGame game → CanAct game past action → CanAct game past other → action_text game action ≡ action_text game other → action ≡ other
same_action game past action other is can may e = by_kind action other can may e (sym (letter_is game action []) ∙ ap (λ t. get_or (t ++ []) 0 0) e ∙ letter_is game other [])
  where
    by_kind : (a b : Action) → CanAct game past a → CanAct game past b → action_text game a ≡ action_text game b → letter a ≡ letter b → a ≡ b
    by_kind Fold Fold m n t l = refl
    by_kind Fold Call m n t l = absurd (omega arith)
    by_kind Fold (Raise y) m n t l = absurd (omega arith)
    by_kind Call Fold m n t l = absurd (omega arith)
    by_kind Call Call m n t l = refl
    by_kind Call (Raise y) m n t l = absurd (omega arith)
    by_kind (Raise x) Fold m n t l = absurd (omega arith)
    by_kind (Raise x) Call m n t l = absurd (omega arith)
    by_kind (Raise x) (Raise y) m n t l = ap Raise (same_raise game past x y is m n t)

-- what begins with an allowed action begins with no other
record SameNext (game : Game) (past : List Action) (action other : Action) (behind rest : List ℕ) : Type 0 where
  same : action ≡ other
  later : behind ≡ rest

same_next : (game : Game) (past : List Action) (bytes : List ℕ) (action other : Action) (behind rest : List ℕ) → IsGame game → BeginsWith game past bytes action behind → NoDigitFirst behind → BeginsWith game past bytes other rest → NoDigitFirst rest → SameNext game past action other behind rest
same_next game past bytes action other behind rest is begins none opens no_digit =
    let n : ℕ = 1 + prefix_len is_ascii_digit (drop 1 bytes) in
    let cut = cut_word game past bytes action behind n is begins none refl in
    let part = cut_word game past bytes other rest n is opens no_digit refl in
    let same = same_action game (turns game past) action other is begins.can opens.can (sym cut.0 ∙ part.0) in
    let slashes : slashes_after game past action ++ behind ≡ slashes_after game past action ++ rest =
    sym cut.1 ∙ part.1 ∙ ap (λ a. slashes_after game past a ++ rest) (sym same) in
    record { same = same; later = append_cancel_left (slashes_after game past action) behind rest slashes }

shorter : (game : Game) (past : List Action) (bytes : List ℕ) (action : Action) (behind : List ℕ) → BeginsWith game past bytes action behind → length behind < length bytes
unfolding action_text
shorter game past bytes action behind begins =
    let whole = ap length begins.text_is in
    let some = some_letter action in
    omega (arith, length-append (action_text game action) (slashes_after game past action ++ behind), length-append (slashes_after game past action) behind)
  where
    some_letter : (a : Action) → 0 < length (action_text game a)
    some_letter Fold = omega arith
    some_letter Call = omega arith
    some_letter (Raise amount) = of_raise game.raise_sizes
      where
        of_raise : (sizes : Option (List ℕ)) → 0 < length (elim sizes as (λ _. List ℕ) [ None ↦ 114 ∷ decimal amount | Some _ ↦ 114 ∷ [] ])
        of_raise None = omega arith
        of_raise (Some sizes) = omega arith

same_whole : (n : ℕ) (game : Game) (past : List Action) (bytes : List ℕ) (first second : List Action) → length bytes < n → IsGame game → Legal game first → Legal game second → Behind game past bytes first → Behind game past bytes second → first ≡ second
same_whole zero game past bytes first second few is legal lawful behind after = absurd (omega arith)
same_whole (suc n) game past bytes first second few is legal lawful behind after = elim (cases_lt 0 (length bytes)) [
  | inl some ↦
      let next = next_behind game past bytes first behind legal some in
      let then = next_behind game past bytes second after lawful some in
      let same = same_next game past bytes next.action then.action next.behind then.behind is next.begins next.no_digit then.begins then.no_digit in
      let less = shorter game past bytes next.action next.behind next.begins in
      let others : Behind game (next.action ∷ past) next.behind second =
      subst (λ a. Behind game (a ∷ past) next.behind second) (sym same.same) (subst (λ b. Behind game (then.action ∷ past) b second) (sym same.later) then.others) in
      same_whole n game (next.action ∷ past) next.behind first second (omega arith) is legal lawful next.others others
  | inr none ↦ sym (behind_none game past bytes first behind (omega arith)) ∙ behind_none game past bytes second after (omega arith)
]

pub betting_texts_are_one_to_one : BettingTextsAreOneToOne
betting_texts_are_one_to_one game first second is legal lawful e =
    same_whole (length (text game first) + 1) game [] (text game first) first second (omega arith) is legal lawful
    (behind_all game first (text game first) refl) (behind_all game second (text game first) e)
