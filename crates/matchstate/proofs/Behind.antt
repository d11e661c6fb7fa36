-- What stands behind a beginning of a betting text: the texts of the actions that follow.
use Rattle.std.proofs.Common.{◌≡◌, ℕ, ◌+◌, ◌<◌, List, [], ◌∷◌, ◌++◌, reverse, length, drop, get_or, Option, Some, None, decimal, refl, sym, ap, ◌∙◌, subst, arith, append_assoc}
use Rattle.std.proofs.lemmas.List.{append-nil, at_drop_more, reverse-append, reverse-reverse}
use Rattle.game_def.specs.Game.{Game}
use Rattle.betting.specs.declared.action.Action.{Action}
use Rattle.betting.specs.declared.action.Action.TheVariants.{Fold, Call, Raise}
use Rattle.betting.specs.Legal.{Legal}
use Rattle.betting.specs.Text.{text, action_text}
use Rattle.matchstate.specs.Reading.{slashes_after, BeginsWith, NoDigitFirst}
use Rattle.matchstate.proofs.Texts.{text_none, text_next, Legal-before}

-- the past with later actions, oldest first
abbrev pub extended : List Action → List Action → List Action
extended past [] = past
extended past (action ∷ later) = extended (action ∷ past) later

-- the text of later actions, oldest first
abbrev pub later_text : Game → List Action → List Action → List ℕ
later_text game past [] = []
later_text game past (action ∷ later) = action_text game action ++ (slashes_after game past action ++ later_text game (action ∷ past) later)

-- the whole is the past with later actions, whose text is the rest
pub record Behind (game : Game) (past : List Action) (rest : List ℕ) (whole : List Action) : Type 0 where
  pub later : List Action
  pub whole_is : whole ≡ extended past later
  pub rest_is : rest ≡ later_text game past later

extended_is : (past later : List Action) → extended past later ≡ reverse later ++ past
extended_is past [] = refl
extended_is past (action ∷ later) =
    extended_is (action ∷ past) later
    ∙ sym (append_assoc (reverse later) (action ∷ []) past)
    ∙ ap (λ r. r ++ past) (sym (reverse-append (action ∷ []) later))

regroup : (a b c d : List ℕ) → a ++ b ++ c ++ d ≡ a ++ (b ++ (c ++ d))
regroup a b c d = simp append_assoc

text_extended : (game : Game) (past later : List Action) → text game (extended past later) ≡ text game past ++ later_text game past later
text_extended game past [] = sym (append-nil (text game past))
text_extended game past (action ∷ later) =
    text_extended game (action ∷ past) later
    ∙ ap (λ t. t ++ later_text game (action ∷ past) later) (text_next game past action)
    ∙ regroup (text game past) (action_text game action) (slashes_after game past action) (later_text game (action ∷ past) later)

-- at the beginning all stands behind
pub behind_all : (game : Game) (whole : List Action) (bytes : List ℕ) → bytes ≡ text game whole → Behind game [] bytes whole
behind_all game whole bytes is =
    let again : whole ≡ extended [] (reverse whole) =
    sym (extended_is [] (reverse whole) ∙ append-nil (reverse (reverse whole)) ∙ reverse-reverse whole) in
    record {
      later = reverse whole;
      whole_is = again;
      rest_is = is ∙ ap (text game) again ∙ text_extended game [] (reverse whole) ∙ ap (λ t. t ++ later_text game [] (reverse whole)) (text_none game);
    }

some_text : (game : Game) (action : Action) (behind : List ℕ) → 0 < length (action_text game action ++ behind)
unfolding action_text
some_text game Fold behind = omega arith
some_text game Call behind = omega arith
some_text game (Raise amount) behind = some game.raise_sizes
  where
    some : (sizes : Option (List ℕ)) → 0 < length ((elim sizes as (λ _. List ℕ) [ None ↦ 114 ∷ decimal amount | Some _ ↦ 114 ∷ [] ]) ++ behind)
    some None = omega arith
    some (Some sizes) = omega arith

no_digit_in_action : (game : Game) (action : Action) (behind : List ℕ) → NoDigitFirst (action_text game action ++ behind)
unfolding action_text
no_digit_in_action game Fold behind = refl
no_digit_in_action game Call behind = refl
no_digit_in_action game (Raise amount) behind = no_digit game.raise_sizes
  where
    no_digit : (sizes : Option (List ℕ)) → NoDigitFirst ((elim sizes as (λ _. List ℕ) [ None ↦ 114 ∷ decimal amount | Some _ ↦ 114 ∷ [] ]) ++ behind)
    no_digit None = refl
    no_digit (Some sizes) = refl

no_digit_later : (game : Game) (past later : List Action) → NoDigitFirst (later_text game past later)
no_digit_later game past [] = tt
no_digit_later game past (action ∷ later) = no_digit_in_action game action (slashes_after game past action ++ later_text game (action ∷ past) later)

-- the next of the actions that follow
pub record Next (game : Game) (past : List Action) (rest : List ℕ) (whole : List Action) : Type 0 where
  pub action : Action
  pub behind : List ℕ
  pub begins : BeginsWith game past rest action behind
  pub no_digit : NoDigitFirst behind
  pub others : Behind game (action ∷ past) behind whole

pub next_behind : (game : Game) (past : List Action) (rest : List ℕ) (whole : List Action) → Behind game past rest whole → Legal game whole → 0 < length rest → Next game past rest whole
next_behind game past rest whole behind legal some = by_later behind.later behind.whole_is behind.rest_is
  where
    by_later : (later : List Action) → whole ≡ extended past later → rest ≡ later_text game past later → Next game past rest whole
    by_later [] whole_is rest_is = let none = ap length rest_is in absurd (omega arith)
    by_later (action ∷ later) whole_is rest_is =
        let legal_here : Legal game (reverse later ++ (action ∷ past)) = subst (Legal game) (whole_is ∙ extended_is (action ∷ past) later) legal in
        record {
          action = action;
          behind = later_text game (action ∷ past) later;
          begins = record { can = (Legal-before game (reverse later) (action ∷ past) legal_here).1; text_is = rest_is };
          no_digit = no_digit_later game (action ∷ past) later;
          others = record { later = later; whole_is = whole_is; rest_is = refl };
        }

-- where nothing stands behind, the whole is the past
pub behind_none : (game : Game) (past : List Action) (rest : List ℕ) (whole : List Action) → Behind game past rest whole → length rest ≡ 0 → past ≡ whole
behind_none game past rest whole behind none = by_later behind.later behind.whole_is behind.rest_is
  where
    by_later : (later : List Action) → whole ≡ extended past later → rest ≡ later_text game past later → past ≡ whole
    by_later [] whole_is rest_is = sym whole_is
    by_later (action ∷ later) whole_is rest_is =
        let some = some_text game action (slashes_after game past action ++ later_text game (action ∷ past) later) in
        let all = ap length rest_is in
        absurd (omega arith)

pub text_with : (game : Game) (past : List Action) (bytes rest : List ℕ) (action : Action) (behind : List ℕ) → bytes ≡ text game past ++ rest → rest ≡ action_text game action ++ (slashes_after game past action ++ behind) → bytes ≡ text game (action ∷ past) ++ behind
text_with game past bytes rest action behind whole begins =
    whole ∙ ap (λ r. text game past ++ r) begins
    ∙ sym (regroup (text game past) (action_text game action) (slashes_after game past action) behind)
    ∙ ap (λ t. t ++ behind) (sym (text_next game past action))

-- the texts of all actions, oldest first, are the whole text
pub text_later : (game : Game) (actions : List Action) → text game (reverse actions) ≡ later_text game [] actions
text_later game actions =
    sym (ap (text game) (extended_is [] actions ∙ append-nil (reverse actions)))
    ∙ text_extended game [] actions ∙ ap (λ t. t ++ later_text game [] actions) (text_none game)

-- that of the next stands in front of the others
pub later_next : (game : Game) (past actions : List Action) (i : ℕ) (behind : List ℕ) → i < length actions
    → later_text game past (drop i actions) ++ behind
    ≡ action_text game (get_or actions i Fold) ++ (slashes_after game past (get_or actions i Fold) ++ (later_text game (get_or actions i Fold ∷ past) (drop (i + 1) actions) ++ behind))
later_next game past actions i behind below =
    let action = get_or actions i Fold in
    at_drop_more (λ later. later_text game past later ++ behind) actions i Fold below
    ∙ regroup' (action_text game action) (slashes_after game past action) (later_text game (action ∷ past) (drop (i + 1) actions)) behind
  where
    regroup' : (a b c d : List ℕ) → (a ++ (b ++ c)) ++ d ≡ a ++ (b ++ (c ++ d))
    regroup' a b c d = simp append_assoc
