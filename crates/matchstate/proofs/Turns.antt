-- A betting text with one more action, behind what stands before it and in front of what stands behind it.
use Rattle.std.proofs.Common.{◌≡◌, ℕ, ◌+◌, ◌<◌, List, ◌∷◌, ◌++◌, length, reverse, take, drop, replicate, get_or, ap, sym, ◌∙◌, append_assoc}
use Rattle.game_def.specs.Game.{Game}
use Rattle.betting.specs.declared.action.Action.{Action}
use Rattle.betting.specs.declared.action.Action.TheVariants.{Fold}
use Rattle.betting.specs.Laws.{SlashesStandBehindActions}
use Rattle.betting.specs.Text.{text, action_text, slash_count, slash_counts}
use Rattle.matchstate.proofs.Behind.{later_text, later_next, text_with}
use Rattle.matchstate.proofs.Texts.{text_next, reverse_take_more}

-- as many slashes are kept for a place as stand behind its action
pub count_is : (game : Game) (actions : List Action) (slashes : List ℕ) (place : ℕ) → slashes ≡ reverse (slash_counts game (reverse actions)) → SlashesStandBehindActions → place < length actions
    → get_or slashes place 0 ≡ slash_count game (reverse (take place actions)) (get_or actions place Fold)
count_is game actions slashes place kept law test = ap (λ s. get_or s place 0) kept ∙ law game actions place Fold test

around : (a b c d : List ℕ) → a ++ b ++ c ++ d ≡ a ++ (b ++ c ++ d)
around a b c d = simp append_assoc

-- the text of one action more, behind what stood before
pub turn_more : (game : Game) (actions : List Action) (place : ℕ) (before so_far more : List ℕ) (count : ℕ) → place < length actions
    → count ≡ slash_count game (reverse (take place actions)) (get_or actions place Fold)
    → so_far ≡ before ++ text game (reverse (take place actions))
    → more ≡ so_far ++ action_text game (get_or actions place Fold) ++ replicate count 47
    → more ≡ before ++ text game (reverse (take (place + 1) actions))
turn_more game actions place before so_far more count test count_is so_far_is more_is =
    let past = reverse (take place actions) in
    let action = get_or actions place Fold in
    more_is
    ∙ ap (λ t. t ++ action_text game action ++ replicate count 47) so_far_is
    ∙ ap (λ n. before ++ text game past ++ action_text game action ++ replicate n 47) count_is
    ∙ around before (text game past) (action_text game action) (replicate (slash_count game past action) 47)
    ∙ ap (λ t. before ++ t) (sym (ap (text game) (reverse_take_more actions place Fold test) ∙ text_next game past action))

-- what stands in front of the rest, with one action more
pub front_more : (game : Game) (actions : List Action) (place : ℕ) (bytes rest behind : List ℕ) (count : ℕ) → place < length actions
    → count ≡ slash_count game (reverse (take place actions)) (get_or actions place Fold)
    → bytes ≡ text game (reverse (take place actions)) ++ rest
    → rest ≡ action_text game (get_or actions place Fold) ++ (replicate count 47 ++ behind)
    → bytes ≡ text game (reverse (take (place + 1) actions)) ++ behind
front_more game actions place bytes rest behind count test count_is whole begins =
    let past = reverse (take place actions) in
    let action = get_or actions place Fold in
    text_with game past bytes rest action behind whole (begins ∙ ap (λ n. action_text game action ++ (replicate n 47 ++ behind)) count_is)
    ∙ ap (λ p. text game p ++ behind) (sym (reverse_take_more actions place Fold test))

-- the action that is next stands in front of what is behind it
pub next_first : (game : Game) (actions : List Action) (place : ℕ) (rest behind : List ℕ) (count : ℕ) → place < length actions
    → count ≡ slash_count game (reverse (take place actions)) (get_or actions place Fold)
    → rest ≡ later_text game (reverse (take place actions)) (drop place actions) ++ behind
    → rest ≡ action_text game (get_or actions place Fold) ++ (replicate count 47 ++ (later_text game (reverse (take (place + 1) actions)) (drop (place + 1) actions) ++ behind))
next_first game actions place rest behind count test count_is is =
    let past = reverse (take place actions) in
    let action = get_or actions place Fold in
    is ∙ later_next game past actions place behind test
    ∙ ap (λ n. action_text game action ++ (replicate n 47 ++ (later_text game (action ∷ past) (drop (place + 1) actions) ++ behind))) (sym count_is)
    ∙ ap (λ p. action_text game action ++ (replicate count 47 ++ (later_text game p (drop (place + 1) actions) ++ behind))) (sym (reverse_take_more actions place Fold test))
