-- A play after its first so many actions.
use Rattle.std.proofs.Common.{◌≡◌, ℕ, ◌+◌, ◌-◌, ◌<◌, ◌≤◌, List, ◌∷◌, ◌++◌, reverse, length, take, drop, get_or, sym, ap, ◌∙◌, subst, take-append-drop}
use Rattle.std.proofs.lemmas.List.{reverse-append, reverse-reverse, length-reverse, length-drop, drop_at}
use Rattle.game_def.specs.Game.{Game}
use Rattle.betting.specs.declared.action.Action.{Action}
use Rattle.betting.specs.declared.action.Action.TheVariants.{Fold}
use Rattle.betting.specs.Rounds.{turns}
use Rattle.betting.specs.Legal.{CanAct, Legal}
use Rattle.matchstate.proofs.Texts.{Legal-before, reverse_take_more}

-- oldest first, the last of the first so many stand in front
parted : (past : List Action) (count : ℕ) → past ≡ reverse (drop count (reverse past)) ++ reverse (take count (reverse past))
parted past count =
    sym (reverse-reverse past) ∙ (ap reverse (sym (take-append-drop count (reverse past))) ∙ reverse-append (take count (reverse past)) (drop count (reverse past)))

pub first_actions : (past : List Action) (count : ℕ) → count ≤ length past → reverse (take count (reverse past)) ≡ drop (length past - count) past
first_actions past count few =
    let later : List Action = reverse (drop count (reverse past)) in
    let long : length later ≡ length past - count =
    length-reverse (drop count (reverse past)) ∙ (length-drop count (reverse past) ∙ ap (λ (n : ℕ). n - count) (length-reverse past)) in
    sym (ap (drop (length past - count)) (parted past count) ∙ drop_at later (reverse (take count (reverse past))) (length past - count) long)

-- the next is allowed
pub next_allowed : (game : Game) (past : List Action) (i : ℕ) → Legal game past → i < length (reverse past)
    → CanAct game (turns game (reverse (take i (reverse past)))) (get_or (reverse past) i Fold)
next_allowed game past i legal less =
    let both : Legal game (reverse (drop (i + 1) (reverse past)) ++ reverse (take (i + 1) (reverse past))) = subst (Legal game) (parted past (i + 1)) legal in
    let front : Legal game (reverse (take (i + 1) (reverse past))) = Legal-before game (reverse (drop (i + 1) (reverse past))) (reverse (take (i + 1) (reverse past))) both in
    let next : Legal game (get_or (reverse past) i Fold ∷ reverse (take i (reverse past))) = subst (Legal game) (reverse_take_more (reverse past) i Fold less) front in
    next.1
