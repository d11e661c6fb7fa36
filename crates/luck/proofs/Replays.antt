-- A play replayed up to a street.
use Rattle.std.proofs.Common.{◌≡◌, ℕ, ◌+◌, ◌<◌, ◌≤◌, Bool, true, false, cond, nat_le, List, [], ◌∷◌, ◌++◌, length, take, drop, reverse, get_or, refl, sym, ◌∙◌, ap, arith, le_trans}
use Rattle.std.proofs.lemmas.Bool.Decides.{nat_tests}
use Rattle.std.proofs.lemmas.List.{reverse-append, reverse-reverse, take-append-drop, take_more}
use Rattle.game_def.specs.Game.{Game, IsGame}
use Rattle.betting.specs.declared.action.Action.{Action}
use Rattle.betting.specs.Rounds.{current_round, turns}
use Rattle.betting.specs.Legal.{Legal}
use Rattle.betting.specs.Laws.{RoundsGoOn}
use Rattle.luck.specs.Streets.{before_street}

pub legal_before : (game : Game) (later past : List Action) → Legal game (later ++ past) → Legal game past
legal_before game [] past legal = legal
legal_before game (action ∷ later) past legal = legal_before game later past legal.0

-- a street that has begun stays so
pub still_begun : RoundsGoOn → (game : Game) (street : ℕ) (later past : List Action) → IsGame game → Legal game (later ++ past) → street ≤ current_round game (turns game past)
    → street ≤ current_round game (turns game (later ++ past))
still_begun law game street [] past is legal begun = begun
still_begun law game street (action ∷ later) past is legal begun =
    le_trans (still_begun law game street later past is legal.0 begun) (law game (later ++ past) action is legal).0

not_needed : (game : Game) (street : ℕ) (action : Action) (past : List Action) → street ≤ current_round game (turns game past) → before_street game street (action ∷ past) ≡ before_street game street past
unfolding before_street
not_needed game street action past begun =
    let test : nat_le street (current_round game (turns game past)) ≡ true = grind (arith, nat_tests) in
    ap (λ (b : Bool). cond b (before_street game street past) (action ∷ past)) test

pub needed : (game : Game) (street : ℕ) (action : Action) (past : List Action) → current_round game (turns game past) < street → before_street game street (action ∷ past) ≡ action ∷ past
unfolding before_street
needed game street action past earlier =
    let test : nat_le street (current_round game (turns game past)) ≡ false = grind (arith, nat_tests) in
    ap (λ (b : Bool). cond b (before_street game street past) (action ∷ past)) test

pub none_needed : (game : Game) (street : ℕ) → before_street game street [] ≡ []
unfolding before_street
none_needed game street = refl

-- later actions don't change what came before a street that had begun
pub before_later : RoundsGoOn → (game : Game) (street : ℕ) (later past : List Action) → IsGame game → Legal game (later ++ past) → street ≤ current_round game (turns game past)
    → before_street game street (later ++ past) ≡ before_street game street past
before_later law game street [] past is legal begun = refl
before_later law game street (action ∷ later) past is legal begun =
    not_needed game street action (later ++ past) (still_begun law game street later past is legal.0 begun)
    ∙ before_later law game street later past is legal.0 begun

-- a list of actions, oldest first, at one of them
pub split_at : (past items : List Action) (place : ℕ) → items ≡ reverse past → past ≡ reverse (drop place items) ++ reverse (take place items)
split_at past items place is =
    sym (reverse-reverse past) ∙ ap reverse (sym is) ∙ ap reverse (sym (take-append-drop place items)) ∙ reverse-append (take place items) (drop place items)

pub one_more : (items : List Action) (place : ℕ) (other : Action) → place < length items → get_or items place other ∷ reverse (take place items) ≡ reverse (take (place + 1) items)
one_more items place other within =
    sym (ap reverse (take_more items place other within) ∙ reverse-append (take place items) (get_or items place other ∷ []))
