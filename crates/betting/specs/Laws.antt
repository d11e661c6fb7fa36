-- What holds of every legal play of every game.
use Rattle.std.specs.Prelude.{◌≡◌, ℕ, ◌<◌, ◌≤◌, ◌↔◌, true, false, List, ◌∷◌, ◌++◌, length, take, reverse, slice_index, slice_index_or, Some, None, is_none}
use Rattle.game_def.specs.Game.{Game, IsGame, stack_of}
use Rattle.betting.specs.declared.action.Action.{Action}
use Rattle.betting.specs.declared.action.Action.TheVariants.{Call, Raise}
use Rattle.betting.specs.Turns.{Turn, max_spent, spent, folded, unfolded_count}
use Rattle.betting.specs.Rounds.{last_round, current_round, over, to_act, turns}
use Rattle.betting.specs.Legal.{CanAct, Legal, fault_of}
use Rattle.betting.specs.Text.{text, slash_count, slash_counts}

-- some player who hasn't folded has the greatest amount in
abbrev pub SomebodyHasTheGreatestAmount : Type 0
SomebodyHasTheGreatestAmount = (game : Game) (past : List Action) → IsGame game → Legal game past
    → (position : ℕ) × (position < game.players) × (folded (turns game past) position ≡ false)
    × (spent game (turns game past) position ≡ max_spent game (turns game past))

-- nobody has more in than his stack
abbrev pub NobodyPassesHisStack : Type 0
NobodyPassesHisStack = (game : Game) (past : List Action) (position : ℕ) → IsGame game → Legal game past → position < game.players
    → spent game (turns game past) position ≤ stack_of game position

-- what a player has in never falls
abbrev pub AmountsNeverFall : Type 0
AmountsNeverFall = (game : Game) (past : List Action) (action : Action) (position : ℕ) → IsGame game → Legal game (action ∷ past) → position < game.players
    → spent game (turns game past) position ≤ spent game (turns game (action ∷ past)) position

-- a hand has at most 256 actions
abbrev pub HandsEnd : Type 0
HandsEnd = (game : Game) (past : List Action) → IsGame game → Legal game past → length past ≤ 256

-- in a hand that isn't over somebody is to act, and he may call
abbrev pub SomebodyMayCall : Type 0
SomebodyMayCall = (game : Game) (past : List Action) → IsGame game → Legal game past → over game (turns game past) ≡ false
    → CanAct game (turns game past) Call

-- who is to act hasn't folded, and has chips left
abbrev pub WhoActsIsLive : Type 0
WhoActsIsLive = (game : Game) (past : List Action) (position : ℕ) → IsGame game → Legal game past → to_act game (turns game past) ≡ Some position
    → (position < game.players) × (folded (turns game past) position ≡ false) × (spent game (turns game past) position < stack_of game position)

-- nobody is to act exactly where the hand is over
abbrev pub NobodyActsOnceOver : Type 0
NobodyActsOnceOver = (game : Game) (past : List Action) → IsGame game → Legal game past
    → is_none (to_act game (turns game past)) ≡ over game (turns game past)

-- a raise goes above the greatest amount, and not above the stack of who makes it
abbrev pub RaisesGoUp : Type 0
RaisesGoUp = (game : Game) (past : List Action) (position amount : ℕ) → IsGame game → Legal game past → to_act game (turns game past) ≡ Some position
    → CanAct game (turns game past) (Raise amount) → (max_spent game (turns game past) < amount) × (amount ≤ stack_of game position)

-- an action is allowed exactly where nothing is wrong with it
abbrev pub AllowedWithoutFault : Type 0
AllowedWithoutFault = (game : Game) (past : List Turn) (action : Action) → CanAct game past action ↔ (fault_of game past action ≡ None)

-- rounds begin one after another and none again, up to the fourth
abbrev pub RoundsGoOn : Type 0
RoundsGoOn = (game : Game) (past : List Action) (action : Action) → IsGame game → Legal game (action ∷ past)
    → (current_round game (turns game past) ≤ current_round game (turns game (action ∷ past))) × (current_round game (turns game (action ∷ past)) ≤ last_round)

-- where a hand is over and two or more players haven't folded, all rounds are shown
abbrev pub ShowdownsShowAllRounds : Type 0
ShowdownsShowAllRounds = (game : Game) (past : List Turn) → over game past ≡ true → 2 ≤ unfolded_count game past → current_round game past ≡ last_round

-- the betting text of a beginning of a hand begins that of the hand
abbrev pub BettingTextsExtend : Type 0
BettingTextsExtend = (game : Game) (later past : List Action) → (rest : List ℕ) × (text game (later ++ past) ≡ text game past ++ rest)

-- the slashes behind each action, oldest first, are those that it causes after the actions before it
abbrev pub SlashesStandBehindActions : Type 0
SlashesStandBehindActions = (game : Game) (actions : List Action) (index : ℕ) (other : Action) → index < length actions
    → slice_index (reverse (slash_counts game (reverse actions))) index ≡ slash_count game (reverse (take index actions)) (slice_index_or actions index other)
