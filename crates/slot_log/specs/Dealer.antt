-- The sequential dealer: what becomes of a match by a list of commands, newest first.
use Rattle.std.specs.Prelude.{◌≡◌, ℕ, ◌+◌, ◌*◌, ◌<◌, Bool, false, not, ◌==◌, nat_le, if◌then◌else◌, List, [], ◌∷◌, length, reverse, slice_get, Option, Some, None, count_by}
use Rattle.std.specs.Option.{option_map}
use Rattle.game_def.specs.Game.{Game}
use Rattle.betting.specs.declared.action.Action.{Action}
use Rattle.betting.specs.declared.action.Action.TheVariants.{Call}
use Rattle.betting.specs.Rounds.{over, turns}
use Rattle.betting.specs.Legal.{CanAct, fault_of}
use Rattle.slot_log.specs.Hand.{Hand}
use Rattle.slot_log.specs.Away.{away_action}
use Rattle.slot_log.specs.declared.command.Command.{Command}
use Rattle.slot_log.specs.declared.command.Command.TheVariants.{Deal, Act, Away}
use Rattle.slot_log.specs.declared.reason.Reason.{Reason}
use Rattle.slot_log.specs.declared.reason.Reason.TheVariants.{MatchDone, NoHand, HandRunning, WrongHand, WrongIndex, WrongCards, Illegal}
use Rattle.slot_log.specs.declared.effect.Effect.{Effect}
use Rattle.slot_log.specs.declared.effect.Effect.TheVariants.{Dealt, Acted, HandOver, MatchOver, None as Nothing}

-- the hand's betting is over
abbrev pub is_finished : Game → Hand → Bool
is_finished game hand = over game (turns game hand.past)

-- how many of the hands are finished
abbrev pub finished_count : Game → List Hand → ℕ
finished_count game hands = count_by (is_finished game) hands

-- a hand runs where the newest one isn't finished
abbrev pub is_running : Game → List Hand → Bool
is_running game [] = false
is_running game (hand ∷ earlier) = not (is_finished game hand)

-- the command deals a hand
abbrev pub IsDealing : Command → Type 0
IsDealing (Deal hand deal) = Unit {0}
IsDealing (Act hand index action) = ⊥
IsDealing (Away hand index) = ⊥

-- a deal fits where the match goes on, no hand runs, it is for the next hand, and it has two cards for each
-- player and five for the board
pub record DealFits (game : Game) (count : ℕ) (hands : List Hand) (hand : ℕ) (deal : List ℕ) : Type 0 where
  pub goes_on : finished_count game hands < count
  pub none_runs : is_running game hands ≡ false
  pub next_hand : hand ≡ finished_count game hands
  pub card_count : length deal ≡ 2 * game.players + 5

-- an act fits where the newest hand runs and is the act's, the act's index is the number of its actions so
-- far, and the action is allowed
pub record ActFits (game : Game) (count : ℕ) (newest : Hand) (earlier : List Hand) (hand index : ℕ) (action : Action) : Type 0 where
  pub goes_on : finished_count game (newest ∷ earlier) < count
  pub runs : is_finished game newest ≡ false
  pub same_hand : hand ≡ length earlier
  pub next_index : index ≡ length newest.past
  pub allowed : CanAct game (turns game newest.past) action

-- a command fits the hands so far; what plays for a player who is away does where an act of its hand and index with his action would
abbrev pub Fits : Game → ℕ → List Hand → Command → Type 0
Fits game count hands (Deal hand deal) = DealFits game count hands hand deal
Fits game count [] (Act hand index action) = ⊥
Fits game count (newest ∷ earlier) (Act hand index action) = ActFits game count newest earlier hand index action
Fits game count [] (Away hand index) = ⊥
Fits game count (newest ∷ earlier) (Away hand index) = ActFits game count newest earlier hand index (away_action game (turns game newest.past))

-- all hands of the match are finished
abbrev pub is_match_over : Game → ℕ → List Hand → Bool
is_match_over game count hands = nat_le count (finished_count game hands)

-- why a deal doesn't fit a match that goes on
abbrev pub deal_reason : Game → List Hand → ℕ → List ℕ → Option Reason
deal_reason game hands hand deal =
    if is_running game hands then Some HandRunning
    else if not (hand == finished_count game hands) then Some WrongHand
    else if not (length deal == 2 * game.players + 5) then Some WrongCards
    else None

-- why an act doesn't fit a match that goes on
abbrev pub act_reason : Game → List Hand → ℕ → ℕ → Action → Option Reason
act_reason game [] hand index action = Some NoHand
act_reason game (newest ∷ earlier) hand index action =
    if is_finished game newest then Some NoHand
    else if not (hand == length earlier) then Some WrongHand
    else if not (index == length newest.past) then Some WrongIndex
    else option_map Illegal (fault_of game (turns game newest.past) action)

-- what is done for the player to act of the newest hand where he is away
abbrev pub act_for : Game → List Hand → Action
act_for game [] = Call
act_for game (newest ∷ earlier) = away_action game (turns game newest.past)

-- the first reason why a command doesn't fit, none where it fits: for a deal MatchDone, HandRunning, WrongHand, WrongCards; for an act, and for what plays
-- for a player who is away, MatchDone, NoHand, WrongHand, WrongIndex, Illegal
abbrev pub reason_of : Game → ℕ → List Hand → Command → Option Reason
reason_of game count hands (Deal hand deal) = if is_match_over game count hands then Some MatchDone else deal_reason game hands hand deal
reason_of game count hands (Act hand index action) = if is_match_over game count hands then Some MatchDone else act_reason game hands hand index action
reason_of game count hands (Away hand index) = if is_match_over game count hands then Some MatchDone else act_reason game hands hand index (act_for game hands)

-- a deal that fits begins a hand
abbrev pub with_deal : List Hand → List ℕ → List Hand
with_deal hands deal = let hand : Hand = record { deal = deal; past = [] } in hand ∷ hands

-- an act that fits is the newest hand's next action
abbrev pub with_action : List Hand → Action → List Hand
with_action [] action = []
with_action (newest ∷ earlier) action = record newest { past = action ∷ newest.past } ∷ earlier

-- the hands after a command that fits
abbrev pub with_command : Game → List Hand → Command → List Hand
with_command game hands (Deal hand deal) = with_deal hands deal
with_command game hands (Act hand index action) = with_action hands action
with_command game hands (Away hand index) = with_action hands (act_for game hands)

-- the hands after a command: one that doesn't fit does nothing
abbrev pub hands_after : Game → ℕ → List Hand → Command → List Hand
hands_after game count hands command =
    elim (reason_of game count hands command) [ None ↦ with_command game hands command | Some reason ↦ hands ]

-- the hands that a list of commands makes, newest first
unfoldable pub hands_of : Game → ℕ → List Command → List Hand
hands_of game count [] = []
hands_of game count (command ∷ earlier) = hands_after game count (hands_of game count earlier) command

-- what an act that fits did, by the hands after it
abbrev pub effect_of_action : Game → ℕ → List Hand → Effect
effect_of_action game count hands =
    if is_running game hands then Acted
    else if is_match_over game count hands then MatchOver
    else HandOver

-- what a command that fits did, by the hands after it
abbrev pub effect_in : Game → ℕ → Command → List Hand → Effect
effect_in game count (Deal hand deal) hands = Dealt
effect_in game count (Act hand index action) hands = effect_of_action game count hands
effect_in game count (Away hand index) hands = effect_of_action game count hands

-- what a command does: a hand is dealt, an action taken, the hand over or the match over; or nothing, for a reason
abbrev pub effect_of : Game → ℕ → List Hand → Command → Effect
effect_of game count hands command =
    elim (reason_of game count hands command) [ None ↦ effect_in game count command (with_command game hands command) | Some reason ↦ Nothing reason ]

-- the hand of a number, counted from 0 in the order of dealing
abbrev pub hand_at : List Hand → ℕ → Option Hand
hand_at hands number = slice_get (reverse hands) number

-- the command by which the player to act is played for: of the running hand, with the number of its actions so far; none where no hand runs
abbrev pub next_away : Game → List Hand → Option Command
next_away game [] = None
next_away game (newest ∷ earlier) = if is_finished game newest then None else Some (Away (length earlier) (length newest.past))
