-- Hands come of the commands that deal and play them.
use Rattle.std.proofs.Common.{◌≡◌, ℕ, ◌+◌, ◌*◌, ◌<◌, Bool, true, false, not, cond, List, [], ◌∷◌, ◌++◌, length, Option, Some, None, refl, sym, ap, ◌∙◌, arith, inl, inr}
use Rattle.std.specs.List.{AllByRecursion}
use Rattle.std.proofs.lemmas.Bool.{cases_Bool}
use Rattle.game_def.specs.Game.{Game}
use Rattle.betting.specs.declared.action.Action.{Action}
use Rattle.betting.specs.Turns.{Turn, live}
use Rattle.betting.specs.Rounds.{over, to_act, first_cyclic, search_start, turns}
use Rattle.betting.specs.Legal.{CanAct, Legal}
use Rattle.betting.specs.Laws.{AllowedWithoutFault}
use Rattle.slot_log.specs.Hand.{Hand}
use Rattle.slot_log.specs.Dealer.{is_finished, is_running, finished_count, Fits, with_command, hands_after, hands_of}
use Rattle.slot_log.specs.Played.{acts_of, commands_of, deals_of, AreEarlierFinished}
use Rattle.slot_log.specs.Laws.{HandsComeOfCommands, CommandsDealTheHands}
use Rattle.slot_log.specs.declared.command.Command.{Command}
use Rattle.slot_log.specs.declared.command.Command.TheVariants.{Deal, Act}
use Rattle.slot_log.specs.declared.reason.Reason.{Reason}
use Rattle.slot_log.proofs.Hands.{count_all, finished_with}
use Rattle.slot_log.proofs.Fitting.{none_from_fits}

-- ---- one command

after_fitting : AllowedWithoutFault → (game : Game) (count : ℕ) (hands : List Hand) (command : Command) → Fits game count hands command → hands_after game count hands command ≡ with_command game hands command
after_fitting law game count hands command fits =
    let pick : Option Reason → List Hand = λ o. elim o [ None ↦ with_command game hands command | Some reason ↦ hands ] in
    ap pick (none_from_fits law game count hands command fits)

made_by : AllowedWithoutFault → (game : Game) (count : ℕ) (commands : List Command) (hands : List Hand) (command : Command) → hands_of game count commands ≡ hands → Fits game count hands command → hands_of game count (command ∷ commands) ≡ with_command game hands command
unfolding hands_of
made_by law game count commands hands command so_far fits =
    ap (λ before. hands_after game count before command) so_far ∙ after_fitting law game count hands command fits

-- ---- one hand

-- where somebody may act the hand isn't over
open_hand : (game : Game) (past : List Turn) (action : Action) → CanAct game past action → over game past ≡ false
unfolding CanAct to_act
open_hand game past action can =
    elim (cases_Bool (over game past)) [
      | inl ended ↦
          let pick : Bool → Option ℕ = λ b. elim b [ true ↦ None | false ↦ first_cyclic (live game past) game.players (search_start game past) ] in
          absurd (let wrong : Some can.0 ≡ None = sym can.1 ∙ ap pick ended in cc)
      | inr runs ↦ runs
    ]

-- the commands of the earlier hands have made them, and there is a hand to come
pub record IsReady (game : Game) (count : ℕ) (earlier : List Hand) (commands : List Command) : Type 0 where
  pub made : hands_of game count commands ≡ earlier
  pub finished : AllByRecursion (λ hand. is_finished game hand ≡ true) earlier
  pub goes_on : length earlier < count

module _ (law : AllowedWithoutFault) (game : Game) (count : ℕ) (earlier : List Hand) (commands : List Command) (ready : IsReady game count earlier commands) (deal : List ℕ) (card_count : length deal ≡ 2 * game.players + 5) where
  all_finished : finished_count game earlier ≡ length earlier
  all_finished = count_all (is_finished game) earlier ready.finished

  none_runs : (hands : List Hand) → AllByRecursion (λ hand. is_finished game hand ≡ true) hands → is_running game hands ≡ false
  none_runs [] finished = refl
  none_runs (newest ∷ hands) finished = ap not finished.0

  dealt : let hand : Hand = record { deal = deal; past = [] } in hands_of game count (Deal (length earlier) deal ∷ commands) ≡ hand ∷ earlier
  dealt =
      let goes_on : length earlier < count = ready.goes_on in
      made_by law game count commands earlier (Deal (length earlier) deal) ready.made
      (record { goes_on = omega (arith, all_finished); none_runs = none_runs earlier ready.finished; next_hand = sym all_finished; card_count = card_count })

  played : (past : List Action) → Legal game past → let hand : Hand = record { deal = deal; past = past } in hands_of game count (acts_of (length earlier) past ++ Deal (length earlier) deal ∷ commands) ≡ hand ∷ earlier
  played [] legal = dealt
  played (action ∷ past) legal =
      let hand : Hand = record { deal = deal; past = past } in
      let runs : is_finished game hand ≡ false = open_hand game (turns game past) action legal.1 in
      let none : ◌≡◌ {A = ℕ} (cond (is_finished game hand) 1 0) 0 = rw runs refl in
      let goes_on : length earlier < count = ready.goes_on in
      let counted : finished_count game (hand ∷ earlier) < count = omega (arith, finished_with game hand earlier, none, all_finished) in
      made_by law game count (acts_of (length earlier) past ++ Deal (length earlier) deal ∷ commands) (hand ∷ earlier) (Act (length earlier) (length past) action)
      (played past legal.0)
      (record { goes_on = counted; runs = runs; same_hand = refl; next_index = refl; allowed = legal.1 })

-- ---- all hands

earlier_finished : (game : Game) (hands : List Hand) → AllByRecursion (λ hand. is_finished game hand ≡ true) hands → AreEarlierFinished game hands
earlier_finished game [] finished = tt
earlier_finished game (newest ∷ earlier) finished = finished.1

pub hands_come_of_commands : AllowedWithoutFault → HandsComeOfCommands
unfolding hands_of
hands_come_of_commands law game count [] all finished few = refl
hands_come_of_commands law game count (hand ∷ earlier) all finished few =
    let before : hands_of game count (commands_of earlier) ≡ earlier =
    hands_come_of_commands law game count earlier all.1 (earlier_finished game earlier finished) (omega arith) in
    let ready : IsReady game count earlier (commands_of earlier) = record { made = before; finished = finished; goes_on = omega arith } in
    played law game count earlier (commands_of earlier) ready hand.deal all.0.card_count hand.past all.0.legal

-- ---- what the commands deal

no_deals_behind : (hand : ℕ) (past : List Action) (commands : List Command) → deals_of (acts_of hand past ++ commands) ≡ deals_of commands
no_deals_behind hand [] commands = refl
no_deals_behind hand (action ∷ past) commands = no_deals_behind hand past commands

pub commands_deal_the_hands : CommandsDealTheHands
commands_deal_the_hands [] = refl
commands_deal_the_hands (hand ∷ earlier) =
    no_deals_behind (length earlier) hand.past (Deal (length earlier) hand.deal ∷ commands_of earlier)
    ∙ ap (λ deals. hand.deal ∷ deals) (commands_deal_the_hands earlier)

-- what holds of each act, and of each deal of one of the hands, holds of all the commands
module _ (P : Command → Type 0) (of_acts : (hand index : ℕ) (action : Action) → P (Act hand index action)) where
  acts_hold : (hand : ℕ) (past : List Action) (commands : List Command) → AllByRecursion P commands → AllByRecursion P (acts_of hand past ++ commands)
  acts_hold hand [] commands all = all
  acts_hold hand (action ∷ past) commands all = (of_acts hand (length past) action, acts_hold hand past commands all)

  pub commands_hold : (hands : List Hand) → AllByRecursion (λ hand. (number : ℕ) → P (Deal number hand.deal)) hands → AllByRecursion P (commands_of hands)
  commands_hold [] all = tt
  commands_hold (hand ∷ earlier) all =
      acts_hold (length earlier) hand.past (Deal (length earlier) hand.deal ∷ commands_of earlier) (all.0 (length earlier), commands_hold earlier all.1)
