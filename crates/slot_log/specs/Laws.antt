-- What holds of the hands of every match.
use Rattle.betting.specs.declared.fault.ActFault.{ActFault}
use Rattle.std.specs.Prelude.{◌≡◌, ℕ, ◌≤◌, ◌↔◌, List, ◌∷◌, length, map, Some, None}
use Rattle.std.specs.List.{AllByRecursion}
use Rattle.game_def.specs.Game.{Game, IsGame}
use Rattle.slot_log.specs.Hand.{Hand}
use Rattle.slot_log.specs.declared.command.Command.{Command}
use Rattle.slot_log.specs.declared.command.Command.TheVariants.{Away}
use Rattle.slot_log.specs.declared.reason.Reason.TheVariants.{Illegal}
use Rattle.slot_log.specs.Dealer.{Fits, reason_of, hands_of, hand_at, next_away}
use Rattle.slot_log.specs.Played.{commands_of, deals_of, IsLegalHand, AreEarlierFinished, AreHands}
use Rattle.slot_log.specs.declared.limits.TheConstants.{HANDS}
use Rattle.slot_log.specs.Range.{IsInRange}

-- legal hands, all but the newest finished and no more than the match has, come of the commands that deal and play them
abbrev pub HandsComeOfCommands : Type 0
HandsComeOfCommands =
    (game : Game) (count : ℕ) (hands : List Hand) → AllByRecursion (IsLegalHand game) hands → AreEarlierFinished game hands → length hands ≤ count
    → hands_of game count (commands_of hands) ≡ hands

-- those commands deal the hands' cards, and no others
abbrev pub CommandsDealTheHands : Type 0
CommandsDealTheHands = (hands : List Hand) → deals_of (commands_of hands) ≡ map (λ hand. hand.deal) hands

-- a command fits exactly where there is no reason against it
abbrev pub FitsWithoutReason : Type 0
FitsWithoutReason = (game : Game) (count : ℕ) (hands : List Hand) (command : Command) → Fits game count hands command ↔ (reason_of game count hands command ≡ None)

-- whatever the commands, the hands that they make are legal, all but the newest finished and no more than the match has
abbrev pub CommandsMakeHands : Type 0
CommandsMakeHands = (game : Game) (count : ℕ) (commands : List Command) → AreHands game count (hands_of game count commands)

-- the numbers of a command that fits the hands of a match are within their ranges
abbrev pub FittingIsInRange : Type 0
FittingIsInRange = (game : Game) (count : ℕ) (hands : List Hand) (command : Command) → IsGame game → count ≤ HANDS → AreHands game count hands
    → Fits game count hands command → IsInRange command

-- the newest hand stands at the number of those before it
abbrev pub NewestIsFound : Type 0
NewestIsFound = (newest : Hand) (earlier : List Hand) → hand_at (newest ∷ earlier) (length earlier) ≡ Some newest

-- what is done for a player who is away is legal
abbrev pub AwayIsNeverIllegal : Type 0
AwayIsNeverIllegal = (game : Game) (count : ℕ) (hands : List Hand) (hand index : ℕ) (fault : ActFault) → IsGame game → AreHands game count hands
    → reason_of game count hands (Away hand index) ≡ Some (Illegal fault) → ⊥

-- the command for him fits where a hand runs
abbrev pub NextAwayFits : Type 0
NextAwayFits = (game : Game) (count : ℕ) (hands : List Hand) (command : Command) → IsGame game → AreHands game count hands
    → next_away game hands ≡ Some command → Fits game count hands command

-- and no other that plays for somebody does
abbrev pub NoOtherAwayFits : Type 0
NoOtherAwayFits = (game : Game) (count : ℕ) (hands : List Hand) (hand index : ℕ) → Fits game count hands (Away hand index)
    → next_away game hands ≡ Some (Away hand index)
