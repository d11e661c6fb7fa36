-- What an order that the player to act is played for means.
use Rattle.std.proofs.Common.{◌≡◌, ℕ, Bool, true, false, cond, List, [], ◌∷◌, length, Some, None, subst}
use Rattle.game_def.specs.Game.{Game}
use Rattle.slot_log.specs.Hand.{Hand}
use Rattle.slot_log.specs.Dealer.{is_finished, next_away}
use Rattle.slot_log.specs.declared.command.Command.{Command}
use Rattle.slot_log.specs.declared.command.Command.TheVariants.{Deal, Act, Away}
use Rattle.slot_log.specs.Laws.{FitsWithoutReason, CommandsMakeHands, NextAwayFits, NoOtherAwayFits}
use Rattle.dealer_kind.specs.Kind.{hands_after}
use Rattle.dealer_kind.specs.Laws.{OrdersPlayForTheNext}
use Rattle.dealer_kind.proofs.Fitting.{fitting}

-- the next command that plays for a player plays for one
abbrev PlaysFor : Command → Type 0
PlaysFor (Deal hand deal) = ⊥
PlaysFor (Act hand index action) = ⊥
PlaysFor (Away hand index) = Unit {0}

next_by : (finished : Bool) (hand index : ℕ) (command : Command) → cond finished None (Some (Away hand index)) ≡ Some command → PlaysFor command
next_by true hand index command is = absurd cc
next_by false hand index command is = let same : Away hand index ≡ command = cc in subst PlaysFor same tt

next_plays : (game : Game) (hands : List Hand) (command : Command) → next_away game hands ≡ Some command → PlaysFor command
next_plays game [] command is = absurd cc
next_plays game (newest ∷ earlier) command is = next_by (is_finished game newest) (length earlier) (length newest.past) command is

pub orders_play_for_the_next : FitsWithoutReason → CommandsMakeHands → NextAwayFits → NoOtherAwayFits → OrdersPlayForTheNext
orders_play_for_the_next without made next only setting before (Deal hand deal) is =
    ((λ ordered. absurd cc), (λ found. absurd (next_plays setting.game (hands_after setting before) (Deal hand deal) found)))
orders_play_for_the_next without made next only setting before (Act hand index action) is =
    ((λ ordered. absurd cc), (λ found. absurd (next_plays setting.game (hands_after setting before) (Act hand index action) found)))
orders_play_for_the_next without made next only setting before (Away hand index) is =
    let exact = fitting without setting before (Away hand index) in (
      (λ ordered. only setting.game setting.title.hands (hands_after setting before) hand index (exact.0 ordered)),
      (λ found.
          let are = made setting.game setting.title.hands before in
          exact.1 (next setting.game setting.title.hands (hands_after setting before) (Away hand index) is.is_game are found)),
    )
