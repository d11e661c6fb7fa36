use Rattle.std.proofs.Common.{◌≡◌, List, ◌++◌, length}
use Rattle.betting.specs.declared.action.Action.{Action}
use Rattle.betting.specs.Legal.{Legal}
use Rattle.betting.specs.Text.{text}
use Rattle.matchstate.proofs.Behind.{Behind}
use Rattle.matchstate.proofs.betting_field.read_betting.Given as goal

abbrev pub invariant-loop-rest : goal.invariant-loop-rest
invariant-loop-rest l =
    (l.play.game ≡ l.game)
    × Legal l.game l.play.past
    × (l.bytes ≡ text l.game l.play.past ++ l.rest)
    × ((past : List Action) → Legal l.game past → l.bytes ≡ text l.game past → Behind l.game l.play.past l.rest past)

abbrev pub decreases-loop-rest : goal.decreases-loop-rest
decreases-loop-rest l = length l.rest
