use Rattle.std.proofs.Common.{◌≡◌, ℕ, ◌*◌, ◌<◌, pos, length, get_or}
use Rattle.std.specs.List.{All}
use Rattle.side_pots.specs.Pots.{total}
use Rattle.match_log.specs.Payoffs.{IsWithin, most_payoff}
use Rattle.luck.specs.Lucks.{luck_through}
use Rattle.luck.proofs.hand_luck.hand_luck.Given as goal

abbrev pub invariant-loop-street : goal.invariant-loop-street
invariant-loop-street l = record {
  places : length l.lucks ≡ 10;
  each : (position : ℕ) → position < 10 → get_or l.lucks position (pos 0) ≡ luck_through l.key l.play.game l.number (record { deal = l.deal; past = l.play.past }) position l.street;
  within : All (IsWithin (most_payoff * (4000 * l.street))) l.lucks;
  zero_sum : total l.lucks ≡ pos 0;
}
