-- What a score's fields keep.
use Rattle.std.specs.Prelude.{◌≡◌, ◌*◌, ◌≤◌, length}
use Rattle.std.specs.List.{All}
use Rattle.match_log.specs.Payoffs.{IsWithin, most_payoff}
use Rattle.match_log.specs.Tally.{Tally}
use Rattle.match_log.specs.declared.score.Score.TheInside.{Inside}

abbrev pub tally_of : Inside → Tally
tally_of s = record { totals = s.totals; hands = s.hands }

-- no more hands than a match has, and no total further from 0 than so many payoffs
pub record IsKept (s : Inside) : Type 0 where
  pub places : length s.totals ≡ 10
  pub few : s.hands ≤ 10000
  pub within : All (IsWithin (most_payoff * s.hands)) s.totals
