-- A running score: what each seat has won and lost in the hands so far.
use Rattle.std.specs.Prelude.{◌≡◌, ℕ, ◌<◌, ℤ, pos, List, length, slice_index_or}
use Rattle.game_def.specs.Game.{Game}
use Rattle.slot_log.specs.Hand.{Hand}
use Rattle.match_log.specs.Payoffs.{total_of}

-- the totals by seat, and of how many hands
pub record Tally : Type 0 where
  pub totals : List ℤ
  pub hands : ℕ

-- they are those of these hands, newest first
pub record IsTallyOf (game : Game) (hands : List Hand) (tally : Tally) : Type 0 where
  pub count : tally.hands ≡ length hands
  pub each_seat : (seat : ℕ) → seat < game.players → slice_index_or tally.totals seat (pos 0) ≡ total_of game hands seat
