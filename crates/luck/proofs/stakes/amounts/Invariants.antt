use Rattle.std.proofs.Common.{◌≡◌, ◌≤◌, map}
use Rattle.std.specs.List.{All, range_with_len}
use Rattle.betting.specs.Betting.{history}
use Rattle.betting.specs.Turns.{spent, max_spent}
use Rattle.luck.proofs.stakes.amounts.Given as goal

abbrev pub invariant-loop-position : goal.invariant-loop-position
invariant-loop-position l = record {
  so_far : l.amounts.items ≡ map (spent l.play.game (history l.play)) (range_with_len 0 l.position);
  most : All (λ amount. amount ≤ 2147483647) l.amounts.items;
  greatest : All (λ amount. amount ≤ max_spent l.play.game (history l.play)) l.amounts.items;
}
