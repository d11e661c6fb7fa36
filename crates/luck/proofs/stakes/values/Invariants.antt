use Rattle.std.proofs.Common.{◌≡◌, take, map, length}
use Rattle.std.specs.List.{range_with_len}
use Rattle.match_log.specs.BestFive.{best_worth}
use Rattle.match_log.specs.Payoffs.{seven_of}
use Rattle.luck.proofs.stakes.values.Given as goal

abbrev pub invariant-loop-position : goal.invariant-loop-position
invariant-loop-position l = record {
  places : length l.values ≡ 10;
  so_far : take l.position l.values ≡ map (λ position. best_worth (seven_of l.deal position)) (range_with_len 0 l.position);
}
