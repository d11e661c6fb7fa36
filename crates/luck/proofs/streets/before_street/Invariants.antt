use Rattle.std.proofs.Common.{◌≡◌, take, reverse}
use Rattle.luck.specs.Streets.{before_street}
use Rattle.luck.proofs.streets.before_street.Given as goal

abbrev pub invariant-loop-action : goal.invariant-loop-action
invariant-loop-action l = record {
  same_game : l.replay.game ≡ l.play.game;
  so_far : l.replay.past ≡ reverse (take l.action-index l.action-items);
  needed : before_street l.play.game l.street l.replay.past ≡ l.replay.past;
}
