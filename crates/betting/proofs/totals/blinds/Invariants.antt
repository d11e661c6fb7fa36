use Rattle.std.proofs.Common.{◌≡◌, ℕ, ◌<◌, length, slice_index}
use Rattle.game_def.specs.Game.{blind_of}
use Rattle.betting.proofs.totals.blinds.Given as goal

abbrev pub invariant-loop-position : goal.invariant-loop-position
invariant-loop-position l = record {
  each : (k : ℕ) → k < l.position → slice_index l.blinds k ≡ blind_of l.game k;
  places : length l.blinds ≡ 10;
}
