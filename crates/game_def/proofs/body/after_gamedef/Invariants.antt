use Rattle.std.proofs.Common.{◌≡◌, ◌+◌, ◌≤◌, length}
use Rattle.game_def.specs.Text.{lines}
use Rattle.game_def.specs.Reading.{gamedef_from}
use Rattle.game_def.proofs.body.after_gamedef.Given as goal

abbrev pub invariant-loop-line : goal.invariant-loop-line
invariant-loop-line l = record {
  whole : gamedef_from l.read (lines l.rest) ≡ gamedef_from 0 (lines l.text);
  within : l.read + length l.rest ≤ length l.text;
}

abbrev pub decreases-loop-line : goal.decreases-loop-line
decreases-loop-line l = length l.rest
