use Rattle.std.proofs.Common.{◌≡◌, ◌+◌, ◌≤◌, length, []}
use Rattle.game_def.specs.Text.{lines}
use Rattle.game_def.specs.Reading.{entries_from}
use Rattle.game_def.proofs.body.read_entries.Given as goal

abbrev pub invariant-loop-line : goal.invariant-loop-line
invariant-loop-line l = record {
  whole : entries_from l.read l.entries (lines l.rest) ≡ entries_from l.before [] (lines l.text);
  within : l.read + length l.rest ≤ l.before + length l.text;
}

abbrev pub decreases-loop-line : goal.decreases-loop-line
decreases-loop-line l = length l.rest
