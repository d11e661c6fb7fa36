use Rattle.std.proofs.Common.{◌≡◌, length, IsTrue}
use Rattle.std.specs.List.{list_all}
use Rattle.game_def.specs.Text.{words}
use Rattle.game_def.specs.Key.{fits}
use Rattle.game_def.specs.Reading.{numbers, values}
use Rattle.game_def.proofs.Counting.{resumed}
use Rattle.game_def.proofs.line.read_values.Given as goal

abbrev pub invariant-loop-word : goal.invariant-loop-word
invariant-loop-word l = record {
  whole : resumed l.key l.found.items l.too_many (numbers l.key (words l.rest)) ≡ values l.key (words l.text);
  fitting : IsTrue (list_all (fits l.key) l.found.items);
}

abbrev pub decreases-loop-word : goal.decreases-loop-word
decreases-loop-word l = length (words l.rest)
