use Rattle.std.proofs.Common.{refl}
use Rattle.std.proofs.KnownBytes.{Keeps-refl}
use Rattle.match_runs.specs.Score.{score, no_line}
use Rattle.match_runs.proofs.telling.tell_score.Goals as goal

pub returns-in-Some-last_line : goal.returns-in-Some-last_line
returns-in-Some-last_line g c = score c.in-Some.text.now c.in-Some-last_line.line.now c.in-Some.ensures.found c.in-Some-last_line.ensures.found c.tell_note.ensures

pub returns-in_default-last_line : goal.returns-in_default-last_line
returns-in_default-last_line g c = no_line c.in-Some.text.now c.in-Some.ensures.found (c.in_default-last_line.ensures.missing refl) (Keeps-refl _)
