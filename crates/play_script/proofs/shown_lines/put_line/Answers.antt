use Rattle.std.proofs.Common.{rules}
use Rattle.play_script.proofs.shown_lines.put_line.Goals as goal

pub returns-clause-err : goal.returns-clause-err
returns-clause-err c = search rules
