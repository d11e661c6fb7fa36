use Rattle.line_cursor.proofs.Telling.{cursors_tell_the_lines, first_cursors_tell_a_beginning}
use Rattle.line_cursor.proofs.laws.cursors_tell_the_lines.Goals as goal

pub returns : goal.returns
returns c = record { part = cursors_tell_the_lines; beginning = first_cursors_tell_a_beginning }
