use Rattle.line_cursor.proofs.Following.{next_cursor_stays}
use Rattle.line_cursor.proofs.laws.next_cursor_stays.Goals as goal

pub returns : goal.returns
returns c = next_cursor_stays
