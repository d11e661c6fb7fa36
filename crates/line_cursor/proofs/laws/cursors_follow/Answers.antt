use Rattle.line_cursor.proofs.Following.{cursors_follow}
use Rattle.line_cursor.proofs.laws.cursors_follow.Goals as goal

pub returns : goal.returns
returns c = cursors_follow
