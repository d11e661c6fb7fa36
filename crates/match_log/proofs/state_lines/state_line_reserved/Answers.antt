use Rattle.std.proofs.Common.{rules}
use Rattle.match_log.proofs.state_lines.state_line_reserved.Goals as goal

pub returns-clause-items : goal.returns-clause-items
returns-clause-items c = search rules
