use Rattle.std.proofs.Common.{rules}
use Rattle.match_file.proofs.outages.leave_most_at.Goals as goal

pub returns : goal.returns
returns c = search rules
