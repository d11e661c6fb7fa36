use Rattle.std.proofs.Common.{rules}
use Rattle.match_file.proofs.outage.Outage.keeps_out.Goals as goal

pub returns-in-Some : goal.returns-in-Some
returns-in-Some c = search rules
