use Rattle.joined_lines.proofs.Keeping.{turns_keep_servers}
use Rattle.joined_lines.proofs.laws.turns_keep_servers.Goals as goal

pub returns : goal.returns
returns g c = turns_keep_servers g.D.Disk
