use Rattle.std.proofs.Common.{rules}
use Rattle.match_file.proofs.node_tables.source_of.Goals as goal

pub returns-in-Some : goal.returns-in-Some
returns-in-Some c = search rules
