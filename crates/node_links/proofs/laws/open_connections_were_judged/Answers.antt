use Rattle.node_links.proofs.HistoryLaws.{open_is_taken, open_is_of_version}
use Rattle.node_links.proofs.laws.open_connections_were_judged.Goals as goal

pub returns-clause-taken : goal.returns-clause-taken
returns-clause-taken c = open_is_taken

pub returns-clause-version : goal.returns-clause-version
returns-clause-version c = open_is_of_version
