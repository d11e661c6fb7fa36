use Rattle.std.proofs.Common.{rules}
use Rattle.match_file.proofs.match_file.MatchFile.stores.Goals as goal

pub returns-in-Some-clause-found : goal.returns-in-Some-clause-found
returns-in-Some-clause-found c = search rules

pub returns-in-None-clause-fault : goal.returns-in-None-clause-fault
returns-in-None-clause-fault c = search rules
