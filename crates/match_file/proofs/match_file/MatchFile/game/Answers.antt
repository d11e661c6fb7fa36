use Rattle.std.proofs.Common.{rules}
use Rattle.match_file.proofs.match_file.MatchFile.game.Goals as goal

pub returns-in-Some-clause-named : goal.returns-in-Some-clause-named
returns-in-Some-clause-named c = search rules

pub returns-in-Some-clause-fault : goal.returns-in-Some-clause-fault
returns-in-Some-clause-fault c = search rules
