use Rattle.std.proofs.Common.{rules}
use Rattle.match_file.proofs.match_file.MatchFile.read.Goals as goal

pub returns-in-Err : goal.returns-in-Err
returns-in-Err c = search rules
