use Rattle.std.proofs.Common.{rules}
use Rattle.matchstate.proofs.line.read_played.Goals as goal

pub returns-in_default-read_betting : goal.returns-in_default-read_betting
returns-in_default-read_betting c = search rules
