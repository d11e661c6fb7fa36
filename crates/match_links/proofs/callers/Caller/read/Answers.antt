use Rattle.match_links.proofs.Passed.{lines_when_came, log_when_came}
use Rattle.std.proofs.Common.{rules}
use Rattle.match_links.proofs.callers.Caller.read.Goals as goal

pub returns-clause-read : goal.returns-clause-read
returns-clause-read c = search (rules, lines_when_came, log_when_came)
