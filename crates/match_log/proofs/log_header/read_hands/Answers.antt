use Rattle.std.proofs.Common.{rules}
use Rattle.match_log.proofs.log_header.read_hands.Goals as goal

pub returns-then-hands-le-HANDS-clause-least : goal.returns-then-hands-le-HANDS-clause-least
returns-then-hands-le-HANDS-clause-least c = search rules
