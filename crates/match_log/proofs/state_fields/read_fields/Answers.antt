use Rattle.std.proofs.Common.{rules}
use Rattle.match_log.proofs.state_fields.read_fields.Goals as goal

pub returns-in_err-deal-clause-only : goal.returns-in_err-deal-clause-only
returns-in_err-deal-clause-only c = search rules

pub returns-clause-found : goal.returns-clause-found
returns-clause-found c = search rules
