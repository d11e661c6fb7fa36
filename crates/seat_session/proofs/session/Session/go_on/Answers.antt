use Rattle.std.proofs.Common.{rules}
use Rattle.seat_session.proofs.session.Session.go_on.Goals as goal

pub returns-in-Err-clause-line : goal.returns-in-Err-clause-line
returns-in-Err-clause-line c = search rules

pub returns-in-Err-clause-too_long : goal.returns-in-Err-clause-too_long
returns-in-Err-clause-too_long c = search rules

pub returns-in_default-clause-line : goal.returns-in_default-clause-line
returns-in_default-clause-line c = search rules
