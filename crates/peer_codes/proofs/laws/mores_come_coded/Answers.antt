use Rattle.peer_codes.proofs.StepLaws.{more_said, more_is_taken, more_is_refused}
use Rattle.peer_codes.proofs.laws.mores_come_coded.Goals as goal

pub returns-clause-only : goal.returns-clause-only
returns-clause-only c = more_said

pub returns-clause-each : goal.returns-clause-each
returns-clause-each c = more_is_taken

pub returns-clause-first : goal.returns-clause-first
returns-clause-first c = more_is_refused
