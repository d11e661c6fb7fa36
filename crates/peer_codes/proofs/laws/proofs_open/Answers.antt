use Rattle.peer_codes.proofs.StepLaws.{opening_said, proof_is_taken, opens_so}
use Rattle.peer_codes.proofs.laws.proofs_open.Goals as goal

pub returns-clause-only : goal.returns-clause-only
returns-clause-only c = opening_said

pub returns-clause-each : goal.returns-clause-each
returns-clause-each c = proof_is_taken

pub returns-clause-told : goal.returns-clause-told
returns-clause-told c = opens_so
