use Rattle.peer_codes.proofs.StepLaws.{beat_said, beat_is_taken}
use Rattle.peer_codes.proofs.laws.beats_come_coded.Goals as goal

pub returns-clause-only : goal.returns-clause-only
returns-clause-only c = beat_said

pub returns-clause-each : goal.returns-clause-each
returns-clause-each c = beat_is_taken
