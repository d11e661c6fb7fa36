use Rattle.peer_codes.proofs.StepLaws.{frame_said, frame_is_taken}
use Rattle.peer_codes.proofs.laws.frames_come_coded.Goals as goal

pub returns-clause-only : goal.returns-clause-only
returns-clause-only c = frame_said

pub returns-clause-each : goal.returns-clause-each
returns-clause-each c = frame_is_taken
