use Rattle.node_rules.proofs.Answered.{frames_answer, accepts_are_answered}
use Rattle.node_rules.proofs.laws.frames_answer.Goals as goal

pub returns-clause-frames : goal.returns-clause-frames
returns-clause-frames c = frames_answer c.layers_below.ensures

pub returns-clause-accepts : goal.returns-clause-accepts
returns-clause-accepts c = accepts_are_answered
