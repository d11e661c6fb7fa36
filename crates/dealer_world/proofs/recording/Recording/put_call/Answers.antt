use Rattle.std.proofs.Common.{rules}
use Rattle.dealer_world.proofs.recording.Recording.put_call.Goals as goal

pub returns-clause-all : goal.returns-clause-all
returns-clause-all c = search rules

pub returns-clause-last : goal.returns-clause-last
returns-clause-last c = search rules
