use Rattle.std.proofs.Common.{ap}
use Rattle.dealer_world.specs.Records.{messages_of}
use Rattle.dealer_world.proofs.laws.old_frames_say_the_same.Goals as goal

pub returns : goal.returns
returns c = λ from to m is old. ap (messages_of from) (c.old_frames_read_back.ensures m is old)
