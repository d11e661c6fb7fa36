use Rattle.std.proofs.Common.{rules}
use Rattle.dealer_world.proofs.frames.Frames.reserve.Goals as goal

pub returns-clause-byte_room : goal.returns-clause-byte_room
returns-clause-byte_room c = search rules
