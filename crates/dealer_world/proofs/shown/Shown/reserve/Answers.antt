use Rattle.std.proofs.Common.{rules}
use Rattle.dealer_world.proofs.shown.Shown.reserve.Goals as goal

pub returns-clause-piece_room : goal.returns-clause-piece_room
returns-clause-piece_room c = search rules

pub returns-clause-byte_room : goal.returns-clause-byte_room
returns-clause-byte_room c = search rules
