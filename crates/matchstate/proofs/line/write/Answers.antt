use Rattle.std.proofs.Common.{rules}
use Rattle.matchstate.proofs.line.write.Goals as goal

pub write_reserved-requires-clause-room : goal.write_reserved-requires-clause-room
write_reserved-requires-clause-room c = search rules
