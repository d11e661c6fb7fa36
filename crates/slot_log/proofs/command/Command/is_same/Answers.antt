use Rattle.std.proofs.Common.{rules}
use Rattle.slot_log.proofs.command.Command.is_same.Goals as goal

pub returns-then-hand-other_hand : goal.returns-then-hand-other_hand
returns-then-hand-other_hand c = search rules
