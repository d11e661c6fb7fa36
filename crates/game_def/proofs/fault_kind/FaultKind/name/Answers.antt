use Rattle.std.proofs.Common.{rules}
use Rattle.game_def.proofs.fault_kind.FaultKind.name.Goals as goal

pub returns-in-NoEnd : goal.returns-in-NoEnd
returns-in-NoEnd c = search rules
