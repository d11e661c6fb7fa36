use Rattle.std.proofs.Common.{arith}
use Rattle.std.proofs.lemmas.Grind.{common_steps}
use Rattle.slot_log.proofs.Inside.{act_reason_none}
use Rattle.slot_log.proofs.table.Table.act_reason.Goals as goal

pub returns-in_default : goal.returns-in_default
returns-in_default c = act_reason_none c.self.inside c.args.self.now c.args.hand c.args.index c.args.action c.self.view_is c.self.invariant c.in_default.is

pub returns-else-index-actions : goal.returns-else-index-actions
returns-else-index-actions c = grind (arith, common_steps)
