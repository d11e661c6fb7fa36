use Rattle.operator_notes.proofs.KeptLogs.{stands_by}
use Rattle.operator_notes.proofs.log_names.stands_in.Goals as goal

pub returns : goal.returns
returns c = rw c.is_some.ensures (stands_by c.after.result c.args.log.now c.args.kept.now c.after.ensures.found c.after.ensures.only)
