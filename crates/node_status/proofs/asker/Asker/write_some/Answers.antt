use Rattle.std.proofs.Common.{refl}
use Rattle.node_status.proofs.Passing.{rest_of, some_written, written_in_vain}
use Rattle.node_status.proofs.asker.Asker.write_some.Goals as goal

pub returns-in-Ok : goal.returns-in-Ok
returns-in-Ok g c = some_written c.args.place c.in-Ok.count _ _ _ _ _ (rest_of c.args.self.now.written _ _ c.deref.ensures.value) c.in-Ok.ensures.wrote refl refl refl

pub returns-in-Err-Later : goal.returns-in-Err-Later
returns-in-Err-Later g c = written_in_vain c.args.place c.in-Err-Later.field-0 _ _ _ _ c.in-Err-Later.ensures.halted refl refl refl

pub returns-in-Err-Ended : goal.returns-in-Err-Ended
returns-in-Err-Ended g c = written_in_vain c.args.place c.in-Err-Ended.field-0 _ _ _ _ c.in-Err-Ended.ensures.halted refl refl refl
