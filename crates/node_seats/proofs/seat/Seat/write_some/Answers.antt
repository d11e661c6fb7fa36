use Rattle.std.proofs.Common.{refl}
use Rattle.node_seats.proofs.Writing.{written_in_vain, some_written}
use Rattle.node_seats.proofs.seat.Seat.write_some.Goals as goal

pub returns-in-Ok-clause-wrote : goal.returns-in-Ok-clause-wrote
returns-in-Ok-clause-wrote g c = some_written _ c.in-Ok.count _ _ _ _ _ c.waiting-bytes.ensures c.skip.ensures.waiting c.in-Ok.ensures.wrote

pub returns-in-Err-Later-clause-wrote : goal.returns-in-Err-Later-clause-wrote
returns-in-Err-Later-clause-wrote g c = written_in_vain c.args.number c.in-Err-Later.field-0 _ _ _ _ refl c.in-Err-Later.ensures.halted

pub returns-in-Err-Ended-clause-wrote : goal.returns-in-Err-Ended-clause-wrote
returns-in-Err-Ended-clause-wrote g c = written_in_vain c.args.number c.in-Err-Ended.field-0 _ _ _ _ refl c.in-Err-Ended.ensures.halted
