use Rattle.std.proofs.Common.{arith}
use Rattle.workload.proofs.Distinct.{down_is_distinct}
use Rattle.workload.proofs.sevens.count_from.Goals as goal

pub count-requires : goal.count-requires
count-requires c =
    down_is_distinct c.from_number.result c.from_number-in-loop-fifth.result c.from_number-in-loop-fifth-2.result c.from_number-in-loop-fifth-3.result c.from_number-in-loop-fifth-4.result c.from_number-in-loop-fifth-5.result c.from_number-in-loop-fifth-6.result
    (omega arith) (omega arith) (omega arith) (omega arith) (omega arith) (omega arith)
