use Rattle.std.proofs.Common.{refl, arith}
use Rattle.match_file.specs.Said.{SaysName}
use Rattle.match_file.proofs.Views.{reads_more, none_reads}
use Rattle.match_file.proofs.seat_names.names_of.Goals as goal

pub returns-in-None : goal.returns-in-None
returns-in-None c = (refl, none_reads SaysName c.args.values.now c.loop-value.value-index c.value-item.result (omega arith) c.value-item.is c.in-None.ensures)

pub loop-value-preserved : goal.loop-value-preserved
loop-value-preserved c =
    rw c.in_ok-push-in-Some.ensures.items (
    reads_more SaysName c.args.values.now c.loop-value.value-index c.value-item.result c.loop-value.names.items c.in-Some.name (omega arith) c.value-item.is c.loop-value.invariant c.in-Some.ensures
    )
