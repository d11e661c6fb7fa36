use Rattle.std.proofs.Common.{refl, arith}
use Rattle.match_file.specs.Hosts.{SaysHost}
use Rattle.match_file.proofs.Views.{reads_more, none_reads}
use Rattle.match_file.proofs.hosts.hosts_in.Goals as goal

pub returns-in-None : goal.returns-in-None
returns-in-None c = (refl, none_reads SaysHost c.args.values.now c.loop-value.value-index c.value-item.result (omega arith) c.value-item.is c.in-None.ensures)

pub loop-value-preserved : goal.loop-value-preserved
loop-value-preserved c =
    rw c.in_ok-push-in-Some.ensures.items (
    reads_more SaysHost c.args.values.now c.loop-value.value-index c.value-item.result c.loop-value.hosts.items c.in-Some.host (omega arith) c.value-item.is c.loop-value.invariant c.in-Some.ensures
    )
