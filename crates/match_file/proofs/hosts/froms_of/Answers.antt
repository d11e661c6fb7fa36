use Rattle.std.proofs.Common.{map, arith}
use Rattle.std.proofs.lemmas.Result.{err_from_is_err_and}
use Rattle.toml.specs.View.{view}
use Rattle.match_file.specs.Said.{IsAbsent, EachSays}
use Rattle.match_file.specs.Hosts.{SaysFrom}
use Rattle.match_file.specs.declared.key.Key.TheVariants.{From}
use Rattle.match_file.proofs.Told.{told_wider}
use Rattle.match_file.proofs.Views.{reads_more, none_reads}
use Rattle.match_file.proofs.hosts.froms_of.Goals as goal

pub returns-in_err-hosts : goal.returns-in_err-hosts
returns-in_err-hosts c =
    let p = err_from_is_err_and c.from_residual.result c.from_residual.ensures.1 in
    rw (p.1, p.2) (
    told_wider From (IsAbsent (SaysFrom (view c.value-item.result))) (IsAbsent (EachSays SaysFrom (map view c.args.values.now))) c.in_err-hosts.field-0.0
    (none_reads SaysFrom c.args.values.now c.loop-value.value-index c.value-item.result (omega arith) c.value-item.is) c.in_err-hosts.ensures
    )

pub loop-value-preserved : goal.loop-value-preserved
loop-value-preserved c =
    rw c.in_ok-push.ensures.items (
    reads_more SaysFrom c.args.values.now c.loop-value.value-index c.value-item.result c.loop-value.froms.items c.in_ok-hosts.hosts (omega arith) c.value-item.is c.loop-value.invariant c.in_ok-hosts.ensures
    )
