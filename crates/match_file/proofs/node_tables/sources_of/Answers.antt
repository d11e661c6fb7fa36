use Rattle.std.proofs.Common.{map, arith}
use Rattle.std.proofs.lemmas.Result.{err_from_is_err_and}
use Rattle.toml.specs.View.{view}
use Rattle.match_file.specs.Said.{IsAbsent, EachSays, SaysSource}
use Rattle.match_file.specs.declared.key.Key.TheVariants.{Node}
use Rattle.match_file.proofs.Told.{told_wider}
use Rattle.match_file.proofs.Views.{reads_more, none_reads}
use Rattle.match_file.proofs.node_tables.sources_of.Goals as goal

pub returns-in_err-source : goal.returns-in_err-source
returns-in_err-source c =
    let p = err_from_is_err_and c.from_residual.result c.from_residual.ensures.1 in
    rw (p.1, p.2) (
    told_wider Node (IsAbsent (SaysSource c.args.players c.args.hands (view c.value-item.result))) (IsAbsent (EachSays (SaysSource c.args.players c.args.hands) (map view c.args.values.now))) c.in_err-source.field-0.0
    (none_reads (SaysSource c.args.players c.args.hands) c.args.values.now c.loop-value.value-index c.value-item.result (omega arith) c.value-item.is) c.in_err-source.ensures
    )

pub loop-value-preserved : goal.loop-value-preserved
loop-value-preserved c =
    rw c.in_ok-push.ensures.items (
    reads_more (SaysSource c.args.players c.args.hands) c.args.values.now c.loop-value.value-index c.value-item.result c.loop-value.sources.items c.in_ok-source.source (omega arith) c.value-item.is c.loop-value.invariant
    c.in_ok-source.ensures
    )
