use Rattle.std.proofs.Common.{sym, subst}
use Rattle.std.specs.Prelude.{Result, IfOk, IfErr}
use Rattle.promise_store.specs.declared.store.Store.{Store}
use Rattle.promise_store.specs.declared.stage.Stage.{Stage}
use Rattle.promise_store.specs.declared.stage.Stage.TheVariants.{New}
use Rattle.promise_store.specs.declared.fault.StoreFault.{StoreFault}
use Rattle.promise_store.specs.Journals.{header}
use Rattle.promise_store.specs.Settled.{OnlyReads, IsSettled}
use Rattle.promise_store.specs.Keeping.{disk_of}
use Rattle.promise_store.proofs.Reopening.{only_read, on_ok, on_err, keeps_either, opened_by, marked_journal}
use Rattle.promise_store.proofs.store.Store.open.Goals as goal

pub returns-in-Ok-clause-either : goal.returns-in-Ok-clause-either
returns-in-Ok-clause-either g c old new honest left =
    keeps_either g.D.Disk (header c.args.node c.args.nodes) c.in-Ok.stage c.args.disk c.in-Ok.store c.in-Ok.ensures.reads (λ o n h l. c.in-Ok.ensures.either o n h l) c.mark.result old new honest left c.mark.ensures

pub returns-in-Ok-clause-settles : goal.returns-in-Ok-clause-settles
returns-in-Ok-clause-settles g c =
    let head = header c.args.node c.args.nodes in
    on_ok g.D.Disk head c.in-Ok.stage c.args.disk c.in-Ok.store c.in-Ok.ensures.reads (λ o n h l. c.in-Ok.ensures.either o n h l) c.mark.result c.mark.ensures

pub returns-in-Ok-clause-settles_err : goal.returns-in-Ok-clause-settles_err
returns-in-Ok-clause-settles_err g c =
    let head = header c.args.node c.args.nodes in
    on_err g.D.Disk head c.in-Ok.stage c.args.disk c.in-Ok.store c.in-Ok.ensures.reads (λ o n h l. c.in-Ok.ensures.either o n h l) c.mark.result c.mark.ensures

pub returns-in-Err-clause-settles_err : goal.returns-in-Err-clause-settles_err
returns-in-Err-clause-settles_err g c = only_read g.D.Disk (header c.args.node c.args.nodes) c.args.disk c.in-Err.failed.0 c.in-Err.ensures.reads_err

pub returns-in-Ok-clause-opened : goal.returns-in-Ok-clause-opened
returns-in-Ok-clause-opened g c =
    opened_by g.D.Disk (header c.args.node c.args.nodes) c.in-Ok.stage c.args.disk c.in-Ok.store c.in-Ok.ensures.reads (λ o n h l. c.in-Ok.ensures.either o n h l) c.mark.result c.in-Ok.ensures.opened c.mark.ensures

pub returns-in-Ok-clause-marks : goal.returns-in-Ok-clause-marks
returns-in-Ok-clause-marks g c honest first last records journal =
    let head = header c.args.node c.args.nodes in
    let read = c.in-Ok.ensures.read honest first last records journal in
    marked_journal g.D.Disk first c.in-Ok.stage last head records c.mark.result honest read.0
    (c.mark.ensures.marks first head records (subst (λ (s : Stage). IsSettled g.D.Disk first s head records c.in-Ok.store.gate c.in-Ok.store.disk) (sym read.0) read.1))

pub returns-in-Ok-clause-quiet : goal.returns-in-Ok-clause-quiet
returns-in-Ok-clause-quiet g c honest first records journal =
    let same = c.mark.ensures.quiet (c.in-Ok.ensures.read honest first New records journal).0 in
    subst (λ (r : Result (Store g.row.D.Denot) (g.row.D.Denot × StoreFault)). IfOk r (λ store. OnlyReads g.D.Disk c.args.disk (disk_of store))) (sym same) c.in-Ok.ensures.reads

pub returns-in-Ok-clause-quiet_err : goal.returns-in-Ok-clause-quiet_err
returns-in-Ok-clause-quiet_err g c honest first records journal =
    let same = c.mark.ensures.quiet (c.in-Ok.ensures.read honest first New records journal).0 in
    subst (λ (r : Result (Store g.row.D.Denot) (g.row.D.Denot × StoreFault)). IfErr r (λ x. OnlyReads g.D.Disk c.args.disk x.0)) (sym same) tt
