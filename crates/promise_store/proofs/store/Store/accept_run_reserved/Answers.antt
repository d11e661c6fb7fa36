use Rattle.std.proofs.Common.{List, refl, subst}
use Rattle.slot_log.specs.declared.command.Command.{Command}
use Rattle.promise_store.specs.declared.records.Record.TheVariants.{Voted}
use Rattle.promise_store.specs.declared.stage.Stage.TheVariants.{New}
use Rattle.promise_store.specs.Appended.{AppendedAt}
use Rattle.promise_store.proofs.store.Store.accept_run_reserved.Goals as goal

pub returns-clause-appended : goal.returns-clause-appended
returns-clause-appended g c =
    subst (λ (l : List Command). AppendedAt g.D.Disk New New (Voted c.args.ballot c.args.slot l) c.args.self.now c.append.new.self c.append.result) c.new.ensures (c.append.ensures.appended New New refl)
