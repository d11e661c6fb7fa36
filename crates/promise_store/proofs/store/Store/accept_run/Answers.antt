use Rattle.promise_store.proofs.Storing.{appended_behind}
use Rattle.promise_store.proofs.store.Store.accept_run.Goals as goal

pub returns-clause-appended : goal.returns-clause-appended
returns-clause-appended g c = appended_behind g.D.Disk _ c.args.self.now c.reserve.new.self c.accept_run_reserved.new.self c.accept_run_reserved.result c.reserve.ensures.same c.reserve.ensures.shows c.accept_run_reserved.ensures.appended
