use Rattle.std.proofs.Common.{refl}
use Rattle.promise_store.specs.declared.stage.Stage.TheVariants.{New}
use Rattle.promise_store.proofs.store.Store.promise.Goals as goal

pub returns-clause-appended : goal.returns-clause-appended
returns-clause-appended g c = c.append.ensures.appended New New refl
