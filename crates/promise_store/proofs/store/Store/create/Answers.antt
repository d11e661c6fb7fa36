use Rattle.std.proofs.Common.{[], refl, arith}
use Rattle.promise_store.specs.declared.stage.Stage.TheVariants.{New}
use Rattle.promise_store.proofs.store.Store.create.Goals as goal

pub returns-in-Ok-clause-new : goal.returns-in-Ok-clause-new
returns-in-Ok-clause-new g c honest = record { gate = 0; rest = _; stands = refl; shut = λ e. omega (arith, e); each = tt; text = c.in-Ok.ensures.written honest (omega arith) }

pub returns-in-Ok-clause-made : goal.returns-in-Ok-clause-made
returns-in-Ok-clause-made g c = record {
  first = New;
  records = [];
  is_open = refl;
  settled = record {
    journal = returns-in-Ok-clause-new g c;
    at_gate = λ honest. refl;
    durable = c.in-Ok.ensures.durable;
  };
  is = refl;
  indexes = λ honest. c.new.ensures;
}
