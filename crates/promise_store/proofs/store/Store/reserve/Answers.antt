use Rattle.std.proofs.Common.{refl, rules}
use Rattle.promise_store.proofs.store.Store.reserve.Goals as goal

pub returns-clause-same : goal.returns-clause-same
returns-clause-same g c = record {
  disk = refl;
  closed = refl;
  keeps = λ head held keeps. record {
    first = keeps.first;
    records = keeps.records;
    is_open = keeps.is_open;
    settled = keeps.settled;
    is = keeps.is;
    indexes = λ honest. c.reserve.ensures.same _ (keeps.indexes honest);
  };
}

pub returns-clause-room : goal.returns-clause-room
returns-clause-room g c = search rules
