use Rattle.std.proofs.Common.{sym, subst}
use Rattle.protocol_model.specs.Stores as model
use Rattle.protocol_model.specs.Backing.{IsWithinPromise}
use Rattle.promise_store.proofs.Greatest.{held_within}
use Rattle.promise_store.proofs.Ranges.{ballot_or_none}
use Rattle.promise_store.proofs.store.Store.held.Goals as goal

pub returns-clause-within : goal.returns-clause-within
returns-clause-within g c head held keeps = subst (λ (s : model.Store). IsWithinPromise s) (sym keeps.is) (held_within head keeps.records)

pub returns-clause-ranges : goal.returns-clause-ranges
returns-clause-ranges g c = record {
  promise = ballot_or_none c.args.self.now.held.promised c.args.self.now.held.promise_in_range;
  entries = c.args.self.now.held.entries_in_range;
}
