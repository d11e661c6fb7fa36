use Rattle.std.proofs.Common.{◌+◌, ◌≤◌, [], ◌∷◌, ◌++◌, arith}
use Rattle.node_runs.specs.NoteLimits.{counted_at}
use Rattle.node_runs.proofs.Accounts.{passed, told_next, with_next}
use Rattle.node_runs.proofs.note_limits.NoteLimits.due.Goals as goal

pub returns-in_default-clause-same : goal.returns-in_default-clause-same
returns-in_default-clause-same c = λ none came told account.
    let later : c.args.self.now.clock ≤ c.pass.new.self.clock = omega (arith, c.pass.ensures.clock) in
    passed came told c.args.self.now c.pass.new.self account later c.pass.ensures.recent c.pass.ensures.waiting

pub returns-clause-account : goal.returns-clause-account
returns-clause-account c = λ came told account.
    let later : c.args.self.now.clock ≤ c.pass.new.self.clock = omega (arith, c.pass.ensures.clock) in
    let mid = passed came told c.args.self.now c.pass.new.self account later c.pass.ensures.recent c.pass.ensures.waiting in
    with_next came (told ++ counted_at c.set_waiting.new.self.clock c.in-Some.group c.count_of-count.result ∷ []) c.set_waiting.new.self (c.in-Some.group + 1)
    (told_next came told c.pass.new.self c.put.new.self c.set_waiting.new.self c.in-Some.group c.count_of-count.result mid c.in-Some.ensures.due c.count_of-count.ensures c.put.ensures.clock c.put.ensures.recent
    c.put.ensures.waiting c.set_waiting.ensures.waits c.set_waiting.ensures.clock c.set_waiting.ensures.recent)
