use Rattle.std.proofs.Common.{◌≤◌, arith}
use Rattle.node_runs.proofs.Accounts.{passed}
use Rattle.node_runs.proofs.waiting_notes.WaitingNotes.pass.Goals as goal

pub returns-clause-holds : goal.returns-clause-holds
returns-clause-holds c = λ things came lines holds.
    let later : c.args.self.now.limits.clock ≤ c.pass.new.self.clock = omega (arith, c.pass.ensures.clock) in
    record { account = passed came lines c.args.self.now.limits c.pass.new.self holds.account later c.pass.ensures.recent c.pass.ensures.waiting; newest = holds.newest }
