use Rattle.protocol_model.proofs.Votes.{tells}
use Rattle.acceptor.proofs.Told.{told_are_entries}
use Rattle.acceptor.proofs.laws.told_are_held.Goals as goal

pub returns-clause-held : goal.returns-clause-held
returns-clause-held c = tells

pub returns-clause-rise : goal.returns-clause-rise
returns-clause-rise c = told_are_entries
