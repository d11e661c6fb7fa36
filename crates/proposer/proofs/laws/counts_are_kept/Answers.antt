use Rattle.proposer.proofs.Kept.{promise_counts, begin_marks, proposal_marks}
use Rattle.proposer.proofs.laws.counts_are_kept.Goals as goal

pub returns-clause-begin_marks : goal.returns-clause-begin_marks
returns-clause-begin_marks c = begin_marks

pub returns-clause-promise : goal.returns-clause-promise
returns-clause-promise c = promise_counts

pub returns-clause-proposal_marks : goal.returns-clause-proposal_marks
returns-clause-proposal_marks c = proposal_marks
