use Rattle.promise_store.proofs.Backing.{answers_backed, proposals_backed, run_still_backed}
use Rattle.promise_store.proofs.laws.answers_are_backed.Goals as goal

pub returns-clause-votes : goal.returns-clause-votes
returns-clause-votes c store ballot sender slot commands message said = answers_backed ballot store sender slot commands message said

pub returns-clause-own_votes : goal.returns-clause-own_votes
returns-clause-own_votes c store ballot slot commands message said = proposals_backed ballot store slot commands message said

pub returns-clause-after_votes : goal.returns-clause-after_votes
returns-clause-after_votes c store ballot slot commands message no_other backs = run_still_backed ballot store slot commands no_other message backs
