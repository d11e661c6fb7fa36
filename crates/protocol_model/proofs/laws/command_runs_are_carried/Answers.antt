use Rattle.protocol_model.proofs.CarriedRuns.{proposals_carry, answers_carry, as_many_proposals, as_many_answers, only_proposals, only_answers}
use Rattle.protocol_model.proofs.laws.command_runs_are_carried.Goals as goal

pub returns-clause-proposals : goal.returns-clause-proposals
returns-clause-proposals c = proposals_carry

pub returns-clause-answers : goal.returns-clause-answers
returns-clause-answers c = answers_carry

pub returns-clause-as_many_proposals : goal.returns-clause-as_many_proposals
returns-clause-as_many_proposals c = as_many_proposals

pub returns-clause-as_many_answers : goal.returns-clause-as_many_answers
returns-clause-as_many_answers c = as_many_answers

pub returns-clause-only_proposals : goal.returns-clause-only_proposals
returns-clause-only_proposals c = only_proposals

pub returns-clause-only_answers : goal.returns-clause-only_answers
returns-clause-only_answers c = only_answers
