use Rattle.promise_store.proofs.Greatest.{greatest, last_of_greatest, none_there, held_within}
use Rattle.promise_store.proofs.laws.greatest_ballots_are_held.Goals as goal

pub returns-clause-promise : goal.returns-clause-promise
returns-clause-promise c head records = greatest head records

pub returns-clause-votes : goal.returns-clause-votes
returns-clause-votes c head records slot vote is = last_of_greatest head records slot vote is

pub returns-clause-none : goal.returns-clause-none
returns-clause-none c head records slot ballot command none there = none_there head records slot ballot command none there

pub returns-clause-within : goal.returns-clause-within
returns-clause-within c head records = held_within head records
