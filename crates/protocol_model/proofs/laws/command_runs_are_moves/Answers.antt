-- By induction on the commands.
use Rattle.protocol_model.proofs.CommandRuns.{command_run_votes, command_run_appends, command_run_backed, command_run_stays, command_run_proposes, command_run_within, command_run_promised, taken_whole}
use Rattle.protocol_model.proofs.TakenRuns.{least_taken, most_taken, taken_fresh, taken_held, taking_stands, votes_inside, votes_outside, promise_after}
use Rattle.protocol_model.proofs.laws.command_runs_are_moves.Goals as goal

pub returns-clause-votes : goal.returns-clause-votes
returns-clause-votes c = command_run_votes

pub returns-clause-append : goal.returns-clause-append
returns-clause-append c = command_run_appends

pub returns-clause-backed : goal.returns-clause-backed
returns-clause-backed c = command_run_backed

pub returns-clause-stays : goal.returns-clause-stays
returns-clause-stays c = command_run_stays

pub returns-clause-within : goal.returns-clause-within
returns-clause-within c = command_run_within

pub returns-clause-promised : goal.returns-clause-promised
returns-clause-promised c = command_run_promised

pub returns-clause-least : goal.returns-clause-least
returns-clause-least c = least_taken

pub returns-clause-most : goal.returns-clause-most
returns-clause-most c = most_taken

pub returns-clause-begins : goal.returns-clause-begins
returns-clause-begins c = taken_fresh

pub returns-clause-repeats : goal.returns-clause-repeats
returns-clause-repeats c = taken_held

pub returns-clause-stands : goal.returns-clause-stands
returns-clause-stands c = taking_stands

pub returns-clause-inside : goal.returns-clause-inside
returns-clause-inside c = votes_inside

pub returns-clause-outside : goal.returns-clause-outside
returns-clause-outside c = votes_outside

pub returns-clause-promise : goal.returns-clause-promise
returns-clause-promise c = promise_after

pub returns-clause-taken_whole : goal.returns-clause-taken_whole
returns-clause-taken_whole c = taken_whole

pub returns-clause-proposals : goal.returns-clause-proposals
returns-clause-proposals c = command_run_proposes
