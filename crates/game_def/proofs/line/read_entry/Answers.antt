use Rattle.game_def.specs.Reading.{entry_with}
use Rattle.std.proofs.Common.{rules}
use Rattle.game_def.proofs.line.read_entry.Goals as goal

pub returns-in_err-values-clause-value : goal.returns-in_err-values-clause-value
unfolding entry_with
returns-in_err-values-clause-value c = search rules

pub returns-clause-value : goal.returns-clause-value
unfolding entry_with
returns-clause-value c = search rules

pub returns-clause-new_key : goal.returns-clause-new_key
unfolding entry_with
returns-clause-new_key c = search rules
