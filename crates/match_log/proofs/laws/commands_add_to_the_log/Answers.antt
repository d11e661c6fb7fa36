use Rattle.match_log.proofs.Growing.{commands_add}
use Rattle.match_log.proofs.laws.commands_add_to_the_log.Goals as goal

pub returns : goal.returns
returns c = commands_add
