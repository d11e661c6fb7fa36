use Rattle.streamed.proofs.Telling.{none_told}
use Rattle.streamed.proofs.dealing.Dealing.read_command.Goals as goal

pub returns-in-None-clause-none : goal.returns-in-None-clause-none
returns-in-None-clause-none c = none_told _ _ _ c.read_turn.result c.in-None.ensures.none c.read_turn.ensures.no_act c.read_turn.ensures.no_away
