use Rattle.std.proofs.Common.{rules}
use Rattle.streamed.proofs.Streams.{on_ok}
use Rattle.streamed.proofs.dealing.Dealing.take_line.Goals as goal

pub returns-in-Told-clause-stands : goal.returns-in-Told-clause-stands
returns-in-Told-clause-stands c = rw c.in-Told.is c.take_command.ensures.stands

pub returns-in-Names-clause-stands : goal.returns-in-Names-clause-stands
returns-in-Names-clause-stands c = on_ok c.take_names.result _ (rw c.in-Names.is c.take_names.ensures.stands)

pub returns-in-Bad-clause-stands : goal.returns-in-Bad-clause-stands
returns-in-Bad-clause-stands c = search rules
