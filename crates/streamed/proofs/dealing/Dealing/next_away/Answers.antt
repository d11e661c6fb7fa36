use Rattle.std.proofs.Common.{arith}
use Rattle.std.proofs.lemmas.Grind.{elements}
use Rattle.streamed.proofs.dealing.Dealing.next_away.Goals as goal

pub returns-clause-found : goal.returns-clause-found
returns-clause-found c = grind (arith, elements)
