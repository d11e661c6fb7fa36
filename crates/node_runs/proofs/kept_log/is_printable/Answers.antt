use Rattle.std.proofs.Common.{arith}
use Rattle.std.proofs.lemmas.Grind.{elements}
use Rattle.node_runs.proofs.kept_log.is_printable.Goals as goal

pub returns : goal.returns
returns c = grind (arith, elements)
