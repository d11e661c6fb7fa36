use Rattle.std.proofs.Common.{arith}
use Rattle.std.proofs.lemmas.Grind.{elements}
use Rattle.operator_notes.proofs.node_files.store_path.Goals as goal

pub returns : goal.returns
returns c = grind (arith, elements)
