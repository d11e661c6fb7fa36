use Rattle.match_log.specs.Lines.{header_line}
use Rattle.std.proofs.Common.{arith}
use Rattle.std.proofs.lemmas.Grind.{common_steps}
use Rattle.match_log.proofs.log_header.header_reserved.Goals as goal

pub returns-clause-items : goal.returns-clause-items
unfolding header_line
returns-clause-items c = grind (arith, common_steps)
